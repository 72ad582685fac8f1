-- A text of definitions that was written is spelled.
use Rattle.std.proofs.Common.{◌≡◌, nat_le, ℕ, ◌+◌, ◌^◌, ◌≤◌, ◌<◌, Bool, true, List, [], ◌∷◌, ◌++◌, map, length, codes, refl, sym, ◌∙◌, ap, ap₂, arith, subst, append_assoc}
use Rattle.std.specs.Fmt.{decimal}
use Rattle.std.specs.List.{AllByRecursion, AllZip, flat_map, zip}
use Rattle.std.proofs.lemmas.Bool.{and_parts, leb-true}
use Rattle.std.proofs.lemmas.List.Elements.{recursion_from_All}
use Rattle.dq_lits.specs.Derivation.{ProofStep}
use Rattle.dq_lits.specs.Formula.{Dqbf}
use Rattle.dq_lits.specs.Literal.{Literal, variable_of}
use Rattle.dq_formula.specs.Prefix.{IsLawful, existential_variables}
use Rattle.dq_text.proofs.Numerals.{natural_is_read}
use Rattle.circuit_plain.specs.declared.circuits.Gate.{Gate}
use Rattle.cert_text.specs.AllowedDefinitions.{AreBlocksOf, AreGatesFrom, HasFewSteps, HaveFewSteps, IsBlockOf, IsDefinitionOf}
use Rattle.cert_text.specs.CanonicalDefinitions.{WrittenDefinitionsSpell, block_text, definition_text, definitions_text, pair_text}
use Rattle.cert_text.specs.DefinitionBlocks.{Definition, DefinitionBlock, FreePair, defined, free}
use Rattle.cert_text.specs.DefinitionGrammar.{SpellsLine, block_spelling, definition_spelling, gate_spelling, header_spelling, pair_spelling, signs_spelling, step_spelling}
use Rattle.cert_text.specs.Grammar.{AreSteps}
use Rattle.cert_text.specs.Header.{max_count}
use Rattle.cert_text.specs.Variables.{is_up_to}
use Rattle.cert_text.proofs.CanonicalLines.{HasSmallLiterals, bit_word, bits_numbers, row_tokens, small_hints, spellable, step_spells, step_tokens}
use Rattle.cert_text.proofs.LineTokens.{tokens_by_text}
use Rattle.cert_text.proofs.LineWords.{tokens_of}
use Rattle.cert_text.proofs.NumberWords.{IsSpellable}
use Rattle.cert_text.proofs.Parts.{universals_in_range}
use Rattle.cert_text.proofs.SpelledBlocks.{AreSpelled, both_each, joined}
use Rattle.cert_text.proofs.TakenDefinitions.{existentials_in_range, few_existentials, half_below}
use Rattle.cert_text.proofs.WrittenBlocks.{AreSmallSteps, IsSmallDefinition, IsSmallGate, definition_lines, free_tokens, gate_tokens, head_tokens, header_line, header_tokens, pair_lines, values_tokens}

-- numbers that a text can hold
small_gates : (f : Dqbf) (variable : ℕ) (gates : List Gate) → AreGatesFrom f variable gates →
    variable + length gates < 10 ^ 17 → AllByRecursion IsSmallGate gates
small_gates f variable [] are few = tt
small_gates f variable (g ∷ gates) are few =
    let is = are.0 in
    let numbered = is.numbered in
    let left = half_below g.left variable is.left_before in
    let right = half_below g.right variable is.right_before in (
      record {
        variable = omega (arith, numbered, few);
        left = omega (arith, left, few);
        right = omega (arith, right, few);
      },
      small_gates f (variable + 1) gates are.1 (omega (arith, few)),
    )

small_variables : (last : ℕ) (ls : List Literal) → last < 10 ^ 18 →
    AllByRecursion (λ l. is_up_to last (variable_of l) ≡ true) ls → HasSmallLiterals ls
small_variables last [] small on = tt
small_variables last (l ∷ ls) small on =
    search (arith, and_parts, nat_le, leb-true, (small_variables last ls small on.1))

small_steps : (last id : ℕ) (steps : List ProofStep) → AreSteps (is_up_to last) id steps → last < 10 ^ 18 →
    id + length steps < 10 ^ 18 → AreSmallSteps steps
small_steps last id [] are small few = tt
small_steps last id (s ∷ steps) are small few =
    let is = are.0 in
    let below : id < 10 ^ 18 = omega (arith, few) in (
      record {
        id = subst (λ n. n < 10 ^ 18) (sym is.numbered) below;
        literals = small_variables last s.literals small
            (recursion_from_All (λ l. is_up_to last (variable_of l) ≡ true) s.literals is.on_variables);
        hints = small_hints id s.hints below (recursion_from_All (λ h. (1 ≤ h) × (h < id)) s.hints is.hints_before);
      },
      small_steps last (id + 1) steps are.1 small (omega (arith, few)),
    )

small_definition : (f : Dqbf) (d : Definition) → f.variables ≤ 1000000 → length f.matrix ≤ 10000000 →
    d.existential ≤ f.variables → IsDefinitionOf f d → length d.steps ≤ max_count → IsSmallDefinition d
small_definition f d few_variables few_clauses own is few =
    search (arith, and_parts, nat_le, leb-true, half_below, small_gates, small_steps)

-- lines that were written are spelled
gate_spelled : (g : Gate) → IsSmallGate g → SpellsLine (gate_tokens g) (gate_spelling g)
gate_spelled g small = search (arith, gate_tokens, natural_is_read)

gates_spelled : (gates : List Gate) → AllByRecursion IsSmallGate gates →
    AllZip SpellsLine (map gate_tokens gates) (map gate_spelling gates)
gates_spelled [] small = tt
gates_spelled (g ∷ gates) small = (gate_spelled g small.0, gates_spelled gates small.1)

steps_spelled : (steps : List ProofStep) → AreSmallSteps steps →
    AllZip SpellsLine (map step_tokens steps) (map step_spelling steps)
steps_spelled [] small = tt
steps_spelled (s ∷ steps) small = search (arith, step_tokens, step_spells, (steps_spelled steps small.1))

definition_spelled : (d : Definition) (rest : List ℕ) → IsSmallDefinition d →
    AreSpelled (definition_spelling d) (tokens_of rest) (tokens_of (definition_text d ++ rest))
definition_spelled d rest small =
    let g = length d.gates in
    let n = length d.steps in
    record {
      spelled = head_tokens d ∷ (map gate_tokens d.gates ++ map step_tokens d.steps);
      each = (
        record {
          rest = decimal d.existential ∷ decimal d.output ∷ decimal g ∷ decimal n ∷ [];
          words = refl;
          numbers = ap₂ (λ m ms. m ∷ ms) (natural_is_read d.existential small.existential)
              (ap₂ (λ m ms. m ∷ ms) (natural_is_read d.output small.output)
              (ap₂ (λ k m. k ∷ m ∷ []) (natural_is_read g small.few_gates) (natural_is_read n small.few_steps)));
        },
        both_each (map gate_spelling d.gates) (map step_spelling d.steps) (map gate_tokens d.gates)
            (map step_tokens d.steps) (gates_spelled d.gates small.gates) (steps_spelled d.steps small.steps),
      );
      are = definition_lines d rest small ∙ ap (λ ts. head_tokens d ∷ ts)
          (sym (append_assoc (map gate_tokens d.gates) (map step_tokens d.steps) (tokens_of rest)));
    }

signs_spelled : (letter vs : List ℕ) (bits : List Bool) → AllByRecursion IsSpellable vs →
    SpellsLine (letter ∷ (map bit_word (zip vs bits) ++ codes "0" ∷ [])) (signs_spelling letter vs bits)
signs_spelled letter vs bits are = search (arith, bit_word, bits_numbers)

module _ (f : Dqbf) (us : AllByRecursion IsSpellable f.universals)
    (ys : AllByRecursion IsSpellable (existential_variables f)) where
  pair_spelled : (p : FreePair) (rest : List ℕ) → p.existential < 10 ^ 18 →
      AreSpelled (pair_spelling f p) (tokens_of rest) (tokens_of (pair_text f p ++ rest))
  pair_spelled p rest small =
      let vs = existential_variables f in
      record {
        spelled = free_tokens p.existential ∷ row_tokens f.universals p.first.row ∷ values_tokens vs p.first.values
            ∷ row_tokens f.universals p.second.row ∷ values_tokens vs p.second.values ∷ [];
        each = (
          record {
            rest = decimal p.existential ∷ [];
            words = refl;
            numbers = ap (λ n. n ∷ []) (natural_is_read p.existential small);
          },
          (
            signs_spelled (codes "u") f.universals p.first.row us,
            (
              signs_spelled (codes "v") vs p.first.values ys,
              (
                signs_spelled (codes "u") f.universals p.second.row us,
                (signs_spelled (codes "v") vs p.second.values ys, tt),
              ),
            ),
          ),
        );
        are = pair_lines f p rest small us ys;
      }

  block_spelled : f.variables ≤ 1000000 → length f.matrix ≤ 10000000 → (y : ℕ) (block : DefinitionBlock)
      (rest : List ℕ) → y ≤ f.variables → IsBlockOf f y block → HasFewSteps block →
      AreSpelled (block_spelling f block) (tokens_of rest) (tokens_of (block_text f block ++ rest))
  block_spelled few few_clauses y (defined d) rest own is steps = search (arith, definition_spelled, small_definition)
  block_spelled few few_clauses y (free p) rest own is steps = search (arith, pair_spelled)

  blocks_spelled : f.variables ≤ 1000000 → length f.matrix ≤ 10000000 → (vs : List ℕ)
      (blocks : List DefinitionBlock) → AllByRecursion (λ v. v ≤ f.variables) vs → AreBlocksOf f vs blocks →
      HaveFewSteps blocks →
      AreSpelled (flat_map (block_spelling f) blocks) [] (tokens_of (flat_map (block_text f) blocks))
  blocks_spelled few few_clauses [] [] own are steps = record { spelled = []; each = tt; are = refl }
  blocks_spelled few few_clauses [] (block ∷ blocks) own are steps = absurd are
  blocks_spelled few few_clauses (v ∷ vs) [] own are steps = absurd are
  blocks_spelled few few_clauses (v ∷ vs) (block ∷ blocks) own are steps =
      let behind = flat_map (block_text f) blocks in
      joined (block_spelling f block) (flat_map (block_spelling f) blocks) [] (tokens_of behind)
      (tokens_of (block_text f block ++ behind))
      (block_spelled few few_clauses v block behind own.0 are.0 steps.0)
      (blocks_spelled few few_clauses vs blocks own.1 are.1 steps.1)

low_part : (variables : ℕ) (xs : List ℕ) → AllByRecursion (λ v. (1 ≤ v) × (v ≤ variables)) xs →
    AllByRecursion (λ v. v ≤ variables) xs
low_part variables [] all = tt
low_part variables (x ∷ xs) all = (all.0.1, low_part variables xs all.1)

text_spelled : (f : Dqbf) (blocks : List DefinitionBlock) → IsLawful f →
    AreBlocksOf f (existential_variables f) blocks → HaveFewSteps blocks →
    AreSpelled (header_spelling f ∷ flat_map (block_spelling f) blocks) [] (tokens_of (definitions_text f blocks))
text_spelled f blocks lawful are steps =
    let n = length f.existentials in
    let few : f.variables ≤ 1000000 = lawful.few_variables in
    let small : f.variables < 10 ^ 18 = omega (arith, few) in
    let small_count : n < 10 ^ 18 = let m = few_existentials f lawful in omega (arith, m) in
    let vs = existential_variables f in
    let in_range = existentials_in_range f lawful in
    let rest = blocks_spelled f (spellable f.variables f.universals small (universals_in_range f lawful))
    (spellable f.variables vs small in_range) few lawful.few_clauses vs blocks (low_part f.variables vs in_range) are
    steps in
    record {
      spelled = header_tokens n ∷ rest.spelled;
      each = (
        record {
          rest = decimal n ∷ [];
          words = refl;
          numbers = ap (λ m. m ∷ []) (natural_is_read n small_count);
        },
        rest.each,
      );
      are = header_line n (flat_map (block_text f) blocks) small_count ∙ ap (λ ts. header_tokens n ∷ ts) rest.are;
    }

pub written_definitions_spell : WrittenDefinitionsSpell
written_definitions_spell f blocks lawful are steps =
    let t = text_spelled f blocks lawful are steps in
    record {
      spelled = t.spelled;
      blank_lines = 0;
      lines = tokens_by_text 1 (definitions_text f blocks) ∙ t.are;
      each = t.each;
      allowed = are;
      few_steps = steps;
    }
