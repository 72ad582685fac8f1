-- What is spelled as definitions is read.
use Rattle.std.proofs.Common.{◌≡◌, nat_lt, ℕ, ◌+◌, ◌*◌, ◌^◌, ◌≤◌, ◌<◌, ◌||◌, not, pos, Bool, true, false, cond, List, [], ◌∷◌, ◌++◌, map, length, length-append, replicate, codes, Result, Ok, Err, refl, sym, ◌∙◌, ap, ap₂, arith, subst, eqb, append_assoc}
use Rattle.std.specs.List.{AllByRecursion, AllZip, flat_map, list_any}
use Rattle.std.proofs.Math.Nat.{div-lt_iff_lt-mul}
use Rattle.std.proofs.lemmas.Bool.{and_from, eq-eqb, lt-ltb, le-ltb, lt-leb}
use Rattle.std.proofs.lemmas.Bool.Decides.{Decides-eqb}
use Rattle.std.proofs.lemmas.Map.Steps.{length-le_from_distinct_below}
use Rattle.std.proofs.lemmas.List.{length-map}
use Rattle.std.proofs.lemmas.List.Elements.{All-contains, recursion_from_All}
use Rattle.std.proofs.lemmas.Map.Made.{IsDistinct-from_AllPairs}
use Rattle.std.proofs.lemmas.Slice.Eq.{bytes_eq-Decides}
use Rattle.list_laws.proofs.Truths.{both_false}
use Rattle.list_laws.proofs.Sequences.{all_behind, positive}
use Rattle.list_laws.proofs.Members.{contains_found}
use Rattle.dq_lits.specs.Derivation.{ProofStep}
use Rattle.dq_lits.specs.Formula.{Dqbf, declared}
use Rattle.dq_formula.specs.Prefix.{IsLawful, existential_variables}
use Rattle.dq_text.specs.Line.{TextLine, line_tokens}
use Rattle.dq_text.specs.Number.{number_of}
use Rattle.dq_text.specs.declared.numbers.Number.TheVariants.{Int}
use Rattle.dq_text.proofs.Naturals.{natural_taken}
use Rattle.circuit_plain.specs.Netlist.{literal_variable}
use Rattle.circuit_plain.specs.declared.circuits.Gate.{Gate}
use Rattle.cert_text.specs.AllowedDefinitions.{AreBlocksOf, AreGatesFrom, HasFewSteps, HaveFewSteps, IsBlockOf, IsDefinitionOf, IsGateAt, IsValuationOf, first_definition_id}
use Rattle.cert_text.specs.DefinitionBlocks.{Definition, DefinitionBlock, FreePair, Valuation, defined, free}
use Rattle.cert_text.specs.DefinitionGrammar.{Line, SpellsDefinitions, SpellsLine, block_spelling, definition_spelling, gate_spelling, header_spelling, naturals, pair_spelling, signs_spelling, step_spelling, valuation_spelling}
use Rattle.cert_text.specs.DefinitionLine.{defined_head, definition_gate, definition_gates, definitions_header, free_head, head_line, is_large, signs_line}
use Rattle.cert_text.specs.DefinitionText.{PartRead, as_block, definitions_of, next_line, read_behind_head, read_block, read_blocks, read_definitions, read_valuation}
use Rattle.cert_text.specs.Grammar.{AreSteps, Tokens, integers}
use Rattle.cert_text.specs.Header.{max_count}
use Rattle.cert_text.specs.ItemLine.{step_lines}
use Rattle.cert_text.specs.LineStop.{and_then}
use Rattle.cert_text.specs.Lines.{and_read, at_line, read_some}
use Rattle.cert_text.specs.Numbers.{line_integers}
use Rattle.cert_text.specs.RowLine.{row_of}
use Rattle.cert_text.specs.Variables.{is_up_to}
use Rattle.cert_text.specs.declared.definition_lines.BlockHead.{BlockHead}
use Rattle.cert_text.specs.declared.definition_lines.BlockHead.TheVariants.{Defined, Free}
use Rattle.cert_text.specs.declared.definition_lines.DefinedHead.{DefinedHead}
use Rattle.cert_text.specs.declared.faults.CertFault.{CertFault}
use Rattle.cert_text.specs.declared.faults.CertFault.TheVariants.{BadGate, BadLine, BlockOrder, TooBig}
use Rattle.cert_text.specs.declared.faults.CertRefusal.{CertRefusal}
use Rattle.cert_text.proofs.LineTokens.{by_tokens, same_tokens}
use Rattle.cert_text.proofs.Parts.{universals_positive}
use Rattle.cert_text.proofs.SmallNumbers.{token_small}
use Rattle.cert_text.proofs.SpelledBlocks.{AreSpelled, front_of}
use Rattle.cert_text.proofs.SpelledLines.{AreRead, all_read}
use Rattle.cert_text.proofs.SpelledProofs.{variable_some}
use Rattle.cert_text.proofs.SpelledRefutations.{blanks_read}
use Rattle.cert_text.proofs.SpelledRows.{ArePositive, row_taken}
use Rattle.cert_text.proofs.SpelledSteps.{step_taken}

-- a part that is read, where the lines behind it spell these, and then there are others
record IsRead {A : Type 0} (part : A) (others : List Line) (behind : List Tokens)
    (read : Result (PartRead A) CertRefusal) : Type 0 where
  found : PartRead A
  is : read ≡ Ok found
  part_is : found.part ≡ part
  later : AreSpelled others behind (by_tokens found.rest)

module _ {A : Type 0} (read : Tokens → Result A CertFault) (line : Line) (others : List Line) (behind : List Tokens)
    (part : A) (taken : (tokens : Tokens) → SpellsLine tokens line → read tokens ≡ Ok part) where
  by_spelled : (spelled : List Tokens) (lines : List TextLine) (number : ℕ) →
      AllZip SpellsLine spelled (line ∷ others) → by_tokens lines ≡ spelled ++ behind →
      IsRead part others behind (next_line read lines number)
  by_spelled [] lines number each are = absurd each
  by_spelled (t ∷ ts) [] number each are = cc
  by_spelled (t ∷ ts) (l ∷ lines) number each are =
      let here : line_tokens l.text ≡ t = cc in
      let rest : by_tokens lines ≡ ts ++ behind = cc in
      record {
        found = record { part = part; rest = lines; number = l.number + 1 };
        is = ap (λ r. and_read (at_line l.number r) (λ p. Ok (record {
          part = p;
          rest = lines;
          number = l.number + 1;
        }))) (ap read here ∙ taken t each.0);
        part_is = refl;
        later = record { spelled = ts; each = each.1; are = rest };
      }

  line_read : (lines : List TextLine) (number : ℕ) → AreSpelled (line ∷ others) behind (by_tokens lines) →
      IsRead part others behind (next_line read lines number)
  line_read lines number given = by_spelled given.spelled lines number given.each given.are

-- a number of a line isn't large
not_large : (token : List ℕ) (n : ℕ) → number_of token ≡ Int (pos n) → is_large n ≡ false
not_large token n is = lt-leb (10 ^ 18) n (token_small token (pos n) is)

chosen_gate : (large other sides readable : Bool) (g : Gate) → large ≡ false → other ≡ true → sides ≡ true →
    readable ≡ true →
    cond large (Err TooBig) (cond (not other) (Err BadGate) (cond (not sides) (Err BadGate)
    (cond (not readable) (Err BadGate) (Ok g)))) ≡ Ok g
chosen_gate false true true true g a b c d = refl
chosen_gate true other sides readable g a b c d = cc
chosen_gate false false sides readable g a b c d = cc
chosen_gate false true false readable g a b c d = cc
chosen_gate false true true false g a b c d = cc

none_of : (a b c : Bool) → a ≡ false → b ≡ false → c ≡ false → (a || (b || c)) ≡ false
none_of false false false p q r = refl
none_of true b c p q r = cc
none_of false true c p q r = cc
none_of false false true p q r = cc

pub half_below : (l variable : ℕ) → literal_variable l < variable → l < 2 * variable
half_below l variable h = search (arith, div-lt_iff_lt-mul)

-- a gate
three_taken : (f : Dqbf) (variable : ℕ) (g : Gate) (a b c : List ℕ) → IsGateAt f variable g →
    number_of a ≡ Int (pos (2 * g.variable)) → number_of b ≡ Int (pos g.left) → number_of c ≡ Int (pos g.right) →
    definition_gate f variable (a ∷ b ∷ c ∷ []) ≡ Ok g
three_taken f variable g a b c is x y z =
    search (arith, half_below, natural_taken, chosen_gate, nat_lt, none_of, not_large, eq-eqb, and_from, lt-ltb)

gate_taken : (f : Dqbf) (variable : ℕ) (g : Gate) (tokens : Tokens) → IsGateAt f variable g →
    map number_of tokens ≡ integers (naturals (2 * g.variable ∷ g.left ∷ g.right ∷ [])) →
    definition_gate f variable tokens ≡ Ok g
gate_taken f variable g [] is are = cc
gate_taken f variable g (a ∷ []) is are = cc
gate_taken f variable g (a ∷ b ∷ []) is are = cc
gate_taken f variable g (a ∷ b ∷ c ∷ []) is are = search (arith, three_taken)
gate_taken f variable g (a ∷ b ∷ c ∷ d ∷ more) is are = cc

gates_taken : (f : Dqbf) (variable : ℕ) (gates : List Gate) (spelled : List Tokens) → AreGatesFrom f variable gates →
    AllZip SpellsLine spelled (map gate_spelling gates) → AreRead (definition_gates f) variable spelled gates
gates_taken f variable [] [] are each = tt
gates_taken f variable [] (t ∷ ts) are each = absurd each
gates_taken f variable (g ∷ gates) [] are each = absurd each
gates_taken f variable (g ∷ gates) (t ∷ ts) are each = (
  ap (definition_gate f variable) each.0.words ∙ gate_taken f variable g each.0.rest are.0 each.0.numbers,
  gates_taken f (variable + 1) gates ts are.1 each.1,
)

-- steps
steps_taken : (last id : ℕ) (steps : List ProofStep) (spelled : List Tokens) → 1 ≤ id →
    AreSteps (is_up_to last) id steps → AllZip SpellsLine spelled (map step_spelling steps) →
    AreRead (step_lines (is_up_to last)) id spelled steps
steps_taken last id [] [] one are each = tt
steps_taken last id [] (t ∷ ts) one are each = absurd each
steps_taken last id (s ∷ steps) [] one are each = absurd each
steps_taken last id (s ∷ steps) (t ∷ ts) one are each = (
  ap ((step_lines (is_up_to last)).line id) each.0.words
      ∙ step_taken (is_up_to last) id each.0.rest s (λ v h. variable_some last v h) one each.0.numbers are.0,
  steps_taken last (id + 1) steps ts (omega arith) are.1 each.1,
)

-- the first line of a definition
chosen_head : (large other many output : Bool) (head : BlockHead) → large ≡ false → other ≡ true → many ≡ false →
    output ≡ true → cond large (Err TooBig) (cond (not other) (Err BlockOrder) (cond many (Err TooBig)
    (cond (not output) (Err BadGate) (Ok head)))) ≡ Ok head
chosen_head false true false true head a b c d = refl
chosen_head true other many output head a b c d = cc
chosen_head false false many output head a b c d = cc
chosen_head false true true output head a b c d = cc
chosen_head false true false false head a b c d = cc

abbrev head_for : Definition → DefinedHead
head_for d = record { output = d.output; gates = length d.gates; steps = length d.steps }

four_taken : (f : Dqbf) (d : Definition) (a b c e : List ℕ) → IsDefinitionOf f d → length d.steps ≤ max_count →
    number_of a ≡ Int (pos d.existential) → number_of b ≡ Int (pos d.output) →
    number_of c ≡ Int (pos (length d.gates)) → number_of e ≡ Int (pos (length d.steps)) →
    defined_head f d.existential (a ∷ b ∷ c ∷ e ∷ []) ≡ Ok (Defined (head_for d))
four_taken f d a b c e is few x y z w =
    search (arith, natural_taken, chosen_head, nat_lt, none_of, not_large, both_false, eq-eqb, le-ltb)

head_taken : (f : Dqbf) (d : Definition) (tokens : Tokens) → IsDefinitionOf f d → length d.steps ≤ max_count →
    map number_of tokens
    ≡ integers (naturals (d.existential ∷ d.output ∷ length d.gates ∷ length d.steps ∷ [])) →
    defined_head f d.existential tokens ≡ Ok (Defined (head_for d))
head_taken f d [] is few are = cc
head_taken f d (a ∷ []) is few are = cc
head_taken f d (a ∷ b ∷ []) is few are = cc
head_taken f d (a ∷ b ∷ c ∷ []) is few are = cc
head_taken f d (a ∷ b ∷ c ∷ e ∷ []) is few are = search (arith, four_taken)
head_taken f d (a ∷ b ∷ c ∷ e ∷ g ∷ more) is few are = cc

definition_read : (f : Dqbf) (d : Definition) (lines : List TextLine) (number : ℕ) (others : List Line)
    (behind : List Tokens) → IsDefinitionOf f d → length d.steps ≤ max_count →
    AreSpelled (definition_spelling d ++ others) behind (by_tokens lines) →
    IsRead (defined d) others behind (read_block f d.existential lines number)
definition_read f d lines number others behind is few given =
    let y = d.existential in
    let g = length d.gates in
    let gates_wanted = map gate_spelling d.gates in
    let steps_wanted = map step_spelling d.steps in
    let first : Line = record {
      words = codes "t" ∷ [];
      numbers = naturals (y ∷ d.output ∷ length d.gates ∷ length d.steps ∷ []);
    } in
    let head = line_read (head_line f y) first ((gates_wanted ++ steps_wanted) ++ others) behind
    (Defined (head_for d))
    (λ tokens s. ap (head_line f y) s.words ∙ head_taken f d s.rest is few s.numbers) lines number given in
    let front = front_of gates_wanted (steps_wanted ++ others) behind (by_tokens head.found.rest)
    (subst (λ wanted. AreSpelled wanted behind (by_tokens head.found.rest))
    (append_assoc gates_wanted steps_wanted others) head.later) in
    let gates = all_read (definition_gates f) d.gates front.first (front.rest ++ behind) (f.variables + 1)
    head.found.rest head.found.number (gates_taken f (f.variables + 1) d.gates front.first is.gates front.each)
    front.are in
    let back = front_of steps_wanted others behind (by_tokens gates.found.rest)
    (record { spelled = front.rest; each = front.later; are = gates.behind_are }) in
    let steps = all_read (step_lines (is_up_to (f.variables + g))) d.steps back.first (back.rest ++ behind)
    (first_definition_id f g) gates.found.rest gates.found.number
    (steps_taken (f.variables + g) (first_definition_id f g) d.steps back.first (omega arith) is.steps back.each)
    back.are in
    record {
      found = record {
        part = defined (record {
          existential = y;
          output = d.output;
          gates = gates.found.items;
          steps = steps.found.items;
        });
        rest = steps.found.rest;
        number = steps.found.number;
      };
      is = ap (λ r. and_read r (λ h. read_behind_head f y h.part h.rest h.number)) head.is
          ∙ ap (λ h. read_behind_head f y h head.found.rest head.found.number) head.part_is
          ∙ ap (λ r. as_block defined (and_read r (λ gs. and_read (read_some (step_lines (is_up_to (f.variables + g)))
          (first_definition_id f g) (length d.steps) gs.rest gs.number) (λ ss. Ok (record {
            part = record { existential = y; output = d.output; gates = gs.items; steps = ss.items };
            rest = ss.rest;
            number = ss.number;
          }))))) gates.is
          ∙ ap (λ r. as_block defined (and_read r (λ ss. Ok (record {
            part = record { existential = y; output = d.output; gates = gates.found.items; steps = ss.items };
            rest = ss.rest;
            number = ss.number;
          })))) steps.is;
      part_is = ap₂ (λ gs ss. defined (record {
        existential = y;
        output = d.output;
        gates = gs;
        steps = ss;
      })) gates.items_are steps.items_are;
      later = record { spelled = back.rest; each = back.later; are = steps.behind_are };
    }

-- two assignments
signs_taken : (letter vs : List ℕ) (bits : List Bool) (tokens : Tokens) → ArePositive vs → length bits ≡ length vs →
    SpellsLine tokens (signs_spelling letter vs bits) → signs_line letter vs tokens ≡ Ok bits
signs_taken letter vs bits tokens some whole spelled =
    ap (signs_line letter vs) spelled.words
    ∙ ap (λ b. cond b (and_then (row_of vs) (line_integers spelled.rest)) (Err BadLine))
    ((bytes_eq-Decides letter letter).1 refl)
    ∙ row_taken vs (codes "u" ∷ spelled.rest) bits (record {
      rest = spelled.rest;
      letter = refl;
      numbers = spelled.numbers;
    }) some whole

free_taken : (f : Dqbf) (y : ℕ) (tokens : Tokens) → map number_of tokens ≡ integers (naturals (y ∷ [])) →
    free_head y tokens ≡ Ok Free
free_taken f y [] are = cc
free_taken f y (a ∷ []) are = search (arith, natural_taken, not_large, eq-eqb)
free_taken f y (a ∷ b ∷ more) are = cc

module _ (f : Dqbf) (some_us : ArePositive f.universals) (some_ys : ArePositive (existential_variables f)) where
  valuation_read : (v : Valuation) (lines : List TextLine) (number : ℕ) (others : List Line) (behind : List Tokens) →
      IsValuationOf f v → AreSpelled (valuation_spelling f v ++ others) behind (by_tokens lines) →
      IsRead v others behind (read_valuation f lines number)
  valuation_read v lines number others behind is given =
      let ys = existential_variables f in
      let row = line_read (signs_line (codes "u") f.universals) (signs_spelling (codes "u") f.universals v.row)
      (signs_spelling (codes "v") ys v.values ∷ others) behind v.row
      (λ tokens s. signs_taken (codes "u") f.universals v.row tokens some_us is.row s) lines number given in
      let values = line_read (signs_line (codes "v") ys) (signs_spelling (codes "v") ys v.values) others behind v.values
      (λ tokens s. signs_taken (codes "v") ys v.values tokens some_ys
      (is.values ∙ sym (length-map f.existentials (λ y. y.variable))) s) row.found.rest row.found.number row.later in
      record {
        found = record {
          part = record { row = row.found.part; values = values.found.part };
          rest = values.found.rest;
          number = values.found.number;
        };
        is = ap (λ r. and_read r (λ a. and_read (next_line (signs_line (codes "v") (existential_variables f)) a.rest
            a.number) (λ b. Ok (record {
              part = record { row = a.part; values = b.part };
              rest = b.rest;
              number = b.number;
            })))) row.is
            ∙ ap (λ r. and_read r (λ b. Ok (record {
              part = record { row = row.found.part; values = b.part };
              rest = b.rest;
              number = b.number;
            }))) values.is;
        part_is = ap₂ (λ a b. record { row = a; values = b }) row.part_is values.part_is;
        later = values.later;
      }

  pair_read : (p : FreePair) (lines : List TextLine) (number : ℕ) (others : List Line) (behind : List Tokens) →
      IsValuationOf f p.first → IsValuationOf f p.second →
      AreSpelled (pair_spelling f p ++ others) behind (by_tokens lines) →
      IsRead (free p) others behind (read_block f p.existential lines number)
  pair_read p lines number others behind is_first is_second given =
      let y = p.existential in
      let first_line : Line = record { words = codes "f" ∷ []; numbers = naturals (y ∷ []) } in
      let head = line_read (head_line f y) first_line
      ((valuation_spelling f p.first ++ valuation_spelling f p.second) ++ others) behind Free
      (λ tokens s. ap (head_line f y) s.words ∙ free_taken f y s.rest s.numbers) lines number given in
      let first = valuation_read p.first head.found.rest head.found.number (valuation_spelling f p.second ++ others)
      behind is_first head.later in
      let second = valuation_read p.second first.found.rest first.found.number others behind is_second first.later in
      record {
        found = record {
          part = free (record { existential = y; first = first.found.part; second = second.found.part });
          rest = second.found.rest;
          number = second.found.number;
        };
        is = ap (λ r. and_read r (λ h. read_behind_head f y h.part h.rest h.number)) head.is
            ∙ ap (λ h. read_behind_head f y h head.found.rest head.found.number) head.part_is
            ∙ ap (λ r. as_block free (and_read r (λ a. and_read (read_valuation f a.rest a.number) (λ b. Ok (record {
              part = record { existential = y; first = a.part; second = b.part };
              rest = b.rest;
              number = b.number;
            }))))) first.is
            ∙ ap (λ r. as_block free (and_read r (λ b. Ok (record {
              part = record { existential = y; first = first.found.part; second = b.part };
              rest = b.rest;
              number = b.number;
            })))) second.is;
        part_is = ap₂ (λ a b. free (record { existential = y; first = a; second = b })) first.part_is second.part_is;
        later = second.later;
      }

  block_read : (y : ℕ) (block : DefinitionBlock) (lines : List TextLine) (number : ℕ) (others : List Line)
      (behind : List Tokens) → IsBlockOf f y block → HasFewSteps block →
      AreSpelled (block_spelling f block ++ others) behind (by_tokens lines) →
      IsRead block others behind (read_block f y lines number)
  block_read y (defined d) lines number others behind is few given =
      subst (λ v. IsRead (defined d) others behind (read_block f v lines number)) is.0
      (definition_read f d lines number others behind is.1 few given)
  block_read y (free p) lines number others behind is few given =
      subst (λ v. IsRead (free p) others behind (read_block f v lines number)) is.0
      (pair_read p lines number others behind is.1.0 is.1.1 given)

  nothing_more : (spelled : List Tokens) (n : ℕ) (all : List Tokens) → AllZip SpellsLine spelled [] →
      all ≡ spelled ++ replicate n [] → all ≡ replicate n []
  nothing_more [] n all each are = are
  nothing_more (t ∷ ts) n all each are = absurd each

  blocks_read : (vs : List ℕ) (blocks : List DefinitionBlock) (lines : List TextLine) (number n : ℕ) →
      AreBlocksOf f vs blocks → HaveFewSteps blocks →
      AreSpelled (flat_map (block_spelling f) blocks) (replicate n []) (by_tokens lines) →
      read_blocks f vs lines number ≡ Ok blocks
  blocks_read [] [] lines number n are few given =
      ap (λ r. and_read r (λ _. Ok []))
      (blanks_read n lines (nothing_more given.spelled n (by_tokens lines) given.each given.are))
  blocks_read [] (block ∷ blocks) lines number n are few given = absurd are
  blocks_read (v ∷ vs) [] lines number n are few given = absurd are
  blocks_read (v ∷ vs) (block ∷ blocks) lines number n are few given =
      let first = block_read v block lines number (flat_map (block_spelling f) blocks) (replicate n []) are.0 few.0
      given in
      let rest = blocks_read vs blocks first.found.rest first.found.number n are.1 few.1 first.later in
      ap (λ r. and_read r (λ b. and_read (read_blocks f vs b.rest b.number) (λ bs. Ok (b.part ∷ bs)))) first.is
      ∙ ap (λ r. and_read r (λ bs. Ok (first.found.part ∷ bs))) rest
      ∙ ap (λ b. Ok (b ∷ blocks)) first.part_is

pub few_existentials : (f : Dqbf) → IsLawful f → length f.existentials ≤ max_count
few_existentials f lawful =
    let most = length-le_from_distinct_below (declared f) (f.variables + 1)
    (IsDistinct-from_AllPairs Decides-eqb (declared f) lawful.prefix.declared_once) below in
    let long = length-append f.universals (existential_variables f) in
    let same = length-map f.existentials (λ y. y.variable) in
    let few : f.variables ≤ 1000000 = lawful.few_variables in
    omega (arith, most, long, same, few) where
      below : (q : ℕ) → list_any (eqb q) (declared f) ≡ true → q < f.variables + 1
      below q h =
          let range = All-contains (λ v. (1 ≤ v) × (v ≤ f.variables)) (declared f) q lawful.prefix.in_range
          (contains_found q (declared f) h) in
          let most = range.1 in omega (arith, most)

pub existentials_in_range : (f : Dqbf) → IsLawful f →
    AllByRecursion (λ v. (1 ≤ v) × (v ≤ f.variables)) (existential_variables f)
existentials_in_range f lawful = search (arith, all_behind, recursion_from_All)

-- the header
header_taken : (f : Dqbf) (tokens : Tokens) → length f.existentials ≤ max_count →
    map number_of tokens ≡ integers (naturals (length f.existentials ∷ [])) →
    definitions_header f (codes "p" ∷ codes "dqd" ∷ tokens) ≡ Ok tt
header_taken f [] few are = cc
header_taken f (a ∷ []) few are = search (arith, natural_taken, le-ltb, eq-eqb)
header_taken f (a ∷ b ∷ more) few are = cc

module _ (f : Dqbf) (blocks : List DefinitionBlock) (lawful : IsLawful f)
    (allowed : AreBlocksOf f (existential_variables f) blocks) (few : HaveFewSteps blocks) (n : ℕ) where
  lines_read : (spelled : List Tokens) (lines : List TextLine) (number : ℕ) →
      AllZip SpellsLine spelled (header_spelling f ∷ flat_map (block_spelling f) blocks) →
      by_tokens lines ≡ spelled ++ replicate n [] → read_definitions f lines number ≡ Ok blocks
  lines_read [] lines number each are = absurd each
  lines_read (t ∷ ts) [] number each are = cc
  lines_read (t ∷ ts) (line ∷ lines) number each are =
      let here : line_tokens line.text ≡ t = cc in
      let rest : by_tokens lines ≡ ts ++ replicate n [] = cc in
      let head : definitions_header f (line_tokens line.text) ≡ Ok tt =
      ap (definitions_header f) (here ∙ each.0.words)
      ∙ header_taken f each.0.rest (few_existentials f lawful) each.0.numbers in
      ap (λ r. and_read (at_line line.number r) (λ _. read_blocks f (existential_variables f) lines (line.number + 1)))
      head
      ∙ blocks_read f (universals_positive f lawful)
      (positive f.variables (existential_variables f) (existentials_in_range f lawful)) (existential_variables f)
      blocks lines (line.number + 1) n allowed few (record { spelled = ts; each = each.1; are = rest })

pub spelled_is_read : (text : List ℕ) (first : ℕ) (f : Dqbf) (blocks : List DefinitionBlock) → IsLawful f →
    SpellsDefinitions text f blocks → definitions_of f text first ≡ Ok blocks
spelled_is_read text first f blocks lawful spelled = search (arith, lines_read, same_tokens)
