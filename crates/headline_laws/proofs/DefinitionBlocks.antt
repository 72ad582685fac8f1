-- The lines of a definition in its text, its circuit, and the circuit's value.
use Rattle.std.proofs.Common.{◌≡◌, ◌≢◌, ℕ, zero, suc, ◌+◌, ◌*◌, ◌/◌, ◌<◌, ◌≤◌, Bool, true, false, ◌&&◌, pos, List, [], ◌∷◌, ◌++◌, length, map, replicate, codes, refl, sym, ◌∙◌, ap, subst, arith, append_assoc, append-nil, nat_le}
use Rattle.std.specs.List.{All, AllByRecursion, AllPairs, AllZip, Contains, flat_map, range_with_len, slice_index}
use Rattle.std.proofs.lemmas.Bool.{and_parts, eqb-true, eqb-false, leb-true}
use Rattle.std.proofs.lemmas.List.Elements.{All-append, All-from_recursion, recursion_from_All}
use Rattle.std.proofs.lemmas.List.FromFn.{get_or-range_with_len, length-range_with_len}
use Rattle.list_laws.proofs.Members.{place_within}
use Rattle.list_laws.proofs.Numbers.{range_append, range_distinct}
use Rattle.dq_lits.specs.Formula.{Dqbf}
use Rattle.dq_text.specs.Line.{TextLine, lines_from, line_tokens}
use Rattle.dq_text.specs.declared.numbers.Number.TheVariants.{Int}
use Rattle.circuit_plain.specs.Netlist.{gate_value, left_variable, right_variable, literal_variable, signed_bit}
use Rattle.aiger_text.specs.Grammar.{naturals as read_naturals}
use Rattle.circuit_plain.specs.declared.circuits.Gate.{Gate as ReadGate}
use Rattle.cert_text.specs.AllowedDefinitions.{AreGatesFrom, IsDefinitionOf, is_output}
use Rattle.cert_text.specs.DefinitionBlocks.{Definition, DefinitionBlock, defined, free}
use Rattle.cert_text.specs.DefinitionGrammar.{Line, SpellsDefinitions, SpellsLine, block_spelling, definition_spelling, gate_spelling, header_spelling, naturals, pair_spelling, step_spelling}
use Rattle.cert_text.specs.Grammar.{Tokens, integers, tokens_by_line}
use Rattle.cert_text.proofs.SpelledBlocks.{AreSpelled, front_of}
use Rattle.defined_checker.specs.Forced.{definition_value, with_bit, with_gates}
use Rattle.headline.specs.Headline.{Circuit, Fits, Gate, IsCircuit, Spells, Symbol, gate_row, lines, literal_bit, natural, up_to, word, words}
use Rattle.headline_laws.proofs.AsciiTexts.{numbers_spelled}
use Rattle.headline_laws.proofs.Circuits.{page_gate}
use Rattle.headline_laws.proofs.Formulas.{up_to_is}
use Rattle.headline_laws.proofs.Tokens.{lines_are, words_are}

-- ---- lines

integers_are : (ns : List ℕ) → integers (naturals ns) ≡ read_naturals ns
integers_are [] = refl
integers_are (n ∷ ns) = ap (λ more. Int (pos n) ∷ more) (integers_are ns)

words_first : (ws rest : List (List ℕ)) (symbols : List Symbol) → AllZip Spells rest symbols →
    AllZip Spells (ws ++ rest) (map word ws ++ symbols)
words_first [] rest symbols each = each
words_first (w ∷ ws) rest symbols each = (refl, words_first ws rest symbols each)

line_spelled : (tokens : Tokens) (ws : List (List ℕ)) (ns : List ℕ) →
    SpellsLine tokens (record { words = ws; numbers = naturals ns }) →
    AllZip Spells tokens (map word ws ++ map natural ns)
line_spelled tokens ws ns s = search (arith, words_first, numbers_spelled, integers_are)

-- lines whose words these tokens are
record AreSplit (ls : List (List ℕ)) (first second : List Tokens) : Type 0 where
  pub front : List (List ℕ)
  pub behind : List (List ℕ)
  pub is : ls ≡ front ++ behind
  pub front_is : map words front ≡ first
  pub behind_is : map words behind ≡ second

split_lines : (ls : List (List ℕ)) (first second : List Tokens) → map words ls ≡ first ++ second → AreSplit ls first second
split_lines ls [] second h = record { front = []; behind = ls; is = refl; front_is = refl; behind_is = h }
split_lines [] (t ∷ first) second h = cc
split_lines (l ∷ ls) (t ∷ first) second h =
    let more = split_lines ls first second (tail (words l) t (map words ls) (first ++ second) h) in
    record {
      front = l ∷ more.front;
      behind = more.behind;
      is = ap (λ ks. l ∷ ks) more.is;
      front_is = ap (λ ts. words l ∷ ts) more.front_is ∙ ap (λ w. w ∷ first) (head (words l) t (map words ls) (first ++ second) h);
      behind_is = more.behind_is;
    }
  where
    head : (x y : Tokens) (xs ys : List Tokens) → x ∷ xs ≡ y ∷ ys → x ≡ y
    head x y xs ys e = cc

    tail : (x y : Tokens) (xs ys : List Tokens) → x ∷ xs ≡ y ∷ ys → xs ≡ ys
    tail x y xs ys e = cc

abbrev definition_line : Definition → Line
definition_line d = record {
  words = codes "t" ∷ [];
  numbers = naturals (d.existential ∷ d.output ∷ length d.gates ∷ length d.steps ∷ []);
}

-- the lines of a definition and of its gates, as the page has them
abbrev pub definition_rows : Definition → List (List Symbol)
definition_rows d =
    (word (codes "t") ∷ map natural (d.existential ∷ d.output ∷ length d.gates ∷ length d.steps ∷ []))
    ∷ map gate_row (map page_gate d.gates)

pub record HasBlock (text : List ℕ) (d : Definition) : Type 0 where
  pub before : List (List ℕ)
  pub block : List (List ℕ)
  pub behind : List (List ℕ)
  pub lines_are : lines text ≡ before ++ (block ++ behind)
  pub block_is : AllZip (λ line row. AllZip Spells (words line) row) block (definition_rows d)

-- each definition of the text has its lines there
abbrev pub HaveBlocks : List ℕ → List DefinitionBlock → Type 0
HaveBlocks text [] = Unit {0}
HaveBlocks text (defined d ∷ blocks) = HasBlock text d × HaveBlocks text blocks
HaveBlocks text (free p ∷ blocks) = HaveBlocks text blocks

gate_lines : (ls : List (List ℕ)) (tokens : List Tokens) (gates : List ReadGate) → map words ls ≡ tokens →
    AllZip SpellsLine tokens (map gate_spelling gates) →
    AllZip (λ line row. AllZip Spells (words line) row) ls (map gate_row (map page_gate gates))
gate_lines [] [] [] is each = tt
gate_lines [] [] (g ∷ gates) is each = absurd each
gate_lines [] (t ∷ tokens) gates is each = cc
gate_lines (l ∷ ls) [] gates is each = cc
gate_lines (l ∷ ls) (t ∷ tokens) [] is each = absurd each
gate_lines (l ∷ ls) (t ∷ tokens) (g ∷ gates) is each =
    search (arith, (line_spelled t [] (2 * g.variable ∷ g.left ∷ g.right ∷ []) each.0), (gate_lines ls tokens gates))

definition_lines : (d : Definition) (ls : List (List ℕ)) (tokens : List Tokens) → map words ls ≡ tokens →
    AllZip SpellsLine tokens (definition_line d ∷ map gate_spelling d.gates) →
    AllZip (λ line row. AllZip Spells (words line) row) ls (definition_rows d)
definition_lines d [] [] is each = absurd each
definition_lines d [] (t ∷ tokens) is each = cc
definition_lines d (l ∷ ls) [] is each = cc
definition_lines d (l ∷ ls) (t ∷ tokens) is each =
    search (
      arith,
      codes,
      (line_spelled t (codes "t" ∷ []) (d.existential ∷ d.output ∷ length d.gates ∷ length d.steps ∷ []) each.0),
      (gate_lines ls tokens d.gates),
    )

module _ (text : List ℕ) (f : Dqbf) (blanks : List Tokens) where
  have_blocks : (blocks : List DefinitionBlock) (before rest : List (List ℕ)) (all : List Tokens) → lines text ≡ before ++ rest →
      map words rest ≡ all → AreSpelled (flat_map (block_spelling f) blocks) blanks all → HaveBlocks text blocks
  have_blocks [] before rest all is spelled given = tt
  have_blocks (free p ∷ blocks) before rest all is spelled given =
      let h = front_of (pair_spelling f p) (flat_map (block_spelling f) blocks) blanks all given in
      let two = split_lines rest h.first (h.rest ++ blanks) (spelled ∙ h.are) in
      have_blocks blocks (before ++ two.front) two.behind (h.rest ++ blanks)
      (is ∙ (ap (λ ls. before ++ ls) two.is ∙ sym (append_assoc before two.front two.behind))) two.behind_is
      (record { spelled = h.rest; each = h.later; are = refl })
  have_blocks (defined d ∷ blocks) before rest all is spelled given =
      let h = front_of (definition_spelling d) (flat_map (block_spelling f) blocks) blanks all given in
      let two = split_lines rest h.first (h.rest ++ blanks) (spelled ∙ h.are) in
      let own = front_of (definition_line d ∷ map gate_spelling d.gates) (map step_spelling d.steps) [] h.first
      (record { spelled = h.first; each = h.each; are = sym (append-nil h.first) }) in
      let inner = split_lines two.front own.first (own.rest ++ []) (two.front_is ∙ own.are) in (
        record {
          before = before;
          block = inner.front;
          behind = inner.behind ++ two.behind;
          lines_are = is ∙ ap (λ ls. before ++ ls)
              (two.is ∙ (ap (λ ls. ls ++ two.behind) inner.is ∙ append_assoc inner.front inner.behind two.behind));
          block_is = definition_lines d inner.front own.first inner.front_is own.each;
        },
        have_blocks blocks (before ++ two.front) two.behind (h.rest ++ blanks)
            (is ∙ (ap (λ ls. before ++ ls) two.is ∙ sym (append_assoc before two.front two.behind))) two.behind_is
            (record { spelled = h.rest; each = h.later; are = refl }),
      )

all_words : (number : ℕ) (text : List ℕ) → map words (lines text) ≡ map (λ (l : TextLine). line_tokens l.text) (lines_from number text)
all_words number text = ap (map words) (lines_are number text) ∙ each (lines_from number text) where
  each : (ls : List TextLine) → map words (map (λ (l : TextLine). l.text) ls)
      ≡ map (λ (l : TextLine). line_tokens l.text) ls
  each [] = refl
  each (l ∷ ls) = ap (λ w. w ∷ map words (map (λ (k : TextLine). k.text) ls)) (words_are l.text)
      ∙ ap (λ more. line_tokens l.text ∷ more) (each ls)

pub blocks_there : (text : List ℕ) (f : Dqbf) (blocks : List DefinitionBlock) → SpellsDefinitions text f blocks →
    HaveBlocks text blocks
blocks_there text f blocks s =
    let blanks = replicate s.blank_lines [] in
    let h = front_of (header_spelling f ∷ []) (flat_map (block_spelling f) blocks) blanks (tokens_by_line text)
    (record { spelled = s.spelled; each = s.each; are = s.lines }) in
    let two = split_lines (lines text) h.first (h.rest ++ blanks) (all_words 1 text ∙ h.are) in
    have_blocks text f blanks blocks two.front two.behind (h.rest ++ blanks) two.is two.behind_is
    (record { spelled = h.rest; each = h.later; are = refl })

-- ---- the circuit

abbrev pub definition_circuit : ℕ → Definition → Circuit
definition_circuit variables d = record {
  largest = variables + length d.gates;
  inputs = up_to variables;
  outputs = d.output ∷ [];
  gates = map page_gate d.gates;
}

module _ (f : Dqbf) where
  gates_numbered : (at : ℕ) (gates : List ReadGate) → AreGatesFrom f at gates →
      map (λ (g : Gate). g.variable) (map page_gate gates) ≡ range_with_len at (length gates)
  gates_numbered at [] are = refl
  gates_numbered at (g ∷ gates) are = search (arith, (gates_numbered (at + 1) gates are.1))

  abbrev known : Definition → List ℕ
  known d = 0 ∷ (up_to f.variables ++ map (λ (g : Gate). g.variable) (map page_gate d.gates))

  known_is : (d : Definition) → AreGatesFrom f (f.variables + 1) d.gates → known d ≡ range_with_len 0 (suc (f.variables + length d.gates))
  known_is d are = search (arith, up_to_is, gates_numbered, (range_append 1))

  there : (d : Definition) → AreGatesFrom f (f.variables + 1) d.gates → (v : ℕ) → v < suc (f.variables + length d.gates) →
      Contains (known d) v
  there d are v below =
      subst (λ vs. Contains vs v) (sym (known_is d are))
      (subst (Contains (range_with_len 0 (suc (f.variables + length d.gates)))) (let e : 0 + v ≡ v = omega arith in e)
      (place_within 0 (suc (f.variables + length d.gates)) v below))

  ordered : (at : ℕ) (gates : List ReadGate) → AreGatesFrom f at gates →
      AllByRecursion (λ (g : Gate). (g.left / 2 < g.variable) × (g.right / 2 < g.variable)) (map page_gate gates)
  ordered at [] are = tt
  ordered at (g ∷ gates) are = (
    (
      subst (λ v. g.left / 2 < v) (sym are.0.numbered) are.0.left_before,
      subst (λ v. g.right / 2 < v) (sym are.0.numbered) are.0.right_before,
    ),
    ordered (at + 1) gates are.1,
  )

  sides : (d : Definition) → AreGatesFrom f (f.variables + 1) d.gates → (at : ℕ) (gates : List ReadGate) →
      AreGatesFrom f at gates → at + length gates ≤ suc (f.variables + length d.gates) →
      AllByRecursion (λ l. Contains (known d) (l / 2)) (flat_map (λ (g : Gate). g.left ∷ g.right ∷ []) (map page_gate gates))
  sides d whole at [] are few = tt
  sides d whole at (g ∷ gates) are few = (
    there d whole (g.left / 2) (let low = are.0.left_before in omega (arith, few, low)),
    (
      there d whole (g.right / 2) (let low = are.0.right_before in omega (arith, few, low)),
      sides d whole (at + 1) gates are.1 (omega (arith, few)),
    ),
  )

  output_low : (d : Definition) → is_output f (length d.gates) d.output ≡ true → d.output / 2 ≤ f.variables + length d.gates
  output_low d h = search (arith, leb-true, and_parts, nat_le)

  low : (at : ℕ) (gates : List ReadGate) (most : ℕ) → AreGatesFrom f at gates → at + length gates ≤ suc most →
      AllByRecursion (λ v. v ≤ most) (map (λ (g : Gate). g.variable) (map page_gate gates))
  low at [] most are few = tt
  low at (g ∷ gates) most are few =
      (let is = are.0.numbered in omega (arith, is, few), low (at + 1) gates most are.1 (omega (arith, few)))

  low_inputs : (n most : ℕ) → n ≤ most → All (λ v. v ≤ most) (up_to n)
  low_inputs n most few = search (arith, up_to_is, length-range_with_len, get_or-range_with_len)

  pub definition_is_circuit : (d : Definition) → IsDefinitionOf f d → IsCircuit (definition_circuit f.variables d)
  definition_is_circuit d own = record {
    rank = λ v. v;
    small = All-append (λ v. v ≤ f.variables + length d.gates) (up_to f.variables)
        (map (λ (g : Gate). g.variable) (map page_gate d.gates)) (low_inputs f.variables (f.variables + length d.gates) (omega arith))
        (All-from_recursion (λ v. v ≤ f.variables + length d.gates) (map (λ (g : Gate). g.variable) (map page_gate d.gates))
        (low (f.variables + 1) d.gates (f.variables + length d.gates) own.gates (omega arith)));
    ordered = All-from_recursion (λ (g : Gate). (g.left / 2 < g.variable) × (g.right / 2 < g.variable)) (map page_gate d.gates)
        (ordered (f.variables + 1) d.gates own.gates);
    once = subst (AllPairs (λ v w. v ≢ w)) (sym (known_is d own.gates)) (range_distinct 0 (suc (f.variables + length d.gates)));
    defined = All-from_recursion (λ l. Contains (known d) (l / 2))
        (d.output ∷ flat_map (λ (g : Gate). g.left ∷ g.right ∷ []) (map page_gate d.gates)) (
          there d own.gates (d.output / 2) (let low = output_low d own.output in omega (arith, low)),
          sides d own.gates (f.variables + 1) d.gates own.gates (omega arith),
        );
  }

  -- ---- its value

  set_bit : (m bits : ℕ → Bool) (at : ℕ) (b : Bool) → ((v : ℕ) → v < at → m v ≡ bits v) → b ≡ bits at → (v : ℕ) → v < at + 1 →
      with_bit m at b v ≡ bits v
  set_bit m bits at b alike same v below = search (arith, eqb-true, eqb-false)

  gates_alike : (m bits : ℕ → Bool) (at : ℕ) (gates : List ReadGate) → AreGatesFrom f at gates →
      ((v : ℕ) → v < at → m v ≡ bits v) →
      AllByRecursion (λ (g : Gate). bits g.variable ≡ (literal_bit bits g.left && literal_bit bits g.right)) (map page_gate gates) →
      (v : ℕ) → v < at + length gates → with_gates m gates v ≡ bits v
  gates_alike m bits at [] are alike fits v below = alike v (omega (arith, below))
  gates_alike m bits at (g ∷ gates) are alike fits v below =
      gates_alike
      (with_bit m g.variable (gate_value g (m (left_variable g)) (m (right_variable g)))) bits (at + 1) gates are.1
      (λ w low. subst (λ u. with_bit m u (gate_value g (m (left_variable g)) (m (right_variable g))) w ≡ bits w) (sym are.0.numbered)
      (set_bit m bits at (gate_value g (m (left_variable g)) (m (right_variable g))) alike
      (ap (λ b. gate_value g b (m (right_variable g))) (alike (left_variable g) are.0.left_before)
      ∙ (ap (gate_value g (bits (left_variable g))) (alike (right_variable g) are.0.right_before)
      ∙ (sym fits.0 ∙ ap bits are.0.numbered))) w low))
      fits.1 v (omega (arith, below))

  rec_from : (bits : ℕ → Bool) (gates : List Gate) →
      All (λ (g : Gate). bits g.variable ≡ (literal_bit bits g.left && literal_bit bits g.right)) gates →
      AllByRecursion (λ (g : Gate). bits g.variable ≡ (literal_bit bits g.left && literal_bit bits g.right)) gates
  rec_from bits gates all = search (arith, recursion_from_All)

  input_at : (n i : ℕ) → i < n → slice_index (up_to n) i ≡ suc i
  input_at n i below = search (arith, up_to_is, get_or-range_with_len)

  inputs_alike : (d : Definition) (m bits : ℕ → Bool) → Fits (definition_circuit f.variables d) (λ i. m (suc i)) bits →
      (v : ℕ) → v < f.variables + 1 → with_bit m 0 false v ≡ bits v
  inputs_alike d m bits fits zero below = sym fits.constant
  inputs_alike d m bits fits (suc i) below = search (arith, eqb-true, up_to_is, length-range_with_len, input_at)

  pub value_is : (d : Definition) (m bits : ℕ → Bool) → IsDefinitionOf f d →
      Fits (definition_circuit f.variables d) (λ i. m (suc i)) bits → definition_value d m ≡ literal_bit bits d.output
  value_is d m bits own fits =
      ap (λ b. signed_bit d.output b)
      (gates_alike (with_bit m 0 false) bits (f.variables + 1) d.gates own.gates (inputs_alike d m bits fits)
      (rec_from bits (map page_gate d.gates) fits.gates) (literal_variable d.output)
      (let low = output_low d own.output in omega (arith, low)))
