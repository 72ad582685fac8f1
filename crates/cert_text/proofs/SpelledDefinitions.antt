-- What was read as definitions is spelled, and may stand there.
use Rattle.std.proofs.Common.{◌≡◌, ℕ, ◌+◌, ◌*◌, ◌/◌, ◌^◌, ◌<◌, ◌≤◌, ◌==◌, nat_lt, pos, ℤ, Bool, true, false, not, ◌||◌, List, [], ◌∷◌, ◌++◌, map, length, replicate, Option, None, Some, Result, Ok, Err, codes, cond, refl, sym, ◌∙◌, ap, ap₂, subst, arith}
use Rattle.std.specs.List.{AllZip, flat_map}
use Rattle.std.specs.Str.{bytes_eq}
use Rattle.std.proofs.lemmas.Bool.{and_parts, or_parts, eqb-true, ltb-true, ltb-false, leb-false, not-false}
use Rattle.std.proofs.lemmas.List.{length-map}
use Rattle.std.proofs.lemmas.Slice.Eq.{bytes_eq-Decides}
use Rattle.dq_lits.specs.Formula.{Dqbf}
use Rattle.dq_text.specs.Line.{TextLine, line_tokens, lines_from}
use Rattle.dq_text.specs.Number.{natural_of, number_of}
use Rattle.dq_text.specs.declared.numbers.Number.TheVariants.{Int}
use Rattle.dq_text.proofs.Naturals.{natural_spelled}
use Rattle.dq_formula.specs.Prefix.{existential_variables}
use Rattle.circuit_plain.specs.declared.circuits.Gate.{Gate}
use Rattle.dq_lits.specs.Derivation.{ProofStep}
use Rattle.cert_text.specs.AllowedDefinitions.{AreBlocksOf, AreGatesFrom, HasFewSteps, HaveFewSteps, IsBlockOf, IsGateAt, IsValuationOf, first_definition_id, is_output}
use Rattle.cert_text.specs.DefinitionBlocks.{Definition, Valuation, FreePair, DefinitionBlock, defined, free}
use Rattle.cert_text.specs.DefinitionGrammar.{Line, SpellsDefinitions, SpellsLine, block_spelling, gate_spelling, header_spelling, naturals, signs_spelling, step_spelling, valuation_spelling}
use Rattle.cert_text.specs.DefinitionLine.{checked_gate, counted, defined_head, definition_gate, definition_gates, definitions_header, free_head, free_of, gate_of, head_line, head_of, is_large, signs_line}
use Rattle.cert_text.specs.DefinitionText.{PartRead, as_block, definitions_of, next_line, read_behind_head, read_block, read_blocks, read_definition, read_definitions, read_pair, read_valuation}
use Rattle.cert_text.specs.Grammar.{Tokens, AreSteps, integers}
use Rattle.cert_text.specs.Header.{max_count}
use Rattle.cert_text.specs.ItemLine.{step_lines}
use Rattle.cert_text.specs.LineStop.{and_then}
use Rattle.cert_text.specs.Lines.{and_read, at_line, read_some}
use Rattle.cert_text.specs.Numbers.{line_integers}
use Rattle.cert_text.specs.RowLine.{row_of}
use Rattle.cert_text.specs.Scan.{blank_lines}
use Rattle.cert_text.specs.Variables.{is_up_to}
use Rattle.cert_text.specs.declared.definition_lines.BlockHead.{BlockHead}
use Rattle.cert_text.specs.declared.definition_lines.BlockHead.TheVariants.{Defined, Free}
use Rattle.cert_text.specs.declared.definition_lines.DefinedHead.{DefinedHead}
use Rattle.cert_text.specs.declared.faults.CertFault.{CertFault}
use Rattle.cert_text.specs.declared.faults.CertFault.TheVariants.{BadHeader, BadLine, TooBig, BlockOrder, BadGate}
use Rattle.cert_text.specs.declared.faults.CertRefusal.{CertRefusal}
use Rattle.cert_text.proofs.Integers.{integers_spelled}
use Rattle.cert_text.proofs.LineTokens.{by_tokens, same_tokens}
use Rattle.cert_text.proofs.SpelledBlocks.{AreSpelled, joined}
use Rattle.cert_text.proofs.SpelledLines.{AreRead, read_from_lines}
use Rattle.cert_text.proofs.SpelledRefutations.{blanks_spelled}
use Rattle.cert_text.proofs.SpelledSteps.{step_spelled}
use Rattle.cert_text.proofs.SpelledRows.{lettered, row_read}

-- where both parts were read
record Reads {A B : Type 0} (first : Result A CertRefusal) (next : A → Result B CertRefusal) (r : B) : Type 0 where
  part : A
  first_is : first ≡ Ok part
  next_is : next part ≡ Ok r

both : {A B : Type 0} (first : Result A CertRefusal) (next : A → Result B CertRefusal) (r : B) →
    and_read first next ≡ Ok r → Reads first next r
both (Ok part) next r h = record { part = part; first_is = refl; next_is = h }
both (Err fault) next r h = cc

ok_same : {A : Type 0} (x y : A) → ◌≡◌ {A = Result A CertRefusal} (Ok x) (Ok y) → x ≡ y
ok_same x y h = cc

at_ok : {A : Type 0} (number : ℕ) (taken : Result A CertFault) (value : A) → at_line number taken ≡ Ok value →
    taken ≡ Ok value
at_ok number (Ok v) value h = let same : v ≡ value = cc in ap Ok same
at_ok number (Err name) value h = cc

-- the line that was read
record IsLine {A : Type 0} (read : Tokens → Result A CertFault) (lines : List TextLine) (r : PartRead A) : Type 0 where
  tokens : Tokens
  is : read tokens ≡ Ok r.part
  are : by_tokens lines ≡ tokens ∷ by_tokens r.rest

line_of : {A : Type 0} (read : Tokens → Result A CertFault) (lines : List TextLine) (number : ℕ) (r : PartRead A) →
    next_line read lines number ≡ Ok r → IsLine read lines r
line_of read [] number r h = cc
line_of {A} read (line ∷ lines) number r h = search (arith, both, ok_same, at_ok)

line_spelled : (line : Line) (tokens : Tokens) (behind all : List Tokens) → SpellsLine tokens line →
    all ≡ tokens ∷ behind → AreSpelled (line ∷ []) behind all
line_spelled line tokens behind all is are = record { spelled = tokens ∷ []; each = (is, tt); are = are }

-- numbers that aren't large
small_number : (n : ℕ) → is_large n ≡ false → n < 10 ^ 18
small_number n h = leb-false (10 ^ 18) n h

few_number : (n : ℕ) → n ≤ max_count → n < 10 ^ 18
few_number n h = omega (arith, h)

-- gates
gate_tests : (a b c d : Bool) (made g : Gate) →
    cond a (Err TooBig) (cond b (Err BadGate) (cond c (Err BadGate) (cond d (Err BadGate) (Ok made)))) ≡ Ok g →
    (a ≡ false) × ((b ≡ false) × ((c ≡ false) × ((d ≡ false) × (made ≡ g))))
gate_tests true b c d made g h = cc
gate_tests false true c d made g h = cc
gate_tests false false true d made g h = cc
gate_tests false false false true made g h = cc
gate_tests false false false false made g h = let same : made ≡ g = cc in (refl, (refl, (refl, (refl, same))))

half_below : (l variable : ℕ) → l < 2 * variable → l / 2 < variable
half_below l variable h = omega (arith, h)

record PassesGate (f : Dqbf) (variable lhs : ℕ) (made g : Gate) : Type 0 where
  lhs_small : lhs < 10 ^ 18
  left_small : made.left < 10 ^ 18
  right_small : made.right < 10 ^ 18
  lhs_is : lhs ≡ 2 * variable
  lawful : IsGateAt f variable made
  same : made ≡ g

checked : (f : Dqbf) (variable lhs : ℕ) (made g : Gate) → made.variable ≡ variable →
    checked_gate f (2 * variable) lhs made ≡ Ok g → PassesGate f variable lhs made g
checked f variable lhs made g numbered h =
    search (arith, gate_tests, nat_lt, or_parts, eqb-true, not-false, and_parts, small_number, half_below, ltb-true)

-- a gate, spelled and lawful
record IsGateLine (f : Dqbf) (variable : ℕ) (tokens : Tokens) (g : Gate) : Type 0 where
  spelled : SpellsLine tokens (gate_spelling g)
  lawful : IsGateAt f variable g

gate_numbers : (f : Dqbf) (variable : ℕ) (a b c : List ℕ) (lhs left right : Option ℕ) (g : Gate) →
    natural_of a ≡ lhs → natural_of b ≡ left → natural_of c ≡ right → gate_of f variable lhs left right ≡ Ok g →
    IsGateLine f variable (a ∷ b ∷ c ∷ []) g
gate_numbers f variable a b c None left right g x y z h = cc
gate_numbers f variable a b c (Some l) None right g x y z h = cc
gate_numbers f variable a b c (Some l) (Some p) None g x y z h = cc
gate_numbers f variable a b c (Some l) (Some p) (Some q) g x y z h =
    let made : Gate = record { variable = variable; left = p; right = q } in
    let t = checked f variable l made g refl h in
    subst (IsGateLine f variable (a ∷ b ∷ c ∷ [])) t.same (record {
      spelled = record {
        rest = a ∷ b ∷ c ∷ [];
        words = refl;
        numbers = ap₂ (λ n ns. n ∷ ns) (natural_spelled a l x t.lhs_small ∙ ap (λ n. Int (pos n)) t.lhs_is)
            (ap₂ (λ m n. m ∷ n ∷ []) (natural_spelled b p y t.left_small) (natural_spelled c q z t.right_small));
      };
      lawful = t.lawful;
    })

gate_read : (f : Dqbf) (variable : ℕ) (tokens : Tokens) (g : Gate) → definition_gate f variable tokens ≡ Ok g →
    IsGateLine f variable tokens g
gate_read f variable [] g h = cc
gate_read f variable (a ∷ []) g h = cc
gate_read f variable (a ∷ b ∷ []) g h = cc
gate_read f variable (a ∷ b ∷ c ∷ []) g h = search (arith, gate_numbers)
gate_read f variable (a ∷ b ∷ c ∷ d ∷ more) g h = cc

record AreGateLines (f : Dqbf) (variable : ℕ) (spelled : List Tokens) (gates : List Gate) : Type 0 where
  each : AllZip SpellsLine spelled (map gate_spelling gates)
  lawful : AreGatesFrom f variable gates

gates_read : (f : Dqbf) (variable : ℕ) (spelled : List Tokens) (gates : List Gate) →
    AreRead (definition_gates f) variable spelled gates → AreGateLines f variable spelled gates
gates_read f variable [] [] each = record { each = tt; lawful = tt }
gates_read f variable [] (g ∷ gates) each = absurd each
gates_read f variable (t ∷ ts) [] each = absurd each
gates_read f variable (t ∷ ts) (g ∷ gates) each =
    let here = gate_read f variable t g each.0 in
    let rest = gates_read f (variable + 1) ts gates each.1 in
    record { each = (here.spelled, rest.each); lawful = (here.lawful, rest.lawful) }

record AreStepLines (p : ℕ → Bool) (next : ℕ) (spelled : List Tokens) (steps : List ProofStep) : Type 0 where
  each : AllZip SpellsLine spelled (map step_spelling steps)
  lawful : AreSteps p next steps

steps_read : (p : ℕ → Bool) (next : ℕ) (spelled : List Tokens) (steps : List ProofStep) →
    AreRead (step_lines p) next spelled steps → AreStepLines p next spelled steps
steps_read p next [] [] each = record { each = tt; lawful = tt }
steps_read p next [] (s ∷ steps) each = absurd each
steps_read p next (t ∷ ts) [] each = absurd each
steps_read p next (t ∷ ts) (s ∷ steps) each =
    let here = step_spelled p next t s each.0 in
    let rest = steps_read p (next + 1) ts steps each.1 in
    record {
      each = (record { rest = t; words = refl; numbers = here.spelled }, rest.each);
      lawful = (here.lawful, rest.lawful);
    }

-- the first line of a block
abbrev first_line : ℕ → ℕ → ℕ → ℕ → Line
first_line y output gates steps =
    record { words = codes "t" ∷ []; numbers = naturals (y ∷ output ∷ gates ∷ steps ∷ []) }

record IsDefinedHead (f : Dqbf) (y : ℕ) (tokens : Tokens) (head : DefinedHead) : Type 0 where
  spelled : SpellsLine tokens (first_line y head.output head.gates head.steps)
  few_gates : head.gates ≤ max_count
  few_steps : head.steps ≤ max_count
  output : is_output f head.gates head.output ≡ true

abbrev IsHead : Dqbf → ℕ → Tokens → BlockHead → Type 0
IsHead f y tokens (Defined head) = IsDefinedHead f y tokens head
IsHead f y tokens Free = SpellsLine tokens (record { words = codes "f" ∷ []; numbers = naturals (y ∷ []) })

head_tests : (a b c d : Bool) (made head : BlockHead) →
    cond a (Err TooBig) (cond b (Err BlockOrder) (cond c (Err TooBig) (cond d (Err BadGate) (Ok made)))) ≡ Ok head →
    (a ≡ false) × ((b ≡ false) × ((c ≡ false) × ((d ≡ false) × (made ≡ head))))
head_tests true b c d made head h = cc
head_tests false true c d made head h = cc
head_tests false false true d made head h = cc
head_tests false false false true made head h = cc
head_tests false false false false made head h = let same : made ≡ head = cc in (refl, (refl, (refl, (refl, same))))

head_numbers : (f : Dqbf) (next : ℕ) (a b c e : List ℕ) (y output gates steps : Option ℕ) (head : BlockHead) →
    natural_of a ≡ y → natural_of b ≡ output → natural_of c ≡ gates → natural_of e ≡ steps →
    head_of f next y output gates steps ≡ Ok head → IsHead f next (codes "t" ∷ a ∷ b ∷ c ∷ e ∷ []) head
head_numbers f next a b c e None output gates steps head p q r s h = cc
head_numbers f next a b c e (Some y) None gates steps head p q r s h = cc
head_numbers f next a b c e (Some y) (Some output) None steps head p q r s h = cc
head_numbers f next a b c e (Some y) (Some output) (Some gates) None head p q r s h = cc
head_numbers f next a b c e (Some y) (Some output) (Some gates) (Some steps) head p q r s h =
    let made : DefinedHead = record { output = output; gates = gates; steps = steps } in
    let t = head_tests (is_large y || (is_large output || (is_large gates || is_large steps))) (not (y == next))
    (nat_lt max_count gates || nat_lt max_count steps) (not (is_output f gates output)) (Defined made) head h in
    let y_small = or_parts (is_large y) (is_large output || (is_large gates || is_large steps)) t.0 in
    let output_small = or_parts (is_large output) (is_large gates || is_large steps) y_small.1 in
    let counts = or_parts (nat_lt max_count gates) (nat_lt max_count steps) t.1.1.0 in
    let few_gates = ltb-false max_count gates counts.0 in
    let few_steps = ltb-false max_count steps counts.1 in
    let own : y ≡ next = eqb-true y next (not-false (y == next) t.1.0) in
    subst (IsHead f next (codes "t" ∷ a ∷ b ∷ c ∷ e ∷ [])) t.1.1.1.1 (record {
      spelled = record {
        rest = a ∷ b ∷ c ∷ e ∷ [];
        words = refl;
        numbers = ap₂ (λ n ns. n ∷ ns)
            (natural_spelled a y p (small_number y y_small.0) ∙ ap (λ n. Int (pos n)) own)
            (ap₂ (λ n ns. n ∷ ns) (natural_spelled b output q (small_number output output_small.0))
            (ap₂ (λ m n. m ∷ n ∷ []) (natural_spelled c gates r (few_number gates few_gates))
            (natural_spelled e steps s (few_number steps few_steps))));
      };
      few_gates = few_gates;
      few_steps = few_steps;
      output = not-false (is_output f gates output) t.1.1.1.0;
    })

head_tokens : (f : Dqbf) (next : ℕ) (tokens : Tokens) (head : BlockHead) → defined_head f next tokens ≡ Ok head →
    IsHead f next (codes "t" ∷ tokens) head
head_tokens f next [] head h = cc
head_tokens f next (a ∷ []) head h = cc
head_tokens f next (a ∷ b ∷ []) head h = cc
head_tokens f next (a ∷ b ∷ c ∷ []) head h = cc
head_tokens f next (a ∷ b ∷ c ∷ d ∷ []) head h = search (arith, head_numbers)
head_tokens f next (a ∷ b ∷ c ∷ d ∷ e ∷ more) head h = cc

free_tests : (a b : Bool) (head : BlockHead) → cond a (Err TooBig) (cond b (Err BlockOrder) (Ok Free)) ≡ Ok head →
    (a ≡ false) × ((b ≡ false) × (Free ≡ head))
free_tests true b head h = cc
free_tests false true head h = cc
free_tests false false head h = let same : Free ≡ head = cc in (refl, (refl, same))

free_number : (f : Dqbf) (next : ℕ) (a : List ℕ) (y : Option ℕ) (head : BlockHead) → natural_of a ≡ y →
    free_of next y ≡ Ok head → IsHead f next (codes "f" ∷ a ∷ []) head
free_number f next a None head p h = cc
free_number f next a (Some y) head p h =
    search (arith, free_tests, eqb-true, not-false, natural_spelled, small_number)

free_tokens : (f : Dqbf) (next : ℕ) (tokens : Tokens) (head : BlockHead) → free_head next tokens ≡ Ok head →
    IsHead f next (codes "f" ∷ tokens) head
free_tokens f next [] head h = cc
free_tokens f next (a ∷ []) head h = free_number f next a (natural_of a) head refl h
free_tokens f next (a ∷ b ∷ more) head h = cc

by_letter : (letter : List ℕ) (t u : Bool) (f : Dqbf) (next : ℕ) (tokens : Tokens) (head : BlockHead) →
    (t ≡ true → letter ≡ codes "t") → (u ≡ true → letter ≡ codes "f") →
    cond t (defined_head f next tokens) (cond u (free_head next tokens) (Err BadLine)) ≡ Ok head →
    IsHead f next (letter ∷ tokens) head
by_letter letter true u f next tokens head is_t is_f h = search (arith, head_tokens)
by_letter letter false true f next tokens head is_t is_f h = search (arith, free_tokens)
by_letter letter false false f next tokens head is_t is_f h = cc

head_read : (f : Dqbf) (next : ℕ) (tokens : Tokens) (head : BlockHead) → head_line f next tokens ≡ Ok head →
    IsHead f next tokens head
head_read f next [] head h = cc
head_read f next (letter ∷ tokens) head h =
    by_letter letter (bytes_eq letter (codes "t")) (bytes_eq letter (codes "f")) f next tokens head
    (bytes_eq-Decides letter (codes "t")).0 (bytes_eq-Decides letter (codes "f")).0 h

-- a block that was read: it is spelled, and may stand there
pub record IsBlockRead (f : Dqbf) (y : ℕ) (block : DefinitionBlock) (behind all : List Tokens) : Type 0 where
  pub spelled : AreSpelled (block_spelling f block) behind all
  pub lawful : IsBlockOf f y block
  pub few_steps : HasFewSteps block

-- a definition
definition_read : (f : Dqbf) (y : ℕ) (head : DefinedHead) (tokens : Tokens) (all : List Tokens)
    (lines : List TextLine) (number : ℕ) (r : PartRead Definition) → IsDefinedHead f y tokens head →
    all ≡ tokens ∷ by_tokens lines → read_definition f y head lines number ≡ Ok r →
    IsBlockRead f y (defined r.part) (by_tokens r.rest) all
definition_read f y head tokens all lines number r good first h =
    let format = step_lines (is_up_to (f.variables + head.gates)) in
    let start = first_definition_id f head.gates in
    let b = both (read_some (definition_gates f) (f.variables + 1) head.gates lines number) (λ gates.
    and_read (read_some format start head.steps gates.rest gates.number) (λ steps. Ok (record {
      part = record { existential = y; output = head.output; gates = gates.items; steps = steps.items };
      rest = steps.rest;
      number = steps.number;
    }))) r h in
    let gates = b.part in
    let c = both (read_some format start head.steps gates.rest gates.number) (λ steps. Ok (record {
      part = record { existential = y; output = head.output; gates = gates.items; steps = steps.items };
      rest = steps.rest;
      number = steps.number;
    })) r b.next_is in
    let steps = c.part in
    let from_gates = read_from_lines (definition_gates f) head.gates (f.variables + 1) lines number gates b.first_is in
    let from_steps = read_from_lines format head.steps start gates.rest gates.number steps c.first_is in
    let gate_lines = gates_read f (f.variables + 1) from_gates.spelled gates.items from_gates.each in
    let step_lines_are = steps_read (is_up_to (f.variables + head.gates)) start from_steps.spelled steps.items
    from_steps.each in
    let made : PartRead Definition = record {
      part = record { existential = y; output = head.output; gates = gates.items; steps = steps.items };
      rest = steps.rest;
      number = steps.number;
    } in
    let counted_head : SpellsLine tokens (first_line y head.output (length gates.items) (length steps.items)) =
    subst (λ n. SpellsLine tokens (first_line y head.output n (length steps.items))) (sym from_gates.counted)
    (subst (λ n. SpellsLine tokens (first_line y head.output head.gates n)) (sym from_steps.counted) good.spelled) in
    subst (λ (x : PartRead Definition). IsBlockRead f y (defined x.part) (by_tokens x.rest) all)
    (ok_same made r c.next_is) (record {
      spelled = joined (first_line y head.output (length gates.items) (length steps.items) ∷ [])
          (map gate_spelling gates.items ++ map step_spelling steps.items) (by_tokens steps.rest) (by_tokens lines) all
          (line_spelled (first_line y head.output (length gates.items) (length steps.items)) tokens (by_tokens lines) all
          counted_head first)
          (joined (map gate_spelling gates.items) (map step_spelling steps.items) (by_tokens steps.rest)
          (by_tokens gates.rest) (by_tokens lines)
          (record { spelled = from_gates.spelled; each = gate_lines.each; are = from_gates.are })
          (record { spelled = from_steps.spelled; each = step_lines_are.each; are = from_steps.are }));
      lawful = (
        refl,
        record {
          few = subst (λ n. n ≤ max_count) (sym from_gates.counted) good.few_gates;
          gates = gate_lines.lawful;
          output = subst (λ n. is_output f n head.output ≡ true) (sym from_gates.counted) good.output;
          steps =
              subst (λ n. AreSteps (is_up_to (f.variables + n)) (first_definition_id f n) steps.items)
              (sym from_gates.counted) step_lines_are.lawful;
        },
      );
      few_steps = subst (λ n. n ≤ max_count) (sym from_steps.counted) good.few_steps;
    })

-- two assignments
record IsSignsLine (letter vs : List ℕ) (tokens : Tokens) (bits : List Bool) : Type 0 where
  spelled : SpellsLine tokens (signs_spelling letter vs bits)
  whole : length bits ≡ length vs

behind_letter : (letter vs : List ℕ) (tokens : Tokens) (taken : Result (List ℤ) CertFault) (bits : List Bool) →
    line_integers tokens ≡ taken → and_then (row_of vs) taken ≡ Ok bits → IsSignsLine letter vs (letter ∷ tokens) bits
behind_letter letter vs tokens (Err name) bits is h = cc
behind_letter letter vs tokens (Ok ns) bits is h =
    let r = row_read vs ns bits h in
    record {
      spelled = record {
        rest = tokens;
        words = refl;
        numbers = integers_spelled tokens ns is ∙ ap integers r.numbers;
      };
      whole = r.whole;
    }

signs_read : (word vs : List ℕ) (tokens : Tokens) (bits : List Bool) → signs_line word vs tokens ≡ Ok bits →
    IsSignsLine word vs tokens bits
signs_read word vs [] bits h = cc
signs_read word vs (letter ∷ tokens) bits h =
    let parts = lettered (bytes_eq letter word) (and_then (row_of vs) (line_integers tokens)) bits h in
    subst (λ l. IsSignsLine word vs (l ∷ tokens) bits) (sym ((bytes_eq-Decides letter word).0 parts.0))
    (behind_letter word vs tokens (line_integers tokens) bits refl parts.1)

record IsValuationRead (f : Dqbf) (v : Valuation) (behind all : List Tokens) : Type 0 where
  spelled : AreSpelled (valuation_spelling f v) behind all
  lawful : IsValuationOf f v

valuation_read : (f : Dqbf) (lines : List TextLine) (number : ℕ) (r : PartRead Valuation) →
    read_valuation f lines number ≡ Ok r → IsValuationRead f r.part (by_tokens r.rest) (by_tokens lines)
valuation_read f lines number r h =
    let ys = existential_variables f in
    let b = both (next_line (signs_line (codes "u") f.universals) lines number) (λ row.
    and_read (next_line (signs_line (codes "v") (existential_variables f)) row.rest row.number)
    (λ values. Ok (record {
      part = record { row = row.part; values = values.part };
      rest = values.rest;
      number = values.number;
    }))) r h in
    let row = b.part in
    let c = both (next_line (signs_line (codes "v") (existential_variables f)) row.rest row.number)
    (λ values. Ok (record {
      part = record { row = row.part; values = values.part };
      rest = values.rest;
      number = values.number;
    })) r b.next_is in
    let values = c.part in
    let made : PartRead Valuation = record {
      part = record { row = row.part; values = values.part };
      rest = values.rest;
      number = values.number;
    } in
    let u = line_of (signs_line (codes "u") f.universals) lines number row b.first_is in
    let v = line_of (signs_line (codes "v") ys) row.rest row.number values c.first_is in
    let row_line = signs_read (codes "u") f.universals u.tokens row.part u.is in
    let values_line = signs_read (codes "v") ys v.tokens values.part v.is in
    subst (λ (x : PartRead Valuation). IsValuationRead f x.part (by_tokens x.rest) (by_tokens lines))
    (ok_same made r c.next_is) (record {
      spelled = joined (signs_spelling (codes "u") f.universals row.part ∷ [])
          (signs_spelling (codes "v") ys values.part ∷ []) (by_tokens values.rest) (by_tokens row.rest) (by_tokens lines)
          (line_spelled (signs_spelling (codes "u") f.universals row.part) u.tokens (by_tokens row.rest)
          (by_tokens lines) row_line.spelled u.are)
          (line_spelled (signs_spelling (codes "v") ys values.part) v.tokens (by_tokens values.rest)
          (by_tokens row.rest) values_line.spelled v.are);
      lawful = record {
        row = row_line.whole;
        values = values_line.whole ∙ length-map f.existentials (λ y. y.variable);
      };
    })

pair_read : (f : Dqbf) (y : ℕ) (tokens : Tokens) (all : List Tokens) (lines : List TextLine) (number : ℕ)
    (r : PartRead FreePair) → IsHead f y tokens Free → all ≡ tokens ∷ by_tokens lines →
    read_pair f y lines number ≡ Ok r → IsBlockRead f y (free r.part) (by_tokens r.rest) all
pair_read f y tokens all lines number r head first_is h =
    let b = both (read_valuation f lines number) (λ first.
    and_read (read_valuation f first.rest first.number) (λ second. Ok (record {
      part = record { existential = y; first = first.part; second = second.part };
      rest = second.rest;
      number = second.number;
    }))) r h in
    let first = b.part in
    let c = both (read_valuation f first.rest first.number) (λ second. Ok (record {
      part = record { existential = y; first = first.part; second = second.part };
      rest = second.rest;
      number = second.number;
    })) r b.next_is in
    let second = c.part in
    let made : PartRead FreePair = record {
      part = record { existential = y; first = first.part; second = second.part };
      rest = second.rest;
      number = second.number;
    } in
    let one = valuation_read f lines number first b.first_is in
    let other = valuation_read f first.rest first.number second c.first_is in
    let own : Line = record { words = codes "f" ∷ []; numbers = naturals (y ∷ []) } in
    subst (λ (x : PartRead FreePair). IsBlockRead f y (free x.part) (by_tokens x.rest) all) (ok_same made r c.next_is)
    (record {
      spelled = joined (own ∷ []) (valuation_spelling f first.part ++ valuation_spelling f second.part)
          (by_tokens second.rest) (by_tokens lines) all (line_spelled own tokens (by_tokens lines) all head first_is)
          (joined (valuation_spelling f first.part) (valuation_spelling f second.part) (by_tokens second.rest)
          (by_tokens first.rest) (by_tokens lines) one.spelled other.spelled);
      lawful = (refl, (one.lawful, other.lawful));
      few_steps = tt;
    })

-- a block
record IsMade {A : Type 0} (make : A → DefinitionBlock) (read : Result (PartRead A) CertRefusal)
    (r : PartRead DefinitionBlock) : Type 0 where
  from : PartRead A
  read_is : read ≡ Ok from
  part_is : make from.part ≡ r.part
  rest_is : from.rest ≡ r.rest

part_made : {A : Type 0} (make : A → DefinitionBlock) (read : Result (PartRead A) CertRefusal)
    (r : PartRead DefinitionBlock) → as_block make read ≡ Ok r → IsMade make read r
part_made make (Ok p) r h =
    let same = ok_same (record { part = make p.part; rest = p.rest; number = p.number }) r h in
    record {
      from = p;
      read_is = refl;
      part_is = ap (λ (x : PartRead DefinitionBlock). x.part) same;
      rest_is = ap (λ (x : PartRead DefinitionBlock). x.rest) same;
    }
part_made make (Err fault) r h = cc

behind_head : (f : Dqbf) (y : ℕ) (head : BlockHead) (tokens : Tokens) (all : List Tokens) (lines : List TextLine)
    (number : ℕ) (r : PartRead DefinitionBlock) → IsHead f y tokens head → all ≡ tokens ∷ by_tokens lines →
    read_behind_head f y head lines number ≡ Ok r → IsBlockRead f y r.part (by_tokens r.rest) all
behind_head f y (Defined head) tokens all lines number r good first h =
    let m = part_made defined (read_definition f y head lines number) r h in
    subst (λ block. IsBlockRead f y block (by_tokens r.rest) all) m.part_is
    (subst (λ rest. IsBlockRead f y (defined m.from.part) (by_tokens rest) all) m.rest_is
    (definition_read f y head tokens all lines number m.from good first m.read_is))
behind_head f y Free tokens all lines number r good first h =
    let m = part_made free (read_pair f y lines number) r h in
    subst (λ block. IsBlockRead f y block (by_tokens r.rest) all) m.part_is
    (subst (λ rest. IsBlockRead f y (free m.from.part) (by_tokens rest) all) m.rest_is
    (pair_read f y tokens all lines number m.from good first m.read_is))

pub block_read : (f : Dqbf) (y : ℕ) (lines : List TextLine) (number : ℕ) (r : PartRead DefinitionBlock) →
    read_block f y lines number ≡ Ok r → IsBlockRead f y r.part (by_tokens r.rest) (by_tokens lines)
block_read f y lines number r h =
    let b = both (next_line (head_line f y) lines number)
    (λ head. read_behind_head f y head.part head.rest head.number) r h in
    let l = line_of (head_line f y) lines number b.part b.first_is in
    behind_head f y b.part.part l.tokens (by_tokens lines) b.part.rest b.part.number r
    (head_read f y l.tokens b.part.part l.is) l.are b.next_is

record AreBlocksRead (f : Dqbf) (ys : List ℕ) (blocks : List DefinitionBlock) (all : List Tokens) : Type 0 where
  blanks : ℕ
  spelled : AreSpelled (flat_map (block_spelling f) blocks) (replicate blanks []) all
  lawful : AreBlocksOf f ys blocks
  few_steps : HaveFewSteps blocks

blocks_read : (f : Dqbf) (ys : List ℕ) (lines : List TextLine) (number : ℕ) (blocks : List DefinitionBlock) →
    read_blocks f ys lines number ≡ Ok blocks → AreBlocksRead f ys blocks (by_tokens lines)
blocks_read f [] lines number blocks h =
    let b = both (blank_lines lines) (λ _. Ok []) blocks h in
    let blank = blanks_spelled lines b.first_is in
    let none : List DefinitionBlock = [] in
    subst (λ bs. AreBlocksRead f [] bs (by_tokens lines)) (ok_same none blocks b.next_is) (record {
      blanks = blank.blanks;
      spelled = record { spelled = []; each = tt; are = blank.are };
      lawful = tt;
      few_steps = tt;
    })
blocks_read f (y ∷ ys) lines number blocks h =
    let b = both (read_block f y lines number) (λ block.
    and_read (read_blocks f ys block.rest block.number) (λ others. Ok (block.part ∷ others))) blocks h in
    let block = b.part in
    let c = both (read_blocks f ys block.rest block.number) (λ others. Ok (block.part ∷ others)) blocks b.next_is in
    let here = block_read f y lines number block b.first_is in
    let rest = blocks_read f ys block.rest block.number c.part c.first_is in
    subst (λ bs. AreBlocksRead f (y ∷ ys) bs (by_tokens lines)) (ok_same (block.part ∷ c.part) blocks c.next_is) (record {
      blanks = rest.blanks;
      spelled = joined (block_spelling f block.part) (flat_map (block_spelling f) c.part) (replicate rest.blanks [])
          (by_tokens block.rest) (by_tokens lines) here.spelled rest.spelled;
      lawful = (here.lawful, rest.lawful);
      few_steps = (here.few_steps, rest.few_steps);
    })

-- the header
count_tests : (a b : Bool) → ◌≡◌ {A = Result (Unit {0}) CertFault} (cond a (Err TooBig) (cond b (Err BadHeader) (Ok tt)))
    (Ok tt) → (a ≡ false) × (b ≡ false)
count_tests true b h = cc
count_tests false true h = cc
count_tests false false h = (refl, refl)

count_read : (f : Dqbf) (token : List ℕ) (count : Option ℕ) → natural_of token ≡ count → counted f count ≡ Ok tt →
    number_of token ≡ Int (pos (length f.existentials))
count_read f token None is h = cc
count_read f token (Some n) is h =
    search (arith, count_tests, nat_lt, natural_spelled, few_number, ltb-false, eqb-true, not-false)

worded : (words : Bool) (r : Result (Unit {0}) CertFault) → cond words r (Err BadHeader) ≡ Ok tt →
    (words ≡ true) × (r ≡ Ok tt)
worded true r h = (refl, h)
worded false r h = cc

header_read : (f : Dqbf) (tokens : Tokens) → definitions_header f tokens ≡ Ok tt → SpellsLine tokens (header_spelling f)
header_read f [] h = cc
header_read f (letter ∷ []) h = cc
header_read f (letter ∷ word ∷ []) h = cc
header_read f (letter ∷ word ∷ count ∷ []) h = search (arith, worded, and_parts, bytes_eq-Decides, count_read)
header_read f (letter ∷ word ∷ count ∷ other ∷ more) h = cc

-- the text
record AreDefinitionLines (f : Dqbf) (blocks : List DefinitionBlock) (all : List Tokens) : Type 0 where
  blanks : ℕ
  spelled : AreSpelled (header_spelling f ∷ flat_map (block_spelling f) blocks) (replicate blanks []) all
  lawful : AreBlocksOf f (existential_variables f) blocks
  few_steps : HaveFewSteps blocks

lines_spelled : (f : Dqbf) (lines : List TextLine) (number : ℕ) (blocks : List DefinitionBlock) →
    read_definitions f lines number ≡ Ok blocks → AreDefinitionLines f blocks (by_tokens lines)
lines_spelled f [] number blocks h = cc
lines_spelled f (line ∷ lines) number blocks h =
    let tokens = line_tokens line.text in
    let b = both (at_line line.number (definitions_header f tokens))
    (λ _. read_blocks f (existential_variables f) lines (line.number + 1)) blocks h in
    let rest = blocks_read f (existential_variables f) lines (line.number + 1) blocks b.next_is in
    let head = header_read f tokens (at_ok line.number (definitions_header f tokens) tt b.first_is) in
    record {
      blanks = rest.blanks;
      spelled = joined (header_spelling f ∷ []) (flat_map (block_spelling f) blocks) (replicate rest.blanks [])
          (by_tokens lines) (by_tokens (line ∷ lines))
          (line_spelled (header_spelling f) tokens (by_tokens lines) (by_tokens (line ∷ lines)) head refl) rest.spelled;
      lawful = rest.lawful;
      few_steps = rest.few_steps;
    }

pub read_is_spelled : (text : List ℕ) (first : ℕ) (f : Dqbf) (blocks : List DefinitionBlock) →
    definitions_of f text first ≡ Ok blocks → SpellsDefinitions text f blocks
read_is_spelled text first f blocks read =
    let l = lines_spelled f (lines_from first text) first blocks read in
    record {
      spelled = l.spelled.spelled;
      blank_lines = l.blanks;
      lines = same_tokens 1 first text ∙ l.spelled.are;
      each = l.spelled.each;
      allowed = l.lawful;
      few_steps = l.few_steps;
    }
