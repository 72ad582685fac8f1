-- Functions that fit give a choice that solves the formula.
use Rattle.std.proofs.Common.{◌≡◌, ◌≢◌, ℕ, zero, suc, ◌+◌, ◌-◌, ◌*◌, ◌<◌, ◌≤◌, ◌==◌, nat_lt, Bool, true, false, not, cond, ◌&&◌, List, [], ◌∷◌, ◌++◌, map, length, get_or, refl, sym, ◌∙◌, ap, subst, arith, length-append}
use Rattle.std.specs.List.{All, AllPairs, AllByRecursion, Contains, list_any, flat_map, range_with_len}
use Rattle.std.proofs.Math.ListN.{get_or-append}
use Rattle.std.proofs.lemmas.Bool.{true≢false, lt-ltb, le-ltb, ltb-true, ltb-false, cond-true, cond-false, or_left, or_right, eq-eqb, eqb-true}
use Rattle.std.proofs.lemmas.List.{length-map, get_or-append-add}
use Rattle.std.proofs.lemmas.List.Elements.{All-contains, All-map, recursion_from_All, Contains-append_left, Contains-append_right}
use Rattle.std.proofs.lemmas.List.Folds.{list_any_at}
use Rattle.std.proofs.lemmas.List.FromFn.{length-range_with_len, get_or-map-range_with_len}
use Rattle.list_laws.proofs.Members.{contains_map, in_one_part, contained_at}
use Rattle.list_laws.proofs.Truths.{unnot}
use Rattle.list_laws.proofs.Quantified.{right-distinct, rec_append}
use Rattle.dq_lits.specs.Literal.{Assignment}
use Rattle.dq_lits.specs.Formula.{Existential}
use Rattle.dq_lits.specs.Henkin.{HenkinChoice, choice_value, restriction, same_bit}
use Rattle.dq_lits.proofs.Followers.{map-agree}
use Rattle.circuit_plain.specs.Netlist.{Netlist, literal_bit, literal_variable}
use Rattle.circuit_plain.specs.declared.circuits.Gate.{Gate}
use Rattle.circuit_plain.specs.Ground.{IsGrounded}
use Rattle.circuit_plain.specs.Value.{IsValuation, ValuesAreUnique, GroundedHaveValues, ValuesFollowReach}
use Rattle.cert_text.specs.NegatedMatrix.{opposite_of, gate_clauses}
use Rattle.pec_front.specs.Boxes.{BlackBox, PartialDesign, BoxFunctions, BoxesFit, bits_read, driven, IsFurtherInput, AreBoxes, AreFilled, IsAcyclic, signals, IsDesign, inputs_of}
use Rattle.pec_front.specs.Encoding.{signals_of, driven_of, first_copy, first_driven, first_specified, first_implemented, first_same, first_agree, end_of, numbered_variable, specified_variable, implemented_input, implemented_variable, on_number, numbered_gate, agreement_clauses, all_copies, all_outputs, demand, raw_clauses, copies_for, driven_existential, design_universals, seeing_all, design_formula}
use Rattle.pec_front.specs.Laws.{FittingBoxesChoose}
use Rattle.pec_front.proofs.Clauses.{with_constant, raw_true, opposite-bit}
use Rattle.pec_front.proofs.Circuits.{even-bit, seen_by, on_number-bit, same-bits}
use Rattle.pec_front.proofs.Fitting.{Raw}
use Rattle.pec_front.proofs.Values.{Ground, value_in, valuation, sides, contained, any-contained}
use Rattle.pec_front.proofs.Rows.{drives-box}
use Rattle.pec_front.proofs.Numbers.{number-cases, range-all, range-contains, copies-inside}
use Rattle.pec_front.proofs.Truths.{gate-true, agreement-true, join-each, clauses-true}
use Rattle.dq_lits.proofs.Choices.{bits_same}

pub record Plan : Type 0 where
  pub d : PartialDesign
  pub keeps : IsDesign d
  pub acyclic : IsAcyclic d
  pub boxes : AreBoxes d
  pub h : BoxFunctions
  pub fit : BoxesFit d h
  pub grounded : GroundedHaveValues
  pub unique : ValuesAreUnique
  pub follow : ValuesFollowReach

abbrev on_spec : Plan → Ground
on_spec p = record {
  net = p.d.specification;
  is = p.keeps.specification;
  gates = p.acyclic.specification;
  grounded =
      p.grounded;
  unique = p.unique;
  follow = p.follow;
}

abbrev on_imp : Plan → Ground
on_imp p = record {
  net = p.d.implementation;
  is = p.keeps.implementation;
  gates = p.acyclic.implementation;
  grounded = p.grounded;
  unique = p.unique;
  follow = p.follow;
}

-- the universals' bits in a row
abbrev in_row : List Bool → ℕ → Bool
in_row row v = get_or row (v - 1) false

abbrev input_of : Plan → ℕ → ℕ
input_of p i = get_or p.d.implementation.inputs i 0

-- the inputs' bits in a row where the boxes' functions drive the further ones
abbrev design_bits : Plan → List Bool → ℕ → Bool
design_bits p row i =
    cond (nat_lt i (inputs_of p.d)) (in_row row (1 + i))
    (p.h (2 * input_of p i) (map (in_row row) (driven_existential p.d i).sees))

abbrev spec_values : Plan → List Bool → ℕ → Bool
spec_values p row = value_in (on_spec p) (design_bits p row)

abbrev imp_values : Plan → List Bool → ℕ → Bool
imp_values p row = value_in (on_imp p) (design_bits p row)

abbrev no_gate : Gate
no_gate = record { variable = 0; left = 0; right = 0 }

abbrev gate_var : Netlist → ℕ → ℕ
gate_var net k = (get_or net.gates k no_gate).variable

abbrev same_flag : Plan → List Bool → ℕ → Bool
same_flag p row j = same_bit (in_row row (first_copy p.d + j))
    (literal_bit (imp_values p row) (get_or (signals p.d.boxes) j 0))

abbrev agree_flag : Plan → List Bool → ℕ → Bool
agree_flag p row o = same_bit (literal_bit (spec_values p row) (get_or p.d.specification.outputs o 0))
    (literal_bit (imp_values p row) (get_or p.d.implementation.outputs o 0))

-- by number, the value of an existential that sees all
abbrev flags_of : Plan → List Bool → ℕ → Bool
flags_of p row v = cond (nat_lt v (first_agree p.d)) (same_flag p row (v - first_same p.d))
    (agree_flag p row (v - first_agree p.d))

abbrev imp_or_flags : Plan → List Bool → ℕ → Bool
imp_or_flags p row v =
    cond (nat_lt v (first_same p.d)) (imp_values p row (gate_var p.d.implementation (v - first_implemented p.d)))
    (flags_of p row v)

abbrev all_of : Plan → List Bool → ℕ → Bool
all_of p row v =
    cond (nat_lt v (first_implemented p.d)) (spec_values p row (gate_var p.d.specification (v - first_specified p.d)))
    (imp_or_flags p row v)

abbrev drive_of : Plan → ℕ → List Bool → Bool
drive_of p v bits = p.h (2 * input_of p (inputs_of p.d + (v - first_driven p.d))) bits

abbrev pub values_of : Plan → Existential → List Bool → Bool
values_of p y bits = cond (nat_lt y.variable (first_specified p.d)) (drive_of p y.variable bits)
    (all_of p bits y.variable)

pub record Site : Type 0 where
  pub p : Plan
  pub m : Assignment
  pub follows : All (λ (y : Existential). m y.variable ≡ values_of p y (map m y.sees)) (design_formula p.d).existentials

abbrev row_of : Site → List Bool
row_of s = map s.m (design_universals s.p.d)

pub behind : (m : Assignment) (v : ℕ) → 1 ≤ v → with_constant m v ≡ m v
behind m zero low = absurd (omega (arith, low))
behind m (suc v) low = refl

row-bit : (s : Site) (v : ℕ) → 1 ≤ v → v < 1 + (inputs_of s.p.d + signals_of s.p.d) → in_row (row_of s) v ≡ s.m v
row-bit s v low high = search (arith, get_or-map-range_with_len)

seeing-value : (s : Site) (v : ℕ) → first_specified s.p.d ≤ v → v < end_of s.p.d → s.m v ≡ all_of s.p (row_of s) v
seeing-value s v low high =
    let d = s.p.d in
    let firsts = map (driven_existential d) (range_with_len (inputs_of d) (driven_of d)) in
    let n = end_of d - first_specified d in
    let numbers = range_with_len (first_specified d) n in
    let inside = Contains-append_right firsts (map (seeing_all d) numbers) (seeing_all d v)
    (contains_map (seeing_all d) numbers v (range-contains (first_specified d) n v low (omega (arith, low, high)))) in
    let one = All-contains (λ (y : Existential). s.m y.variable ≡ values_of s.p y (map s.m y.sees))
    (firsts ++ map (seeing_all d) numbers) (seeing_all d v) s.follows inside in
    one ∙ cond-false (nat_lt v (first_specified d)) (drive_of s.p v (row_of s)) (all_of s.p (row_of s) v)
    (le-ltb v (first_specified d) low)

driven-value : (s : Site) (i : ℕ) → inputs_of s.p.d ≤ i → i < length s.p.d.implementation.inputs →
    s.m (first_driven s.p.d + (i - inputs_of s.p.d))
    ≡ s.p.h (2 * input_of s.p i) (map s.m (driven_existential s.p.d i).sees)
driven-value s i low high =
    let d = s.p.d in
    let v = first_driven d + (i - inputs_of d) in
    let numbers = range_with_len (inputs_of d) (driven_of d) in
    let n = end_of d - first_specified d in
    let others = map (seeing_all d) (range_with_len (first_specified d) n) in
    let inside = Contains-append_left (map (driven_existential d) numbers) others (driven_existential d i)
    (contains_map (driven_existential d) numbers i
    (range-contains (inputs_of d) (driven_of d) i low (omega (arith, low, high)))) in
    let is : implemented_input d i ≡ v = cond-false (nat_lt i (inputs_of d)) (1 + i) v (le-ltb i (inputs_of d) low) in
    let bits = map s.m (driven_existential d i).sees in
    let one = All-contains (λ (y : Existential). s.m y.variable ≡ values_of s.p y (map s.m y.sees))
    (map (driven_existential d) numbers ++ others) (driven_existential d i) s.follows inside in
    let small : nat_lt v (first_specified d) ≡ true = lt-ltb v (first_specified d) (omega (arith, low, high)) in
    let back : inputs_of d + (v - first_driven d) ≡ i = omega (arith, low) in
    ap s.m (sym is) ∙ one
    ∙ ap (λ w. cond (nat_lt w (first_specified d)) (drive_of s.p w bits) (all_of s.p bits w)) is
    ∙ cond-true (nat_lt v (first_specified d)) (drive_of s.p v bits) (all_of s.p bits v) small
    ∙ ap (λ k. s.p.h (2 * input_of s.p k) bits) back

-- the copies that a driven input sees have their bits in the row
copies-in-row : (s : Site) (out : ℕ) → map s.m (copies_for (first_copy s.p.d) s.p.d.boxes out)
    ≡ map (in_row (row_of s)) (copies_for (first_copy s.p.d) s.p.d.boxes out)
copies-in-row s out = search (arith, map-agree, copies-inside, row-bit)

spec-input : (s : Site) (i : ℕ) → i < inputs_of s.p.d → with_constant s.m (1 + i) ≡ design_bits s.p (row_of s) i
spec-input s i early = search (arith, row-bit, cond-true, nat_lt, lt-ltb)

late-bit : (s : Site) (i : ℕ) → inputs_of s.p.d ≤ i → design_bits s.p (row_of s) i
    ≡ s.p.h (2 * input_of s.p i) (map (in_row (row_of s)) (driven_existential s.p.d i).sees)
late-bit s i low = search (arith, cond-false, nat_lt, le-ltb)

imp-input : (s : Site) (i : ℕ) → i < length s.p.d.implementation.inputs
    → with_constant s.m (implemented_input s.p.d i) ≡ design_bits s.p (row_of s) i
imp-input s i below =
    search (
      arith,
      nat_lt,
      cond-true,
      spec-input,
      ltb-true,
      ltb-false,
      cond-false,
      driven-value,
      copies-in-row,
      late-bit,
    )

spec-gate : (s : Site) (k : ℕ) → k < length s.p.d.specification.gates → with_constant s.m (first_specified s.p.d + k)
    ≡ spec_values s.p (row_of s) (gate_var s.p.d.specification k)
spec-gate s k below = search (arith, seeing-value, cond-true, nat_lt, lt-ltb)

past-spec : (s : Site) (v : ℕ) → first_implemented s.p.d ≤ v → v < end_of s.p.d → with_constant s.m v
    ≡ imp_or_flags s.p (row_of s) v
past-spec s v low high = search (arith, seeing-value, cond-false, nat_lt, le-ltb)

imp-gate : (s : Site) (k : ℕ) → k < length s.p.d.implementation.gates
    → with_constant s.m (first_implemented s.p.d + k) ≡ imp_values s.p (row_of s) (gate_var s.p.d.implementation k)
imp-gate s k below = search (arith, past-spec, cond-true, nat_lt, lt-ltb)

past-gates : (s : Site) (v : ℕ) → first_same s.p.d ≤ v → v < end_of s.p.d → with_constant s.m v
    ≡ flags_of s.p (row_of s) v
past-gates s v low high = search (arith, past-spec, cond-false, nat_lt, le-ltb)

same-flag : (s : Site) (j : ℕ) → j < signals_of s.p.d → with_constant s.m (first_same s.p.d + j)
    ≡ same_flag s.p (row_of s) j
same-flag s j below = search (arith, past-gates, cond-true, nat_lt, lt-ltb)

agree-flag : (s : Site) (o : ℕ) → o < length s.p.d.specification.outputs → with_constant s.m (first_agree s.p.d + o)
    ≡ agree_flag s.p (row_of s) o
agree-flag s o below =
    let v = first_agree s.p.d + o in
    let back : v - first_agree s.p.d ≡ o = omega arith in
    past-gates s v (omega arith) (omega (arith, below))
    ∙ cond-false (nat_lt v (first_agree s.p.d)) (same_flag s.p (row_of s) (v - first_same s.p.d))
    (agree_flag s.p (row_of s) (v - first_agree s.p.d)) (le-ltb v (first_agree s.p.d) (omega arith))
    ∙ ap (agree_flag s.p (row_of s)) back

-- under their numbers, grounded variables have a valuation's bits
seen-value : (net : Netlist) (input : ℕ → ℕ) (first_gate : ℕ) (m : Assignment) (bits n : ℕ → Bool)
    → IsValuation net bits n → ((i : ℕ) → i < length net.inputs → with_constant m (input i) ≡ bits i) →
    ((k : ℕ) → k < length net.gates → with_constant m (first_gate + k) ≡ n (gate_var net k)) → (v : ℕ)
    → IsGrounded net v → seen_by (numbered_variable net input first_gate) m v ≡ n v
seen-value net input first_gate m bits n is inputs gates v ground = search (arith, number-cases)

spec-seen : (s : Site) (v : ℕ) → IsGrounded s.p.d.specification v → seen_by (specified_variable s.p.d) s.m v
    ≡ spec_values s.p (row_of s) v
spec-seen s = seen-value s.p.d.specification (λ i. 1 + i) (first_specified s.p.d) s.m (design_bits s.p (row_of s))
    (spec_values s.p (row_of s)) (valuation (on_spec s.p) (design_bits s.p (row_of s))) (spec-input s) (spec-gate s)

imp-seen : (s : Site) (v : ℕ) → IsGrounded s.p.d.implementation v → seen_by (implemented_variable s.p.d) s.m v
    ≡ imp_values s.p (row_of s) v
imp-seen s = seen-value s.p.d.implementation (implemented_input s.p.d) (first_implemented s.p.d) s.m
    (design_bits s.p (row_of s)) (imp_values s.p (row_of s)) (valuation (on_imp s.p) (design_bits s.p (row_of s)))
    (imp-input s) (imp-gate s)

spec-literal : (s : Site) (l : ℕ) → IsGrounded s.p.d.specification (literal_variable l)
    → literal_bit (with_constant s.m) (on_number (specified_variable s.p.d) l)
    ≡ literal_bit (spec_values s.p (row_of s)) l
spec-literal s l ground = search (arith, on_number-bit, same-bits, spec-seen)

imp-literal : (s : Site) (l : ℕ) → IsGrounded s.p.d.implementation (literal_variable l)
    → literal_bit (with_constant s.m) (on_number (implemented_variable s.p.d) l)
    ≡ literal_bit (imp_values s.p (row_of s)) l
imp-literal s l ground = search (arith, on_number-bit, same-bits, imp-seen)

-- all clauses of gates
gates-true : (w : Ground) (number : ℕ → ℕ) (m : Assignment) (bits n : ℕ → Bool) → IsValuation w.net bits n
    → ((v : ℕ) → IsGrounded w.net v → seen_by number m v ≡ n v) →
    AllByRecursion (Raw m) (flat_map (λ g. gate_clauses (numbered_gate number g)) w.net.gates)
gates-true w number m bits n is seen = join-each (Raw m) (λ g. gate_clauses (numbered_gate number g)) w.net.gates
    (λ k d below.
    let g = get_or w.net.gates k d in
    let ground = w.gates k d below in
    let two = sides w.net w.is g (contained_at w.net.gates k d below) ground in
    let on-left = same-bits (seen_by number m) n g.left (seen (literal_variable g.left) two.0) in
    let on-right = same-bits (seen_by number m) n g.right (seen (literal_variable g.right) two.1) in
    gate-true number m g (seen g.variable ground ∙ is.gates k d below
    ∙ sym (ap (λ b. b && literal_bit (seen_by number m) g.right) on-left ∙ ap (λ b. literal_bit n g.left && b)
    on-right)))

-- agreements by number
copies-true : (d : PartialDesign) (m : Assignment) (i : ℕ) (rest : List ℕ) →
    ((j : ℕ) → j < length rest
    → AllByRecursion (Raw m)
    (agreement_clauses (first_same d + (i + j)) (2 * (first_copy d + (i + j)))
    (on_number (implemented_variable d) (get_or rest j 0)))) →
    AllByRecursion (Raw m) (all_copies d i rest)
copies-true d m i [] each = tt
copies-true d m i (l ∷ rest) each =
    let here : i + 0 ≡ i = omega arith in
    rec_append (Raw m)
    (agreement_clauses (first_same d + i) (2 * (first_copy d + i)) (on_number (implemented_variable d) l))
    (all_copies d (suc i) rest)
    (subst (λ (n : ℕ). AllByRecursion (Raw m)
    (agreement_clauses (first_same d + n) (2 * (first_copy d + n)) (on_number (implemented_variable d) l))) here
    (each 0 (omega arith)))
    (copies-true d m (suc i) rest (λ j below.
    let next : i + suc j ≡ suc i + j = omega arith in
    subst (λ (n : ℕ). AllByRecursion (Raw m)
    (agreement_clauses (first_same d + n) (2 * (first_copy d + n))
    (on_number (implemented_variable d) (get_or rest j 0)))) next (each (suc j) (omega (arith, below)))))

outputs-true : (d : PartialDesign) (m : Assignment) (i : ℕ) (rest : List ℕ) →
    ((j : ℕ) → j < length rest
    → AllByRecursion (Raw m)
    (agreement_clauses (first_agree d + (i + j)) (on_number (specified_variable d) (get_or rest j 0))
    (on_number (implemented_variable d) (get_or d.implementation.outputs (i + j) 0)))) →
    AllByRecursion (Raw m) (all_outputs d i rest)
outputs-true d m i [] each = tt
outputs-true d m i (l ∷ rest) each =
    let here : i + 0 ≡ i = omega arith in
    rec_append (Raw m)
    (agreement_clauses (first_agree d + i) (on_number (specified_variable d) l)
    (on_number (implemented_variable d) (get_or d.implementation.outputs i 0))) (all_outputs d (suc i) rest)
    (subst (λ (n : ℕ). AllByRecursion (Raw m)
    (agreement_clauses (first_agree d + n) (on_number (specified_variable d) l)
    (on_number (implemented_variable d) (get_or d.implementation.outputs n 0)))) here (each 0 (omega arith)))
    (outputs-true d m (suc i) rest (λ j below.
    let next : i + suc j ≡ suc i + j = omega arith in
    subst (λ (n : ℕ). AllByRecursion (Raw m)
    (agreement_clauses (first_agree d + n) (on_number (specified_variable d) (get_or rest j 0))
    (on_number (implemented_variable d) (get_or d.implementation.outputs n 0)))) next
    (each (suc j) (omega (arith, below)))))

copy-clauses : (s : Site) (j : ℕ) → j < signals_of s.p.d →
    AllByRecursion (Raw s.m)
    (agreement_clauses (first_same s.p.d + j) (2 * (first_copy s.p.d + j))
    (on_number (implemented_variable s.p.d) (get_or (signals s.p.d.boxes) j 0)))
copy-clauses s j below =
    let d = s.p.d in
    let l = get_or (signals d.boxes) j 0 in
    let n = with_constant s.m in
    let v = first_copy d + j in
    let copy : literal_bit n (2 * v) ≡ in_row (row_of s) v = even-bit n v ∙ behind s.m v (omega arith)
    ∙ sym (row-bit s v (omega arith) (omega (arith, below))) in
    let signal = imp-literal s l (s.p.keeps.signals_stand j below) in
    agreement-true s.m (first_same d + j) (2 * v) (on_number (implemented_variable d) l)
    (same-flag s j below
    ∙ sym (ap (λ b. same_bit b (literal_bit n (on_number (implemented_variable d) l))) copy
    ∙ ap (same_bit (in_row (row_of s) v)) signal))

output-clauses : (s : Site) (o : ℕ) → o < length s.p.d.specification.outputs →
    AllByRecursion (Raw s.m)
    (agreement_clauses (first_agree s.p.d + o)
    (on_number (specified_variable s.p.d) (get_or s.p.d.specification.outputs o 0))
    (on_number (implemented_variable s.p.d) (get_or s.p.d.implementation.outputs o 0)))
output-clauses s o below =
    search (arith, (spec-literal s), (imp-literal s), (agreement-true s.m), (agree-flag s o below))

pub read-from : (m bit : ℕ → Bool) (next : ℕ) (ins : List ℕ)
    → ((j : ℕ) → j < length ins → bit (next + j) ≡ literal_bit m (get_or ins j 0)) →
    map bit (range_with_len next (length ins)) ≡ map (literal_bit m) ins
read-from m bit next [] same = refl
read-from m bit next (l ∷ ls) same =
    let first : bit next ≡ literal_bit m l = ap bit (let e : next ≡ next + 0 = omega arith in e)
    ∙ same 0 (omega arith) in
    ap (λ b. b ∷ map bit (range_with_len (next + 1) (length ls))) first
    ∙ ap (λ bs. literal_bit m l ∷ bs)
    (read-from m bit (next + 1) ls
    (λ j below. ap bit (let e : next + 1 + j ≡ next + suc j = omega arith in e)
    ∙ same (suc j) (omega (arith, below))))

-- what drives a literal is one box, whose copies it sees
pub box-copies : (m bit : ℕ → Bool) (boxes : List BlackBox) (next : ℕ) → AllPairs (λ a b. a ≢ b) (driven boxes) →
    ((j : ℕ) → j < length (signals boxes) → bit (next + j) ≡ literal_bit m (get_or (signals boxes) j 0)) →
    (box : BlackBox) → Contains boxes box → (out : ℕ) → Contains box.outs out → map bit (copies_for next boxes out)
    ≡ bits_read m box
box-copies m bit [] next once same box (k, below, e) out inside = absurd (omega (arith, below))
box-copies m bit (b ∷ boxes) next once same box (zero, below, e) out inside =
    search (arith, any-contained, eq-eqb, length-append, cond-true, read-from, get_or-append)
box-copies m bit (b ∷ boxes) next once same box (suc k, below, e) out inside =
    let later : Contains boxes box = (k, omega (arith, below), e) in
    let long = length-append b.ins (signals boxes) in
    ap (map bit) (cond-false (list_any (λ o. o == out) b.outs) (range_with_len next (length b.ins))
    (copies_for (next + length b.ins) boxes out)
    (none (list_any (λ o. o == out) b.outs) refl (drives-box boxes box out later inside)))
    ∙ box-copies m bit boxes (next + length b.ins) (right-distinct b.outs (driven boxes) once)
    (λ j low. ap bit (let e2 : next + length b.ins + j ≡ next + (length b.ins + j) = omega arith in e2)
    ∙ same (length b.ins + j) (omega (arith, low, long))
    ∙ ap (literal_bit m) (get_or-append-add b.ins (signals boxes) j 0))
    box later out inside
  where
    none : (c : Bool) → list_any (λ o. o == out) b.outs ≡ c → Contains (driven boxes) out
        → list_any (λ o. o == out) b.outs ≡ false
    none false f more = f
    none true f more =
        let r = contained (λ o. o == out) b.outs f in
        absurd (in_one_part b.outs (driven boxes) out once (subst (λ (n : ℕ). Contains b.outs n) (eqb-true r.0 out r.2) r.1)
        more)

-- where all copies have their signals' values, the boxes are filled, and the outputs agree
outputs-fit : (s : Site)
    → ((j : ℕ) → j < signals_of s.p.d → in_row (row_of s) (first_copy s.p.d + j)
    ≡ literal_bit (imp_values s.p (row_of s)) (get_or (signals s.p.d.boxes) j 0)) →
    (o : ℕ) → o < length s.p.d.specification.outputs → literal_bit (spec_values s.p (row_of s))
    (get_or s.p.d.specification.outputs o 0) ≡ literal_bit (imp_values s.p (row_of s))
    (get_or s.p.d.implementation.outputs o 0)
outputs-fit s same o below =
    s.p.fit bits (spec_values s.p (row_of s)) (imp_values s.p (row_of s)) (valuation (on_spec s.p) bits)
    (valuation (on_imp s.p) bits) filled o below
  where
    bits : ℕ → Bool
    bits = design_bits s.p (row_of s)

    d : PartialDesign
    d = s.p.d

    filled : AreFilled d.boxes s.p.h (imp_values s.p (row_of s))
    filled k e low j f under =
        let box = get_or d.boxes k e in
        let out = get_or box.outs j f in
        let in-boxes : Contains d.boxes box = contained_at d.boxes k e low in
        let in-box : Contains box.outs out = contained_at box.outs j f under in
        let further : IsFurtherInput d out = All-contains (IsFurtherInput d) (driven d.boxes) out s.p.boxes.further
        (drives-box d.boxes box out in-boxes in-box) in
        let i = further.0 in
        let two : out ≡ 2 * input_of s.p i = further.3 in
        let half : literal_variable out ≡ input_of s.p i = omega (arith, two) in
        ap (imp_values s.p (row_of s)) half ∙ (valuation (on_imp s.p) bits).inputs i further.2
        ∙ late-bit s i further.1
        ∙ ap (λ n. s.p.h n (map (in_row (row_of s)) (copies_for (first_copy d) d.boxes n))) (sym two)
        ∙ ap (s.p.h out)
        (box-copies (imp_values s.p (row_of s)) (in_row (row_of s)) d.boxes (first_copy d) s.p.boxes.driven_once
        same box in-boxes out in-box)

same-means : (a b : Bool) → same_bit a b ≡ true → a ≡ b
same-means true b e = sym e
same-means false true e = absurd (true≢false (sym e))
same-means false false e = refl

demand-true : (s : Site) (o : ℕ) → o < length s.p.d.specification.outputs → Raw s.m (demand s.p.d o)
demand-true s o below = by (raw_true s.m downs) refl
  where
    d : PartialDesign
    d = s.p.d

    q : ℕ
    q = signals_of s.p.d

    downs : List ℕ
    downs = map (λ i. opposite_of (2 * (first_same s.p.d + i))) (range_with_len 0 (signals_of s.p.d))

    flag : ℕ
    flag = 2 * (first_agree s.p.d + o)

    by : (b : Bool)
        → raw_true s.m (map (λ i. opposite_of (2 * (first_same s.p.d + i))) (range_with_len 0 (signals_of s.p.d))) ≡ b
        → Raw s.m (demand s.p.d o)
    by true e = or_right (literal_bit (with_constant s.m) (2 * (first_agree s.p.d + o)))
        (raw_true s.m (map (λ i. opposite_of (2 * (first_same s.p.d + i))) (range_with_len 0 (signals_of s.p.d)))) e
    by false e =
        or_left (literal_bit (with_constant s.m) (2 * (first_agree s.p.d + o)))
        (raw_true s.m (map (λ i. opposite_of (2 * (first_same s.p.d + i))) (range_with_len 0 (signals_of s.p.d))))
        (even-bit (with_constant s.m) (first_agree s.p.d + o) ∙ agree-flag s o below
        ∙ bits_same (literal_bit (spec_values s.p (row_of s)) (get_or s.p.d.specification.outputs o 0))
        (literal_bit (imp_values s.p (row_of s)) (get_or s.p.d.implementation.outputs o 0))
        (outputs-fit s
        (λ j low. same-means (in_row (row_of s) (first_copy s.p.d + j))
        (literal_bit (imp_values s.p (row_of s)) (get_or (signals s.p.d.boxes) j 0))
        (sym (same-flag s j low) ∙ up j low)) o below))
      where
        down : (j : ℕ) → j < signals_of s.p.d → (c : Bool)
            → literal_bit (with_constant s.m) (opposite_of (2 * (first_same s.p.d + j))) ≡ c → c ≡ false
        down j low false h = refl
        down j low true h =
            let f = λ (i : ℕ). opposite_of (2 * (first_same s.p.d + i)) in
            let n = signals_of s.p.d in
            let long : length (map f (range_with_len 0 n)) ≡ n = length-map (range_with_len 0 n) f
            ∙ length-range_with_len 0 n in
            let at : get_or (map f (range_with_len 0 n)) j 0 ≡ f j = get_or-map-range_with_len f 0 n j j 0 low
            (omega arith) in
            absurd (true≢false
            (sym (list_any_at (literal_bit (with_constant s.m)) (map f (range_with_len 0 n)) j 0
            (omega (arith, low, long)) (ap (literal_bit (with_constant s.m)) at ∙ h)) ∙ e))

        up : (j : ℕ) → j < signals_of s.p.d → with_constant s.m (first_same s.p.d + j) ≡ true
        up j low =
            let l = 2 * (first_same s.p.d + j) in
            unnot (with_constant s.m (first_same s.p.d + j))
            (sym (opposite-bit (with_constant s.m) l ∙ ap not (even-bit (with_constant s.m) (first_same s.p.d + j)))
            ∙ down j low (literal_bit (with_constant s.m) (opposite_of l)) refl)

raw-clauses-true : (s : Site) → AllByRecursion (Raw s.m) (raw_clauses s.p.d)
raw-clauses-true s =
    let d = s.p.d in
    let P = Raw s.m in
    let bits = design_bits s.p (row_of s) in
    let outs = d.specification.outputs in
    let spec-part = flat_map (λ g. gate_clauses (numbered_gate (specified_variable d) g)) d.specification.gates in
    let imp-part = flat_map (λ g. gate_clauses (numbered_gate (implemented_variable d) g)) d.implementation.gates in
    let copies = all_copies d 0 (signals d.boxes) in
    let outputs = all_outputs d 0 outs in
    let demands = map (demand d) (range_with_len 0 (length outs)) in
    let zero-plus : (j : ℕ) → j ≡ 0 + j = λ j. omega arith in
    rec_append P spec-part (imp-part ++ (copies ++ (outputs ++ demands)))
    (gates-true (on_spec s.p) (specified_variable d) s.m bits (spec_values s.p (row_of s))
    (valuation (on_spec s.p) bits) (spec-seen s))
    (rec_append P imp-part (copies ++ (outputs ++ demands))
    (gates-true (on_imp s.p) (implemented_variable d) s.m bits (imp_values s.p (row_of s))
    (valuation (on_imp s.p) bits) (imp-seen s))
    (rec_append P copies (outputs ++ demands)
    (copies-true d s.m 0 (signals d.boxes) (λ j low.
    subst (λ (n : ℕ). AllByRecursion P
    (agreement_clauses (first_same d + n) (2 * (first_copy d + n))
    (on_number (implemented_variable d) (get_or (signals d.boxes) j 0)))) (zero-plus j) (copy-clauses s j low)))
    (rec_append P outputs demands
    (outputs-true d s.m 0 outs (λ j low.
    subst (λ (n : ℕ). AllByRecursion P
    (agreement_clauses (first_agree d + n) (on_number (specified_variable d) (get_or outs j 0))
    (on_number (implemented_variable d) (get_or d.implementation.outputs n 0)))) (zero-plus j)
    (output-clauses s j low)))
    (recursion_from_All P demands (All-map P (demand d) (range_with_len 0 (length outs))
    (range-all (λ o. Raw s.m (demand d o)) 0 (length outs) (λ o low high. demand-true s o (omega (arith, high)))))))))

-- Henkin choices are all the families of functions over the dependency sets
abbrev pub Choosing : Type 0
Choosing =
    (values : Existential → List Bool → Bool) → (choice : HenkinChoice)
    × ((y : Existential) (m : Assignment) → choice_value choice y m ≡ values y (restriction y m))

pub choose : Choosing → GroundedHaveValues → ValuesAreUnique → ValuesFollowReach → FittingBoxesChoose
choose choices grounded unique follow d h keeps acyclic boxes fit = (
  made.0,
  λ m follows. clauses-true m (raw_clauses d)
      (raw-clauses-true
      (site m (λ k e below. follows k e below ∙ made.1 (get_or (design_formula d).existentials k e) m))),
)
  where
    plan : Plan
    plan = record {
      d = d;
      keeps = keeps;
      acyclic = acyclic;
      boxes = boxes;
      h = h;
      fit = fit;
      grounded = grounded;
      unique = unique;
      follow = follow;
    }

    made : (choice : HenkinChoice)
        × ((y : Existential) (m : Assignment) → choice_value choice y m ≡ values_of plan y (restriction y m))
    made = choices (values_of plan)

    site : (m : Assignment) → All (λ (y : Existential). m y.variable ≡ values_of plan y (map m y.sees))
        (design_formula d).existentials → Site
    site m follows = record { p = plan; m = m; follows = follows }
