-- A choice that solves a design's formula makes the outputs agree where its functions fill the boxes.
use Rattle.std.proofs.Common.{◌≡◌, ℕ, zero, suc, ◌+◌, ◌-◌, ◌*◌, ◌<◌, ◌≤◌, nat_lt, Bool, true, false, not, List, [], ◌∷◌, ◌++◌, map, length, get_or, sym, ◌∙◌, ap, subst, arith}
use Rattle.std.specs.List.{All, AllByRecursion, Contains, list_any, flat_map, range_with_len}
use Rattle.std.specs.Prelude.{slice_index}
use Rattle.std.proofs.Math.ListN.{get_or-append}
use Rattle.std.proofs.lemmas.Bool.{lt-ltb, le-ltb, ltb-true, ltb-false, cond-true, cond-false}
use Rattle.std.proofs.lemmas.List.{length-map}
use Rattle.std.proofs.lemmas.List.Elements.{All-contains, All-from_recursion, All-map}
use Rattle.std.proofs.lemmas.List.FromFn.{get_or-range_with_len, length-range_with_len, get_or-map-range_with_len}
use Rattle.list_laws.proofs.Sequences.{all_behind, all_before}
use Rattle.dq_lits.specs.Literal.{Assignment}
use Rattle.dq_lits.specs.Formula.{Existential, Dqbf, HasLawfulPrefix}
use Rattle.dq_lits.specs.Henkin.{HenkinChoice, Follows, Solves, choice_value, same_bits}
use Rattle.dq_lits.proofs.Followers.{map-agree}
use Rattle.circuit_plain.specs.Netlist.{literal_bit, literal_variable}
use Rattle.circuit_plain.specs.Ground.{IsGrounded}
use Rattle.circuit_plain.specs.Value.{IsValuation, GroundedHaveValues, ValuationsAgree}
use Rattle.cert_text.specs.NegatedMatrix.{opposite_of, gate_clauses}
use Rattle.pec_front.specs.Boxes.{PartialDesign, signals, IsDesign, inputs_of}
use Rattle.pec_front.specs.Encoding.{signals_of, driven_of, first_copy, first_specified, first_same, first_agree, end_of, specified_variable, implemented_input, implemented_variable, on_number, numbered_gate, agreement_clauses, all_copies, all_outputs, demand, raw_clauses, driven_existential, design_universals, seeing_all, design_formula}
use Rattle.pec_front.specs.Choices.{signal_bits, AreDriven, ChoicesFillBoxes}
use Rattle.pec_front.proofs.Clauses.{with_constant, opposite-bit}
use Rattle.pec_front.proofs.Circuits.{even-bit, seen_by, on_number-bit, same-values, same-bits}
use Rattle.pec_front.proofs.Encoded.{all-raw}
use Rattle.pec_front.proofs.Fitting.{Raw, raised, means, seen-valuation, demanded}
use Rattle.pec_front.proofs.Choosing.{behind}

pub record Case : Type 0 where
  pub d : PartialDesign
  pub keeps : IsDesign d
  pub lawful : HasLawfulPrefix (design_formula d)
  pub choice : HenkinChoice
  pub solves : Solves choice (design_formula d)
  pub grounded : GroundedHaveValues
  pub agree : ValuationsAgree
  pub bits : ℕ → Bool
  pub ms : ℕ → Bool
  pub mi : ℕ → Bool
  pub specified : IsValuation d.specification bits ms
  pub implemented : IsValuation d.implementation bits mi
  pub driven : AreDriven d choice bits mi
  pub a : Assignment
  pub universals : All (λ x. a x ≡ signal_bits d bits mi x) (design_universals d)
  pub follows : Follows (design_formula d) choice a

universal-bit : (c : Case) (i : ℕ) → i < inputs_of c.d + signals_of c.d → c.a (1 + i)
    ≡ signal_bits c.d c.bits c.mi (1 + i)
universal-bit c i below =
    let n = inputs_of c.d + signals_of c.d in
    let at : get_or (range_with_len 1 n) i 0 ≡ 1 + i = get_or-range_with_len 1 n i 0 below in
    let long : length (range_with_len 1 n) ≡ n = length-range_with_len 1 n in
    sym (ap c.a at) ∙ c.universals i 0 (omega (arith, long, below)) ∙ ap (signal_bits c.d c.bits c.mi) at

input-bit : (c : Case) (i : ℕ) → i < inputs_of c.d → with_constant c.a (1 + i) ≡ c.bits i
input-bit c i below = search (arith, nat_lt, lt-ltb, universal-bit, cond-true)

copy-bit : (c : Case) (j : ℕ) → j < signals_of c.d → with_constant c.a (first_copy c.d + j)
    ≡ literal_bit c.mi (get_or (signals c.d.boxes) j 0)
copy-bit c j below =
    let p = inputs_of c.d in
    let v = first_copy c.d + j in
    let is : v ≡ 1 + (p + j) = omega arith in
    let late : nat_lt v (first_copy c.d) ≡ false = le-ltb v (first_copy c.d) (omega arith) in
    let back : v - first_copy c.d ≡ j = omega arith in
    behind c.a v (omega arith)
    ∙ ap c.a is
    ∙ universal-bit c (p + j) (omega (arith, below))
    ∙ ap (signal_bits c.d c.bits c.mi) (sym is)
    ∙ cond-false (nat_lt v (first_copy c.d)) (c.bits (v - 1))
    (literal_bit c.mi (get_or (signals c.d.boxes) (v - first_copy c.d) 0)) late
    ∙ ap (λ k. literal_bit c.mi (get_or (signals c.d.boxes) k 0)) back

driven-bit : (c : Case) (i : ℕ) → inputs_of c.d ≤ i → i < length c.d.implementation.inputs
    → c.a (implemented_input c.d i) ≡ c.mi (get_or c.d.implementation.inputs i 0)
driven-bit c i low below =
    let d = c.d in
    let p = inputs_of d in
    let r = driven_of d in
    let k = i - p in
    let nobody : Existential = record { variable = 0; sees = [] } in
    let firsts = map (driven_existential d) (range_with_len p r) in
    let others = map (seeing_all d) (range_with_len (first_specified d) (end_of d - first_specified d)) in
    let few : k < r = omega (arith, low, below) in
    let is : p + k ≡ i = omega (arith, low) in
    let long : length firsts ≡ r = length-map (range_with_len p r) (driven_existential d) ∙ length-range_with_len p r in
    let inside : k < length firsts = omega (arith, few, long) in
    let at : get_or (firsts ++ others) k nobody ≡ driven_existential d i =
    get_or-append firsts others nobody k inside ∙ get_or-map-range_with_len (driven_existential d) p r k i nobody few
    is in
    let within : k < length (firsts ++ others) = within-append firsts others k inside in
    let y = driven_existential d i in
    let seen : All (Contains (design_universals d)) y.sees =
    subst (λ (z : Existential). All (Contains (design_universals d)) z.sees) at
    (c.lawful.sees_universals k nobody within) in
    let same : All (λ x. c.a x ≡ signal_bits d c.bits c.mi x) y.sees =
    λ j e under. All-contains (λ x. c.a x ≡ signal_bits d c.bits c.mi x) (design_universals d) (get_or y.sees j e)
    c.universals (seen j e under) in
    let value : c.a y.variable ≡ choice_value c.choice y c.a =
    subst (λ (z : Existential). c.a z.variable ≡ choice_value c.choice z c.a) at (c.follows k nobody within) in
    value ∙ ap (λ bits. list_any (same_bits bits) (c.choice y))
    (map-agree c.a (signal_bits d c.bits c.mi) y.sees same) ∙ sym (c.driven i low below)
  where
    within-append : {X : Type 0} (xs ys : List X) (k : ℕ) → k < length xs → k < length (xs ++ ys)
    within-append [] ys k h = absurd (omega (arith, h))
    within-append (x ∷ xs) ys zero h = omega arith
    within-append (x ∷ xs) ys (suc k) h = let r = within-append xs ys k (omega (arith, h)) in omega (arith, r)

-- the implementation's inputs have their bits
implemented-bit : (c : Case) (i : ℕ) → i < length c.d.implementation.inputs
    → with_constant c.a (implemented_input c.d i) ≡ c.bits i
implemented-bit c i below = search (arith, nat_lt, ltb-true, cond-true, input-bit, ltb-false, cond-false, driven-bit)

all-clauses : (c : Case) → AllByRecursion (Raw c.a) (raw_clauses c.d)
all-clauses c = all-raw c.a (raw_clauses c.d) (c.solves c.a c.follows)

abbrev specified_clauses : PartialDesign → List (List ℕ)
specified_clauses d = flat_map (λ g. gate_clauses (numbered_gate (specified_variable d) g)) d.specification.gates

abbrev implemented_clauses : PartialDesign → List (List ℕ)
implemented_clauses d = flat_map (λ g. gate_clauses (numbered_gate (implemented_variable d) g)) d.implementation.gates

abbrev demands : PartialDesign → List (List ℕ)
demands d = map (demand d) (range_with_len 0 (length d.specification.outputs))

abbrev behind_gates : PartialDesign → List (List ℕ)
behind_gates d = all_copies d 0 (signals d.boxes) ++ (all_outputs d 0 d.specification.outputs ++ demands d)

copies-hold : (c : Case) → AllByRecursion (Raw c.a) (behind_gates c.d)
copies-hold c = search (arith, all_behind, all-clauses)

specified-valuation : (c : Case) → IsValuation c.d.specification c.bits (seen_by (specified_variable c.d) c.a)
specified-valuation c =
    seen-valuation c.d.specification c.keeps.specification (λ i. 1 + i) (first_specified c.d) c.bits c.a (input-bit c)
    (all_before (Raw c.a) (specified_clauses c.d) (implemented_clauses c.d ++ behind_gates c.d) (all-clauses c))

implemented-valuation : (c : Case) → IsValuation c.d.implementation c.bits (seen_by (implemented_variable c.d) c.a)
implemented-valuation c =
    search (
      arith,
      (seen-valuation c.d.implementation c.keeps.implementation),
      (implemented-bit c),
      all_before,
      all_behind,
      (all-clauses c),
    )

-- a grounded literal of the implementation has its bit under its number
implemented-literal : (c : Case) (l : ℕ) → IsGrounded c.d.implementation (literal_variable l) →
    literal_bit (with_constant c.a) (on_number (implemented_variable c.d) l) ≡ literal_bit c.mi l
implemented-literal c l ground =
    on_number-bit (implemented_variable c.d) c.a l
    ∙ same-bits (seen_by (implemented_variable c.d) c.a) c.mi l
    (same-values c.grounded c.agree c.d.implementation c.bits (seen_by (implemented_variable c.d) c.a) c.mi
    (implemented-valuation c) c.implemented (literal_variable l) ground)

specified-literal : (c : Case) (l : ℕ) → IsGrounded c.d.specification (literal_variable l) →
    literal_bit (with_constant c.a) (on_number (specified_variable c.d) l) ≡ literal_bit c.ms l
specified-literal c l ground =
    on_number-bit (specified_variable c.d) c.a l
    ∙ same-bits (seen_by (specified_variable c.d) c.a) c.ms l
    (same-values c.grounded c.agree c.d.specification c.bits (seen_by (specified_variable c.d) c.a) c.ms
    (specified-valuation c) c.specified (literal_variable l) ground)

copies-at : (d : PartialDesign) (m : Assignment) (i : ℕ) (rest : List ℕ) (j k : ℕ) → i + j ≡ k → j < length rest
    → AllByRecursion (Raw m) (all_copies d i rest) →
    AllByRecursion (Raw m)
    (agreement_clauses (first_same d + k) (2 * (first_copy d + k))
    (on_number (implemented_variable d) (get_or rest j 0)))
copies-at d m i [] j k e below all = absurd (omega (arith, below))
copies-at d m i (s ∷ rest) zero k e below all =
    let here : i ≡ k = omega (arith, e) in
    subst (λ n. AllByRecursion (Raw m)
    (agreement_clauses (first_same d + n) (2 * (first_copy d + n)) (on_number (implemented_variable d) s))) here
    (all_before (Raw m)
    (agreement_clauses (first_same d + i) (2 * (first_copy d + i)) (on_number (implemented_variable d) s))
    (all_copies d (suc i) rest) all)
copies-at d m i (s ∷ rest) (suc j) k e below all = search (arith, (copies-at d m (suc i) rest j k), all_behind)

outputs-at : (d : PartialDesign) (m : Assignment) (i : ℕ) (rest : List ℕ) (j k : ℕ) → i + j ≡ k → j < length rest
    → AllByRecursion (Raw m) (all_outputs d i rest) →
    AllByRecursion (Raw m)
    (agreement_clauses (first_agree d + k) (on_number (specified_variable d) (get_or rest j 0))
    (on_number (implemented_variable d) (slice_index d.implementation.outputs k)))
outputs-at d m i [] j k e below all = absurd (omega (arith, below))
outputs-at d m i (s ∷ rest) zero k e below all =
    let here : i ≡ k = omega (arith, e) in
    let one = agreement_clauses (first_agree d + i) (on_number (specified_variable d) s)
    (on_number (implemented_variable d) (slice_index d.implementation.outputs i)) in
    subst (λ n. AllByRecursion (Raw m)
    (agreement_clauses (first_agree d + n) (on_number (specified_variable d) s)
    (on_number (implemented_variable d) (slice_index d.implementation.outputs n)))) here
    (all_before (Raw m) one (all_outputs d (suc i) rest) all)
outputs-at d m i (s ∷ rest) (suc j) k e below all = search (arith, (outputs-at d m (suc i) rest j k), all_behind)

-- each copy has its signal's value, so its flag is true
flag-true : (c : Case) (j : ℕ) → j < signals_of c.d → with_constant c.a (first_same c.d + j) ≡ true
flag-true c j below =
    let d = c.d in
    let s = get_or (signals d.boxes) j 0 in
    raised c.a (first_same d + j) (2 * (first_copy d + j)) (on_number (implemented_variable d) s)
    (copies-at d c.a 0 (signals d.boxes) j j (omega arith) below
    (all_before (Raw c.a) (all_copies d 0 (signals d.boxes)) (all_outputs d 0 d.specification.outputs ++ demands d)
    (copies-hold c)))
    (even-bit (with_constant c.a) (first_copy d + j) ∙ copy-bit c j below
    ∙ sym (implemented-literal c s (c.keeps.signals_stand j below)))

-- so each pair of outputs agrees
pub outputs-agree : (c : Case) (o : ℕ) → o < length c.d.specification.outputs →
    literal_bit c.ms (slice_index c.d.specification.outputs o)
    ≡ literal_bit c.mi (slice_index c.d.implementation.outputs o)
outputs-agree c o below =
    let d = c.d in
    let outs = d.specification.outputs in
    let behind-copies = all_behind (Raw c.a) (all_copies d 0 (signals d.boxes)) (all_outputs d 0 outs ++ demands d)
    (copies-hold c) in
    let all-demands = All-from_recursion (Raw c.a) (demands d)
    (all_behind (Raw c.a) (all_outputs d 0 outs) (demands d) behind-copies) in
    let many : length (demands d) ≡ length outs = length-map (range_with_len 0 (length outs)) (demand d)
    ∙ length-range_with_len 0 (length outs) in
    let at : get_or (demands d) o [] ≡ demand d o = get_or-map-range_with_len (demand d) 0 (length outs) o o [] below
    (omega arith) in
    let asked : Raw c.a (demand d o) =
    subst (λ (k : List ℕ). Raw c.a k) at (all-demands o [] (omega (arith, below, many))) in
    let q = signals_of d in
    let down : All (λ l. literal_bit (with_constant c.a) l ≡ false)
    (map (λ i. opposite_of (2 * (first_same d + i))) (range_with_len 0 q)) =
    All-map (λ l. literal_bit (with_constant c.a) l ≡ false) (λ i. opposite_of (2 * (first_same d + i)))
    (range_with_len 0 q) (λ k e under.
    let long : length (range_with_len 0 q) ≡ q = length-range_with_len 0 q in
    let inside : k < q = omega (arith, under, long) in
    let is : get_or (range_with_len 0 q) k e ≡ k = get_or-range_with_len 0 q k e inside ∙ omega arith in
    ap (λ n. literal_bit (with_constant c.a) (opposite_of (2 * (first_same d + n)))) is
    ∙ opposite-bit (with_constant c.a) (2 * (first_same d + k))
    ∙ ap not (even-bit (with_constant c.a) (first_same d + k) ∙ flag-true c k inside)) in
    let up = demanded c.a (first_agree d + o) (map (λ i. opposite_of (2 * (first_same d + i))) (range_with_len 0 q))
    down asked in
    let pair = outputs-at d c.a 0 outs o o (omega arith) below
    (all_before (Raw c.a) (all_outputs d 0 outs) (demands d) behind-copies) in
    let s1 = get_or outs o 0 in
    let s2 = slice_index d.implementation.outputs o in
    let same = c.keeps.outputs in
    sym (specified-literal c s1 (c.keeps.specified_outputs o below))
    ∙ means c.a (first_agree d + o) (on_number (specified_variable d) s1) (on_number (implemented_variable d) s2) pair
    up
    ∙ implemented-literal c s2 (c.keeps.implemented_outputs o (omega (arith, below, same)))

-- the law that every row extends to an assignment that follows a choice
abbrev pub Extending : Type 0
Extending =
    (f : Dqbf) (choice : HenkinChoice) (m : Assignment) → HasLawfulPrefix f
    → (n : Assignment) × All (λ x. n x ≡ m x) f.universals × Follows f choice n

pub fill : Extending → GroundedHaveValues → ValuationsAgree → ChoicesFillBoxes
fill extends grounded agree d choice keeps lawful solves bits ms mi specified implemented driven o below =
    let more = extends (design_formula d) choice (signal_bits d bits mi) lawful in
    let c : Case = record {
      d = d;
      keeps = keeps;
      lawful = lawful;
      choice = choice;
      solves = solves;
      grounded = grounded;
      agree = agree;
      bits = bits;
      ms = ms;
      mi = mi;
      specified = specified;
      implemented = implemented;
      driven = driven;
      a = more.0;
      universals = more.1;
      follows = more.2;
    } in
    outputs-agree c o below
