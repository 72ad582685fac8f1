-- The numbers of a circuit's variables, and the ranges that a design's formula declares.
use Rattle.std.proofs.Common.{◌≡◌, ◌≢◌, ℕ, zero, suc, ◌+◌, ◌-◌, ◌<◌, ◌≤◌, ◌==◌, nat_lt, Bool, true, false, ◌||◌, ◌⊎◌, inl, inr, List, [], ◌∷◌, ◌++◌, map, length, get_or, refl, sym, ◌∙◌, ap, subst, arith, length-append}
use Rattle.std.specs.List.{All, AllPairs, Contains, list_any, range_with_len, position_or_len}
use Rattle.std.proofs.lemmas.Bool.{true≢false, eqb-true, eq-eqb, le-ltb, cond-true, cond-false}
use Rattle.std.proofs.lemmas.List.Elements.{All-append, All-map, All-contains_itself}
use Rattle.std.proofs.lemmas.List.FromFn.{get_or-range_with_len, length-range_with_len}
use Rattle.std.proofs.lemmas.List.Sums.{position_or_len_is}
use Rattle.dq_lits.specs.Formula.{Existential, declared, HasLawfulPrefix}
use Rattle.circuit_plain.specs.Netlist.{Netlist}
use Rattle.circuit_plain.specs.declared.circuits.Gate.{Gate}
use Rattle.circuit_plain.specs.Ground.{IsGrounded}
use Rattle.pec_front.specs.Boxes.{BlackBox, PartialDesign, signals, inputs_of}
use Rattle.pec_front.specs.Encoding.{signals_of, driven_of, first_driven, first_specified, end_of, numbered_variable, copies_for, driven_existential, design_universals, seeing_all, design_formula}
use Rattle.pec_front.proofs.Values.{ground_cases, any-contained}
use Rattle.list_laws.proofs.Numbers.{range_append, range_distinct}

-- the first place that passes a test
pub record First {X : Type 0} (p : X → Bool) (xs : List X) (d : X) : Type 0 where
  pub place : ℕ
  pub below : place < length xs
  pub passes : p (get_or xs place d) ≡ true
  pub earlier : (k : ℕ) → k < place → p (get_or xs k d) ≡ false

first : {X : Type 0} (p : X → Bool) (xs : List X) (d : X) → list_any p xs ≡ true → First p xs d
first p [] d h = absurd (true≢false (sym h))
first p (x ∷ xs) d h = by (p x) refl (first p xs d)
  where
    by : (b : Bool) → p x ≡ b → (list_any p xs ≡ true → First p xs d) → First p (x ∷ xs) d
    by true e more =
        record { place = 0; below = omega arith; passes = e; earlier = λ k low. absurd (omega (arith, low)) }
    by false e more =
        let r = more (sym (ap (λ b. b || list_any p xs) e) ∙ h) in
        record {
          place = suc r.place;
          below = (let b = r.below in omega (arith, b));
          passes = r.passes;
          earlier =
              λ k low. before r k low;
        }
      where
        before : (r : First p xs d) (k : ℕ) → k < suc r.place → p (get_or (x ∷ xs) k d) ≡ false
        before r zero low = e
        before r (suc k) low = r.earlier k (omega (arith, low))

-- position_or_len finds it
pub first-place : {X : Type 0} (p : X → Bool) (xs : List X) (d : X) → list_any p xs ≡ true
    → (position_or_len p xs < length xs) × (p (get_or xs (position_or_len p xs) d) ≡ true)
first-place p xs d h =
    let r = first p xs d h in
    let at : position_or_len p xs ≡ r.place = position_or_len_is p xs r.place d (let b = r.below in omega (arith, b))
    r.earlier (λ inside. r.passes) in
    ((let b = r.below in omega (arith, at, b)), ap (λ k. p (get_or xs k d)) at ∙ r.passes)

pub record OfInput (net : Netlist) (input : ℕ → ℕ) (v number : ℕ) : Type 0 where
  pub place : ℕ
  pub below : place < length net.inputs
  pub is : get_or net.inputs place 0 ≡ v
  pub numbered : number ≡ input place

pub record OfGate (net : Netlist) (first_gate v number : ℕ) : Type 0 where
  pub place : ℕ
  pub below : place < length net.gates
  pub is : (d : Gate) → (get_or net.gates place d).variable ≡ v
  pub numbered : number ≡ first_gate + place

-- the number of a grounded variable
pub number-cases : (net : Netlist) (input : ℕ → ℕ) (first_gate v : ℕ) → IsGrounded net v →
    ((v ≡ 0) × (numbered_variable net input first_gate v ≡ 0))
    ⊎ (OfInput net input v (numbered_variable net input first_gate v)
    ⊎ OfGate net first_gate v (numbered_variable net input first_gate v))
number-cases net input first_gate zero ground = inl (refl, refl)
number-cases net input first_gate (suc u) ground = by (list_any (λ x. x == suc u) net.inputs) refl
  where
    v : ℕ
    v = suc u

    by : (b : Bool) → list_any (λ x. x == suc u) net.inputs ≡ b →
        ((suc u ≡ 0) × (numbered_variable net input first_gate (suc u) ≡ 0))
        ⊎ (OfInput net input (suc u) (numbered_variable net input first_gate (suc u))
        ⊎ OfGate net first_gate (suc u) (numbered_variable net input first_gate (suc u)))
    by true e =
        let r = first-place (λ x. x == suc u) net.inputs 0 e in
        inr (inl (record {
          place = position_or_len (λ x. x == suc u) net.inputs;
          below = r.0;
          is = eqb-true (get_or net.inputs (position_or_len (λ x. x == suc u) net.inputs) 0) (suc u) r.1;
          numbered = search (arith, cond-true);
        }))
    by false e =
        elim (ground_cases ground) [
          | inl z ↦ absurd (omega (arith, z))
          | inr (inl c) ↦
              absurd (true≢false
              (sym (any-contained (λ x. x == suc u) net.inputs c.0 (suc u) c.1 c.2 (eq-eqb (suc u) (suc u) refl)) ∙ e))
          | inr (inr w) ↦
              let here = any-contained (λ (g : Gate). g.variable == suc u) net.gates w.member.0 w.by w.member.1
              w.member.2 (eq-eqb w.by.variable (suc u) (sym w.is)) in
              let k = position_or_len (λ (g : Gate). g.variable == suc u) net.gates in
              inr (inr (record {
                place = k;
                below = (first-place (λ (g : Gate). g.variable == suc u) net.gates w.by here).0;
                is = λ d. eqb-true (get_or net.gates k d).variable (suc u)
                    (first-place (λ (g : Gate). g.variable == suc u) net.gates d here).1;
                numbered = cond-false (list_any (λ x. x == suc u) net.inputs)
                    (input (position_or_len (λ x. x == suc u) net.inputs)) (first_gate + k) e;
              }))
        ]

pub range-contains : (a n v : ℕ) → a ≤ v → v < a + n → Contains (range_with_len a n) v
range-contains a n v low high = search (arith, (length-range_with_len a n), (get_or-range_with_len a n (v - a) v))

pub range-all : (P : ℕ → Type 0) (a n : ℕ) → ((v : ℕ) → a ≤ v → v < a + n → P v) → All P (range_with_len a n)
range-all P a n each k d below = search (arith, length-range_with_len, get_or-range_with_len)

pub map-join : {X Y : Type 0} (f : X → Y) (xs ys : List X) → map f (xs ++ ys) ≡ map f xs ++ map f ys
map-join f [] ys = refl
map-join f (x ∷ xs) ys = ap (λ zs. f x ∷ zs) (map-join f xs ys)

pub driven-numbers : (d : PartialDesign) (n i v : ℕ) → inputs_of d ≤ i → v ≡ first_driven d + (i - inputs_of d)
    → map (λ (y : Existential). y.variable) (map (driven_existential d) (range_with_len i n)) ≡ range_with_len v n
driven-numbers d zero i v low e = refl
driven-numbers d (suc n) i v low e = search (arith, cond-false, nat_lt, le-ltb, (driven-numbers d n (i + 1) (v + 1)))

seeing-numbers : (d : PartialDesign) (vs : List ℕ) → map (λ (y : Existential). y.variable) (map (seeing_all d) vs) ≡ vs
seeing-numbers d [] = refl
seeing-numbers d (v ∷ vs) = ap (λ xs. v ∷ xs) (seeing-numbers d vs)

-- the formula declares each number once
pub declared-is : (d : PartialDesign) → declared (design_formula d) ≡ range_with_len 1 (end_of d - 1)
declared-is d =
    let p = inputs_of d in
    let q = signals_of d in
    let r = driven_of d in
    let fd = first_driven d in
    let fs = first_specified d in
    let n = end_of d - fs in
    let us = design_universals d in
    let variable = λ (y : Existential). y.variable in
    let start : fd ≡ fd + (p - p) = omega arith in
    let after : 1 + (p + q) ≡ fd = omega arith in
    let whole : p + q + (r + n) ≡ end_of d - 1 = omega arith in
    ap (λ xs. us ++ xs)
    (map-join variable (map (driven_existential d) (range_with_len p r)) (map (seeing_all d) (range_with_len fs n)))
    ∙ ap (λ xs. us ++ (xs ++ map variable (map (seeing_all d) (range_with_len fs n))))
    (driven-numbers d r p fd (omega arith) start)
    ∙ ap (λ xs. us ++ (range_with_len fd r ++ xs)) (seeing-numbers d (range_with_len fs n))
    ∙ ap (λ xs. us ++ xs) (range_append fd r n)
    ∙ ap (λ a. us ++ range_with_len a (r + n)) (sym after)
    ∙ range_append 1 (p + q) (r + n)
    ∙ ap (range_with_len 1) whole

pub copies-inside : (boxes : List BlackBox) (next out : ℕ)
    → All (λ v. (next ≤ v) × (v < next + length (signals boxes))) (copies_for next boxes out)
copies-inside [] next out = λ k d below. absurd (omega (arith, below))
copies-inside (box ∷ boxes) next out = by (list_any (λ o. o == out) box.outs) refl
    (copies-inside boxes (next + length box.ins) out)
  where
    by : (b : Bool) → list_any (λ o. o == out) box.outs ≡ b
        → All (λ v. (next + length box.ins ≤ v) × (v < next + length box.ins + length (signals boxes)))
        (copies_for (next + length box.ins) boxes out) →
        All (λ v. (next ≤ v) × (v < next + length (signals (box ∷ boxes)))) (copies_for next (box ∷ boxes) out)
    by true e later =
        let long = length-append box.ins (signals boxes) in
        subst (λ (vs : List ℕ). All (λ v. (next ≤ v) × (v < next + length (signals (box ∷ boxes)))) vs)
        (sym (cond-true (list_any (λ o. o == out) box.outs) (range_with_len next (length box.ins))
        (copies_for (next + length box.ins) boxes out) e))
        (range-all (λ v. (next ≤ v) × (v < next + length (signals (box ∷ boxes)))) next (length box.ins)
        (λ v low high. (low, omega (arith, high, long))))
    by false e later =
        let long = length-append box.ins (signals boxes) in
        subst (λ (vs : List ℕ). All (λ v. (next ≤ v) × (v < next + length (signals (box ∷ boxes)))) vs)
        (sym (cond-false (list_any (λ o. o == out) box.outs) (range_with_len next (length box.ins))
        (copies_for (next + length box.ins) boxes out) e))
        (λ k d below. let two =
        later k d below in (let low = two.0 in omega (arith, low), let high = two.1 in omega (arith, high, long)))

pub copies-seen : (d : PartialDesign) (i : ℕ) → All (Contains (design_universals d)) (driven_existential d i).sees
copies-seen d i k e below = search (arith, copies-inside, range-contains)

pub lawful-prefix : (d : PartialDesign) → HasLawfulPrefix (design_formula d)
lawful-prefix d = record {
  in_range = subst (λ (vs : List ℕ). All (λ v. (1 ≤ v) × (v ≤ end_of d - 1)) vs) (sym (declared-is d))
      (range-all (λ v. (1 ≤ v) × (v ≤ end_of d - 1)) 1 (end_of d - 1) (λ v low high. (low, omega (arith, high))));
  declared_once = subst (λ (vs : List ℕ). AllPairs (λ v w. v ≢ w) vs) (sym (declared-is d))
      (range_distinct 1 (end_of d - 1));
  sees_universals = All-append (λ (y : Existential). All (Contains (design_universals d)) y.sees)
      (map (driven_existential d) (range_with_len (inputs_of d) (driven_of d)))
      (map (seeing_all d) (range_with_len (first_specified d) (end_of d - first_specified d)))
      (All-map (λ (y : Existential). All (Contains (design_universals d)) y.sees) (driven_existential d)
      (range_with_len (inputs_of d) (driven_of d))
      (λ k e below. copies-seen d (get_or (range_with_len (inputs_of d) (driven_of d)) k e)))
      (All-map (λ (y : Existential). All (Contains (design_universals d)) y.sees) (seeing_all d)
      (range_with_len (first_specified d) (end_of d - first_specified d))
      (λ k e below. All-contains_itself (design_universals d)));
}
