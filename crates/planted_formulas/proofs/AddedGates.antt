-- What a gate more adds to the formula, and what the formula keeps meanwhile.
use Rattle.std.proofs.Common.{◌≡◌, ◌∙◌, ◌+◌, ◌*◌, ◌<◌, ◌≤◌, ◌==◌, ◌%◌, ◌/◌, ◌||◌, ℕ, suc, Bool, cond, true, false, refl, sym, ap, subst, arith, List, [], ◌∷◌, ◌++◌, map, length}
use Rattle.std.specs.List.{All, flat_map, range_with_len}
use Rattle.std.proofs.Math.Nat.{mod-lt}
use Rattle.std.proofs.Math.ListN.{get_or}
use Rattle.std.proofs.lemmas.Bool.{eqb-false}
use Rattle.std.proofs.lemmas.List.{length-append, append-nil, map-append}
use Rattle.std.proofs.lemmas.List.Elements.{All-nil, All-cons, All-map, All-append}
use Rattle.std.proofs.lemmas.List.Folds.{list_any_none}
use Rattle.std.proofs.lemmas.List.FromFn.{map-range_with_len_more, length-map-range_with_len}
use Rattle.std.proofs.lemmas.Grind.{flat_map-append}
use Rattle.list_laws.proofs.Folds.{below-differs}
use Rattle.list_laws.proofs.Members.{contains-range_from_one, tested_inside}
use Rattle.dq_lits.specs.Formula.{Existential, Dqbf, declared, is_universal}
use Rattle.dq_formula.specs.Prefix.{is_declared}
use Rattle.planted_formulas.specs.Planted.{next_state, state_after, drawn, other_than, next_gate, planted_gate, planted_gates, gate_clauses, and_clauses, xor_clauses, gate_existential, formula_of_gates}
use Rattle.planted_formulas.specs.declared.gates.PlantedGate.{PlantedGate}
use Rattle.planted_formulas.proofs.Lists.{all_range, range_more}

-- what holds of every planted gate holds of those before a place
pub all_gates : (P : PlantedGate → Type 0) (seed n count : ℕ) → ((i : ℕ) → i < count → P (planted_gate seed n i)) →
    All P (planted_gates seed n count)
all_gates P seed n count each =
    All-map P (planted_gate seed n) (range_with_len 0 count)
    (all_range (λ i. P (planted_gate seed n i)) 0 count (λ i below. let same : i ≡ 0 + i = omega arith in
    subst (λ k. P (planted_gate seed n k)) same (each i below)))

pub drawn_states : (seed place : ℕ) → next_state (next_state (next_state (state_after seed (3 * place))))
    ≡ state_after seed (3 * (place + 1))
drawn_states seed place =
    let more : suc (suc (suc (3 * place))) ≡ 3 * (place + 1) = omega arith in
    ap (state_after seed) more

pub gates_more : (seed n place : ℕ) → planted_gates seed n (place + 1)
    ≡ planted_gates seed n place ++ planted_gate seed n place ∷ []
gates_more seed n place = map-range_with_len_more (planted_gate seed n) 0 place place
    (let none : 0 + place ≡ place = omega arith in none)

clauses_single : (g : PlantedGate) → flat_map gate_clauses (g ∷ []) ≡ gate_clauses g
clauses_single g = append-nil (gate_clauses g)

-- the formula with a gate more
pub formula_more : (variables n : ℕ) (gates : List PlantedGate) (g : PlantedGate)
    → formula_of_gates variables n (gates ++ g ∷ []) ≡ record {
      variables = variables;
      universals = range_with_len 1 n;
      existentials = map (gate_existential (range_with_len 1 n)) gates ++ gate_existential (range_with_len 1 n) g ∷ [];
      matrix = flat_map gate_clauses gates ++ gate_clauses g;
    }
formula_more variables n gates g =
    ap (λ es. record {
      variables = variables;
      universals = range_with_len 1 n;
      existentials = es;
      matrix =
          flat_map gate_clauses (gates ++ g ∷ []);
    })
    (map-append (gate_existential (range_with_len 1 n)) gates (g ∷ []))
    ∙ ap (λ cs. record {
      variables = variables;
      universals = range_with_len 1 n;
      existentials =
          map (gate_existential (range_with_len 1 n)) gates ++ gate_existential (range_with_len 1 n) g ∷ [];
      matrix = cs;
    })
    (flat_map-append gate_clauses gates (g ∷ []) ∙ ap (λ cs. flat_map gate_clauses gates ++ cs) (clauses_single g))

-- ---- numbers

pub other_range : (n a b : ℕ) → 0 < n → 1 ≤ b → b ≤ n → (1 ≤ other_than n a b) × (other_than n a b ≤ n)
other_range n a b some one most = go (b == a)
  where
    go : (same : Bool) → (1 ≤ cond same (a % n + 1) b) × (cond same (a % n + 1) b ≤ n)
    go true = let small = mod-lt a some in (omega arith, omega (arith, small))
    go false = (one, most)

-- a gate's two sides are universals
pub sides_range : (seed n place : ℕ) → 0 < n → let g = planted_gate seed n place in
    ((1 ≤ g.left) × (g.left ≤ n)) × ((1 ≤ g.right) × (g.right ≤ n))
sides_range seed n place some =
    let state = state_after seed (3 * place) in
    let first = mod-lt (next_state state / 65536) some in
    let second = mod-lt (next_state (next_state state) / 65536) some in (
      (omega arith, omega (arith, first)),
      other_range n (1 + drawn (next_state state) n)
          (1 + drawn (next_state (next_state state)) n) some (omega arith) (omega (arith, second)),
    )

-- ---- what is declared

small : (n bound : ℕ) → n < bound → All (λ x. x < bound) (range_with_len 1 n)
small n bound less = all_range (λ x. x < bound) 1 n (λ i below. omega (arith, below, less))

outputs_small : (seed n place : ℕ) → All (λ v. v < n + 1 + place)
    (map (λ (y : Existential). y.variable) (map (gate_existential (range_with_len 1 n)) (planted_gates seed n place)))
outputs_small seed n place =
    All-map (λ v. v < n + 1 + place) (λ (y : Existential). y.variable)
    (map (gate_existential (range_with_len 1 n)) (planted_gates seed n place))
    (All-map (λ (y : Existential). y.variable < n + 1 + place) (gate_existential (range_with_len 1 n))
    (planted_gates seed n place)
    (all_gates (λ g. g.output < n + 1 + place) seed n place (λ i below. omega (arith, below))))

pub same_number : (x y : ℕ) → x ≡ y → (x == y) ≡ true
same_number x y is = go (x == y) refl
  where
    go : (b : Bool) → (x == y) ≡ b → b ≡ true
    go true by = refl
    go false by = absurd (eqb-false x y by is)

differ : (y : ℕ) (xs : List ℕ) → All (λ x. x < y) xs → All (λ x. (x == y) ≡ false) xs
differ y xs less k d below = below-differs (get_or xs k d) y (less k d below)

pub undeclared : (variables seed n place y : ℕ) → y ≡ n + 1 + place →
    is_declared (formula_of_gates variables n (planted_gates seed n place)) y ≡ false
undeclared variables seed n place y is =
    let f = formula_of_gates variables n (planted_gates seed n place) in
    subst (λ v. is_declared f v ≡ false) (sym is)
    (list_any_none (λ x. x == n + 1 + place) (declared f)
    (differ (n + 1 + place) (declared f)
    (All-append (λ x. x < n + 1 + place) f.universals (map (λ (y : Existential). y.variable) f.existentials)
    (small n (n + 1 + place) (omega arith)) (outputs_small seed n place))))

pub universal : (variables n : ℕ) (gates : List PlantedGate) (x : ℕ) → 1 ≤ x → x ≤ n →
    is_universal (formula_of_gates variables n gates) x ≡ true
universal variables n gates x one most = tested_inside (range_with_len 1 n) x (contains-range_from_one n x one most)

-- ---- clauses

few_each : (g : PlantedGate) → length (gate_clauses g) ≤ 4
few_each g = go g.is_xor
  where
    go : (b : Bool) → length (cond b (xor_clauses g.output g.left g.right) (and_clauses g.output g.left g.right)) ≤ 4
    go true = omega arith
    go false = omega arith

few_clauses_of : (gates : List PlantedGate) → length (flat_map gate_clauses gates) ≤ 4 * length gates
few_clauses_of [] = omega arith
few_clauses_of (g ∷ gates) =
    let both = length-append (gate_clauses g) (flat_map gate_clauses gates) in
    let one = few_each g in
    let rest = few_clauses_of gates in
    omega (arith, both, one, rest)

pub few_clauses : (seed n place : ℕ) → length (flat_map gate_clauses (planted_gates seed n place)) ≤ 4 * place
few_clauses seed n place =
    let count = length-map-range_with_len (planted_gate seed n) 0 place in
    let few = few_clauses_of (planted_gates seed n place) in
    omega (arith, count, few)

-- ---- steps

pub universals_more : (variables n : ℕ) (old new : Dqbf) → old ≡ formula_of_gates variables n [] →
    new ≡ record old { universals = old.universals ++ (n + 1) ∷ [] }
    → new ≡ formula_of_gates variables (n + 1) []
universals_more variables n old new was is =
    let next : n + 1 ≡ 1 + n = omega arith in
    is ∙ ap {A = Dqbf} {B = Dqbf} (λ f. record f { universals = f.universals ++ (n + 1) ∷ [] }) was
    ∙ ap (λ x. record {
      variables = variables;
      universals = range_with_len 1 n ++ x ∷ [];
      existentials = [];
      matrix =
          [];
    }) next
    ∙ ap (λ us. record { variables = variables; universals = us; existentials = []; matrix = [] })
    (sym (range_more 1 n))

pub next_undeclared : (variables n : ℕ) (f : Dqbf) → f ≡ formula_of_gates variables n [] → is_declared f (n + 1) ≡ false
next_undeclared variables n f is =
    let behind : n + 1 ≡ n + 1 + 0 = omega arith in
    subst (λ g. is_declared g (n + 1) ≡ false) (sym is) (undeclared variables 0 n 0 (n + 1) behind)

module _ (seed size place : ℕ) where
  abbrev n : ℕ
  n = size + 1

  abbrev before : Dqbf
  before = formula_of_gates (size + 1 + size) (size + 1) (planted_gates seed (size + 1) place)

  gate_drawn : (g : PlantedGate) (state : ℕ) → state ≡ state_after seed (3 * place) →
      g ≡ next_gate (size + 1) (size + 2 + place) state → g ≡ planted_gate seed (size + 1) place
  gate_drawn g state at is =
      let output : size + 2 + place ≡ size + 1 + 1 + place = omega arith in
      is ∙ ap (λ o. next_gate (size + 1) o state) output ∙ ap (next_gate (size + 1) (size + 1 + 1 + place)) at

  pub gate_undeclared : (f : Dqbf) (g : PlantedGate) (state : ℕ) → f ≡ before →
      g ≡ next_gate (size + 1) (size + 2 + place) state → is_declared f g.output ≡ false
  gate_undeclared f g state was is =
      let output : size + 2 + place ≡ size + 1 + 1 + place = omega arith in
      subst (λ h. is_declared h g.output ≡ false) (sym was)
      (undeclared (size + 1 + size) seed (size + 1) place g.output (ap (λ (x : PlantedGate). x.output) is ∙ output))

  pub gate_listed : (f : Dqbf) (g : PlantedGate) → f ≡ before → (1 ≤ g.left) × (g.left ≤ size + 1) →
      (1 ≤ g.right) × (g.right ≤ size + 1)
      → All (λ x. is_universal f x ≡ true) (g.left ∷ g.right ∷ [])
  gate_listed f g was left right =
      let gates = planted_gates seed (size + 1) place in
      subst (λ h. All (λ x. is_universal h x ≡ true) (g.left ∷ g.right ∷ [])) (sym was)
      (All-cons (λ x. is_universal before x ≡ true) g.left (g.right ∷ [])
      (universal (size + 1 + size) (size + 1) gates g.left left.0 left.1)
      (All-cons (λ x. is_universal before x ≡ true) g.right []
      (universal (size + 1 + size) (size + 1) gates g.right right.0 right.1)
      (All-nil (λ x. is_universal before x ≡ true))))

  pub gate_added : (f with_existential new : Dqbf) (g : PlantedGate) (state behind : ℕ) → f ≡ before →
      state ≡ state_after seed (3 * place)
      → g ≡ next_gate (size + 1) (size + 2 + place) state → behind ≡ next_state (next_state (next_state state))
      → with_existential ≡ record f { existentials = f.existentials ++ gate_existential f.universals g ∷ [] }
      → new ≡ record with_existential { matrix = with_existential.matrix ++ gate_clauses g }
      → (new ≡ formula_of_gates (size + 1 + size) (size + 1) (planted_gates seed (size + 1) (place + 1))) ×
      (behind ≡ state_after seed (3 * (place + 1)))
  gate_added f mid new g state behind was at draws after declares added =
      let all = planted_gates seed (size + 1) place in
      let is_gate = gate_drawn g state at draws in
      let formula : new ≡ formula_of_gates (size + 1 + size) (size + 1) (all ++ g ∷ []) =
      added ∙ ap {A = Dqbf} {B = Dqbf} (λ h. record h { matrix = h.matrix ++ gate_clauses g })
      (declares ∙ ap {A = Dqbf} {B = Dqbf} (λ h. record h
      { existentials = h.existentials ++ gate_existential h.universals g ∷ [] }) was)
      ∙ sym (formula_more (size + 1 + size) (size + 1) all g) in (
        formula ∙ ap (λ h. formula_of_gates (size + 1 + size) (size + 1) (all ++ h ∷ [])) is_gate
            ∙ ap (formula_of_gates (size + 1 + size) (size + 1)) (sym (gates_more seed (size + 1) place)),
        after ∙ ap (λ s. next_state (next_state (next_state s))) at ∙ drawn_states seed place,
      )

  pub gate_few : (f mid : Dqbf) (y : Existential) → f ≡ before →
      mid ≡ record f { existentials = f.existentials ++ y ∷ [] } → place < 10000 → length mid.matrix + 4 ≤ 10000000
  gate_few f mid y was is less =
      let few = few_clauses seed (size + 1) place in
      let same : mid.matrix ≡ flat_map gate_clauses (planted_gates seed (size + 1) place) =
      ap (λ (h : Dqbf). h.matrix) is ∙ ap (λ (h : Dqbf). h.matrix) was in
      subst (λ m. length m + 4 ≤ 10000000) (sym same) (omega (arith, few, less))
