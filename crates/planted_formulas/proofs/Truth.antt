-- The planted functions are Skolem functions, and the matrix speaks of what is declared.
use Rattle.std.proofs.Common.{◌≡◌, ◌∙◌, ◌+◌, ◌-◌, ◌<◌, ◌≤◌, ◌==◌, ◌&&◌, ◌||◌, ℕ, Bool, cond, true, false, not, refl, sym, ap, subst, arith, List, [], ◌∷◌, map}
use Rattle.std.specs.List.{All, Contains, list_any, range_with_len}
use Rattle.std.proofs.lemmas.List.Elements.{All-map, All-contains, Contains-append_left, Contains-append_right}
use Rattle.list_laws.proofs.Members.{contains_map, filter_keeps, place_within, contains-range_from_one}
use Rattle.list_laws.proofs.Truths.{and_first, and_second, and_third}
use Rattle.dq_lits.specs.Literal.{Assignment, Literal, clause_true, positive, negative, variable_of}
use Rattle.dq_lits.specs.Formula.{Existential, Dqbf, HasLawfulPrefix, IsWellFormed, declared}
use Rattle.dq_lits.specs.Skolem.{OutputFunction, IsSupported, AreSkolemFunctions}
use Rattle.dq_formula.specs.Dependencies.{listed_universals}
use Rattle.planted_formulas.specs.Planted.{planted_gate, planted_gates, gate_clauses, and_clauses, xor_clauses, gate_existential, planted_formula}
use Rattle.planted_formulas.specs.declared.gates.PlantedGate.{PlantedGate}
use Rattle.planted_formulas.proofs.Lists.{all_flat_map, all_two, all_three, all_four}
use Rattle.planted_formulas.proofs.AddedGates.{all_gates, sides_range, same_number}

abbrev xor : Bool → Bool → Bool
xor a b = cond a (not b) b

abbrev gate_value : PlantedGate → Assignment → Bool
gate_value g m = cond g.is_xor (xor (m g.left) (m g.right)) (m g.left && m g.right)

abbrev gate_function : PlantedGate → OutputFunction
gate_function g = record { value = gate_value g; support = g.left ∷ g.right ∷ [] }

-- the function of the gate whose variable it is
abbrev pub planted_function : ℕ → ℕ → Existential → OutputFunction
planted_function seed n y = gate_function (planted_gate seed n (y.variable - (n + 1)))

gate_supported : (g : PlantedGate) → IsSupported (gate_function g)
gate_supported g m n same =
    let left : m g.left ≡ n g.left = same 0 0 (omega arith) in
    let right : m g.right ≡ n g.right = same 1 0 (omega arith) in
    ap (λ a. cond g.is_xor (xor a (m g.right)) (a && m g.right)) left ∙ ap
    (λ b. cond g.is_xor (xor (n g.left) b) (n g.left && b)) right

gate_reads : (n : ℕ) (g : PlantedGate) → (1 ≤ g.left) × (g.left ≤ n) → (1 ≤ g.right) × (g.right ≤ n)
    → All (Contains (listed_universals (range_with_len 1 n) (g.left ∷ g.right ∷ []))) (g.left ∷ g.right ∷ [])
gate_reads n g left right =
    let sees = listed_universals (range_with_len 1 n) (g.left ∷ g.right ∷ []) in
    let is_listed : ℕ → Bool = λ u. list_any (λ x. x == u) (g.left ∷ g.right ∷ []) in
    let first = filter_keeps is_listed (range_with_len 1 n) g.left (first_listed g.left g.right)
    (contains-range_from_one n g.left left.0 left.1) in
    let second = filter_keeps is_listed (range_with_len 1 n) g.right (second_listed g.left g.right)
    (contains-range_from_one n g.right right.0 right.1) in
    all_two (Contains sees) g.left g.right first second
  where
    first_listed : (a b : ℕ) → list_any (λ x. x == a) (a ∷ b ∷ []) ≡ true
    first_listed a b = ap (λ t. t || list_any (λ x. x == a) (b ∷ [])) (same_number a a refl)

    or_true : (t : Bool) → (t || true) ≡ true
    or_true true = refl
    or_true false = refl

    second_listed : (a b : ℕ) → list_any (λ x. x == b) (a ∷ b ∷ []) ≡ true
    second_listed a b = ap (λ t. (a == b) || (t || false)) (same_number b b refl) ∙ or_true (a == b)

-- ---- a gate's clauses are true where its variable has its value

xor_first : (y a b : Bool) → y ≡ xor a b → (not y || (a || (b || false))) ≡ true
xor_first false a b is = refl
xor_first true true b is = refl
xor_first true false true is = refl
xor_first true false false is = cc

xor_second : (y a b : Bool) → y ≡ xor a b → (not y || (not a || (not b || false))) ≡ true
xor_second false a b is = refl
xor_second true false b is = refl
xor_second true true false is = refl
xor_second true true true is = cc

xor_third : (y a b : Bool) → y ≡ xor a b → (y || (not a || (b || false))) ≡ true
xor_third true a b is = refl
xor_third false false b is = refl
xor_third false true true is = refl
xor_third false true false is = cc

xor_fourth : (y a b : Bool) → y ≡ xor a b → (y || (a || (not b || false))) ≡ true
xor_fourth true a b is = refl
xor_fourth false true b is = refl
xor_fourth false false false is = refl
xor_fourth false false true is = cc

module _ (m : Assignment) (y a b : ℕ) where
  abbrev Holds : List Literal → Type 0
  Holds c = clause_true m c ≡ true

  and_hold : m y ≡ (m a && m b) → All Holds (and_clauses y a b)
  and_hold is =
      all_three Holds (negative y ∷ positive a ∷ []) (negative y ∷ positive b ∷ [])
      (positive y ∷ negative a ∷ negative b ∷ [])
      (and_first (m y) (m a) (m b) is) (and_second (m y) (m a) (m b) is) (and_third (m y) (m a) (m b) is)

  xor_hold : m y ≡ xor (m a) (m b) → All Holds (xor_clauses y a b)
  xor_hold is =
      all_four Holds (negative y ∷ positive a ∷ positive b ∷ []) (negative y ∷ negative a ∷ negative b ∷ [])
      (positive y ∷ negative a ∷ positive b ∷ []) (positive y ∷ positive a ∷ negative b ∷ [])
      (xor_first (m y) (m a) (m b) is) (xor_second (m y) (m a) (m b) is) (xor_third (m y) (m a) (m b) is)
      (xor_fourth (m y) (m a) (m b) is)

  by_kind : (is_xor : Bool) → m y ≡ cond is_xor (xor (m a) (m b)) (m a && m b) →
      All Holds (cond is_xor (xor_clauses y a b) (and_clauses y a b))
  by_kind true is = xor_hold is
  by_kind false is = and_hold is

clauses_hold : (m : Assignment) (g : PlantedGate) → m g.output ≡ gate_value g m →
    All (λ c. clause_true m c ≡ true) (gate_clauses g)
clauses_hold m g is = by_kind m g.output g.left g.right g.is_xor is

-- ---- the formula

abbrev existentials : ℕ → ℕ → ℕ → List Existential
existentials seed n count = map (gate_existential (range_with_len 1 n)) (planted_gates seed n count)

own_gate : (seed n i : ℕ) → planted_gate seed n ((n + 1 + i) - (n + 1)) ≡ planted_gate seed n i
own_gate seed n i = let same : (n + 1 + i) - (n + 1) ≡ i = omega arith in ap (planted_gate seed n) same

all_existentials : (P : Existential → Type 0) (seed n count : ℕ) →
    ((i : ℕ) → i < count → P (gate_existential (range_with_len 1 n) (planted_gate seed n i)))
    → All P (existentials seed n count)
all_existentials P seed n count each =
    All-map P (gate_existential (range_with_len 1 n)) (planted_gates seed n count)
    (all_gates (λ g. P (gate_existential (range_with_len 1 n) g)) seed n count each)

-- the value of the existential of a gate
value_at : (seed n count i : ℕ) (m : Assignment) → i < count →
    All (λ y. m y.variable ≡ (planted_function seed n y).value m) (existentials seed n count)
    → m (n + 1 + i) ≡ gate_value (planted_gate seed n i) m
value_at seed n count i m below follows =
    let found = contains_map (gate_existential (range_with_len 1 n)) (planted_gates seed n count)
    (planted_gate seed n i)
    (contains_map (planted_gate seed n) (range_with_len 0 count) i
    (let same : 0 + i ≡ i = omega arith in subst (Contains (range_with_len 0 count)) same
    (place_within 0 count i below))) in
    contained (λ y. m y.variable ≡ (planted_function seed n y).value m) (existentials seed n count)
    (gate_existential (range_with_len 1 n) (planted_gate seed n i)) follows found
    ∙ ap (λ g. gate_value g m) (own_gate seed n i)
  where
    contained : (P : Existential → Type 0) (ys : List Existential) (y : Existential) → All P ys → Contains ys y → P y
    contained P ys y all found = All-contains P ys y all found

pub planted_are_skolem : (seed size : ℕ) → AreSkolemFunctions (planted_formula seed size)
    (planted_function seed (size + 1))
planted_are_skolem seed size =
    let n = size + 1 in
    record {
      supported = all_existentials (λ y. IsSupported (planted_function seed (size + 1) y)) seed (size + 1) size
          (λ i below. gate_supported (planted_gate seed (size + 1) ((size + 1 + 1 + i) - (size + 1 + 1))));
      reads_declared = all_existentials (λ y. All (Contains y.sees) (planted_function seed (size + 1) y).support) seed
          (size + 1) size
          (λ i below.
          let (left, right) = sides_range seed (size + 1) i (omega arith) in
          subst (λ g. All (Contains (gate_existential (range_with_len 1 (size + 1))
          (planted_gate seed (size + 1) i)).sees) (gate_function g).support)
          (sym (own_gate seed (size + 1) i)) (gate_reads (size + 1) (planted_gate seed (size + 1) i) left right));
      holds = λ m follows.
          all_flat_map (λ c. clause_true m c ≡ true) gate_clauses (planted_gates seed (size + 1) size)
          (all_gates (λ g. All (λ c. clause_true m c ≡ true) (gate_clauses g)) seed (size + 1) size
          (λ i below. clauses_hold m (planted_gate seed (size + 1) i)
          (value_at seed (size + 1) size i m below follows)));
    }

-- ---- what the matrix speaks of

module _ (all : List ℕ) (y a b : ℕ) (y_in : Contains all y) (a_in : Contains all a) (b_in : Contains all b) where
  abbrev IsBound : Literal → Type 0
  IsBound l = Contains all (variable_of l)

  clauses_bound : (is_xor : Bool) → All (All IsBound) (cond is_xor (xor_clauses y a b) (and_clauses y a b))
  clauses_bound true =
      all_four (All IsBound) (negative y ∷ positive a ∷ positive b ∷ []) (negative y ∷ negative a ∷ negative b ∷ [])
      (positive y ∷ negative a ∷ positive b ∷ []) (positive y ∷ positive a ∷ negative b ∷ [])
      (all_three IsBound (negative y) (positive a) (positive b) y_in a_in b_in)
      (all_three IsBound (negative y) (negative a) (negative b) y_in a_in b_in)
      (all_three IsBound (positive y) (negative a) (positive b) y_in a_in b_in)
      (all_three IsBound (positive y) (positive a) (negative b) y_in a_in b_in)
  clauses_bound false =
      all_three (All IsBound) (negative y ∷ positive a ∷ []) (negative y ∷ positive b ∷ [])
      (positive y ∷ negative a ∷ negative b ∷ [])
      (all_two IsBound (negative y) (positive a) y_in a_in) (all_two IsBound (negative y) (positive b) y_in b_in)
      (all_three IsBound (positive y) (negative a) (negative b) y_in a_in b_in)

pub planted_bound : (seed size : ℕ) → let f = planted_formula seed size in
    All (All (λ l. Contains (declared f) (variable_of l))) f.matrix
planted_bound seed size =
    let f = planted_formula seed size in
    let n = size + 1 in
    all_flat_map (All (λ l. Contains (declared f) (variable_of l))) gate_clauses (planted_gates seed (size + 1) size)
    (all_gates (λ g. All (All (λ l. Contains (declared f) (variable_of l))) (gate_clauses g)) seed (size + 1) size
    (λ i below.
    let g = planted_gate seed (size + 1) i in
    let (left, right) = sides_range seed (size + 1) i (omega arith) in
    let side : (x : ℕ) → 1 ≤ x → x ≤ size + 1 → Contains (declared f) x = λ x one most.
    Contains-append_left f.universals (map (λ (y : Existential). y.variable) f.existentials) x
    (contains-range_from_one (size + 1) x one most) in
    let output : Contains (declared f) g.output =
    Contains-append_right f.universals (map (λ (y : Existential). y.variable) f.existentials) g.output
    (contains_map (λ (y : Existential). y.variable) f.existentials (gate_existential (range_with_len 1 (size + 1)) g)
    (contains_map (gate_existential (range_with_len 1 (size + 1))) (planted_gates seed (size + 1) size) g
    (contains_map (planted_gate seed (size + 1)) (range_with_len 0 size) i
    (let same : 0 + i ≡ i = omega arith in subst (Contains (range_with_len 0 size)) same
    (place_within 0 size i below))))) in
    clauses_bound (declared f) g.output g.left g.right output (side g.left left.0 left.1)
    (side g.right right.0 right.1) g.is_xor))

pub planted_well_formed : (seed size : ℕ) (f : Dqbf) → f ≡ planted_formula seed size → HasLawfulPrefix f →
    IsWellFormed f
planted_well_formed seed size f is prefix = record {
  prefix = prefix;
  bound = subst (λ g. All (All (λ l. Contains (declared g) (variable_of l))) g.matrix) (sym is)
      (planted_bound seed size);
}
