-- Values of variables by their places in the prefix.
use Rattle.std.proofs.Common.{◌≡◌, ℕ, zero, suc, ◌+◌, ◌≤◌, ◌<◌, ◌==◌, Bool, true, false, not, cond, inl, inr, ◌⊎◌, List, [], ◌∷◌, map, length, get_or, Option, Some, None, position, refl, ◌∙◌, ap, arith, nat_lt}
use Rattle.std.specs.List.{list_any, position_or_len}
use Rattle.std.proofs.Math.Dec.{leb-suc-suc}
use Rattle.std.proofs.lemmas.Bool.{leb-true, le-leb, lt-leb, ltb-false}
use Rattle.dq_lits.specs.Literal.{Assignment, Literal, positive, literal_true}
use Rattle.dq_lits.specs.Formula.{Dqbf, Existential}
use Rattle.dq_lits.specs.Row.{bit_of, assignment_of}
use Rattle.hint_log.specs.declared.origins.Leaf.{Leaf}
use Rattle.hint_log.specs.declared.origins.Leaf.TheVariants.{Constant}
use Rattle.hint_log.specs.Naming.{by_universality, round_assignment}
use Rattle.log_laws.specs.Circuits.{leaf_value}
use Rattle.circuit_cnf.specs.Faults.{leaf_by_place}

-- by the place of a universal, or else by that of an existential
abbrev pub place_value : (ℕ → Bool) → (ℕ → Bool) → Option ℕ → Option ℕ → Bool
place_value row values (Some i) _ = row i
place_value row values None (Some k) = values k
place_value row values None None = false

pub assigned_at : (xs : List ℕ) (bits : List Bool) (v : ℕ) → length bits ≡ length xs →
    assignment_of xs bits v ≡ bit_of bits (position_or_len (λ u. u == v) xs)
assigned_at [] [] v long = refl
assigned_at [] (b ∷ bits) v long = absurd (omega (arith, long))
assigned_at (x ∷ xs) [] v long = absurd (omega (arith, long))
assigned_at (x ∷ xs) (b ∷ bits) v long = search (arith, (assigned_at xs bits v))

pub any_is : (p : ℕ → Bool) (xs : List ℕ) → list_any p xs ≡ nat_lt (position_or_len p xs) (length xs)
any_is p [] = refl
any_is p (x ∷ xs) = search (arith, (any_is p xs), nat_lt, le-leb, leb-suc-suc)

pub bit_past : (bits : List Bool) (i : ℕ) → length bits ≤ i → bit_of bits i ≡ false
bit_past [] i past = refl
bit_past (b ∷ bits) zero past = absurd (omega (arith, past))
bit_past (b ∷ bits) (suc i) past = bit_past bits i (omega (arith, past))

not_below : (a b : ℕ) → nat_lt a b ≡ false → b ≤ a
not_below a b h = let past = ltb-false a b h in omega (arith, past)

by_places : (row values : List Bool) (i k n m : ℕ) → length values ≡ m →
    by_universality (nat_lt i n) (bit_of row i) (bit_of values k)
    ≡ place_value (bit_of row) (bit_of values) (cond (nat_lt i n) (Some i) None) (cond (nat_lt k m) (Some k) None)
by_places row values i k n m long = search (arith, nat_lt, not_below, bit_past)

variables_long : (ys : List Existential) → length (map (λ y. y.variable) ys) ≡ length ys
variables_long [] = refl
variables_long (y ∷ ys) = let e = variables_long ys in omega (arith, e)

pub round_is : (f : Dqbf) (row values : List Bool) (v : ℕ) → length row ≡ length f.universals →
    length values ≡ length f.existentials → round_assignment f row values v
    ≡ place_value (bit_of row) (bit_of values) (position (λ u. u == v) f.universals)
    (position (λ y. y == v) (map (λ y. y.variable) f.existentials))
round_is f row values v row_long values_long = search (arith, variables_long, any_is, nat_lt, assigned_at, by_places)

pub leaf_is : (values : Assignment) (inputs : List Literal) (leaves : List Leaf) (i k : Option ℕ) →
    leaf_value values (leaf_by_place inputs leaves i k)
    ≡ place_value (λ p. literal_true values (get_or inputs p (positive 0)))
    (λ p. leaf_value values (get_or leaves p (Constant false))) i k
leaf_is values inputs leaves (Some i) k = refl
leaf_is values inputs leaves None (Some k) = refl
leaf_is values inputs leaves None None = refl

pub same_at_places : {X Y : Type 0} (p : X → Bool) (q : Y → Bool) (xs : List X) (ys : List Y) (row other : ℕ → Bool)
    (values others : ℕ → Bool) → ((i : ℕ) → i < length xs → row i ≡ other i) →
    ((k : ℕ) → k < length ys → values k ≡ others k) → place_value row values (position p xs) (position q ys)
    ≡ place_value other others (position p xs) (position q ys)
same_at_places p q xs ys row other values others on_row on_values = search (arith, nat_lt, leb-true)

-- what is found passes
passes : {X : Type 0} (p : X → Bool) (xs : List X) (d : X) → position_or_len p xs < length xs →
    p (get_or xs (position_or_len p xs) d) ≡ true
passes p [] d below = absurd (omega (arith, below))
passes p (x ∷ xs) d below = by (p x) refl below (passes p xs d) where
  by : (c : Bool) → p x ≡ c → cond (not c) (1 + position_or_len p xs) 0 < suc (length xs) →
      (position_or_len p xs < length xs → p (get_or xs (position_or_len p xs) d) ≡ true) →
      p (get_or (x ∷ xs) (cond (not c) (1 + position_or_len p xs) 0) d) ≡ true
  by true e small later = e
  by false e small later =
      let one : 1 + position_or_len p xs ≡ suc (position_or_len p xs) = omega arith in
      ap (λ n. p (get_or (x ∷ xs) n d)) one ∙ later (omega (arith, small))

-- where a test passes first, or that it never does
pub found_at : {X : Type 0} (p : X → Bool) (xs : List X) (i : ℕ) → position_or_len p xs ≡ i → i < length xs →
    position p xs ≡ Some i
found_at p xs i is below = search (arith, nat_lt, le-leb)

pub nowhere : {X : Type 0} (p : X → Bool) (xs : List X) → position_or_len p xs ≡ length xs → position p xs ≡ None
nowhere p xs is = ap (λ n. cond (nat_lt n (length xs)) (Some n) None) is ∙ ap (λ b. cond b (Some (length xs)) None)
    (lt-leb (suc (length xs)) (length xs) (omega arith))

-- by cases: at a place where it passes, or not among them
pub position_cases : (p : ℕ → Bool) (xs : List ℕ) → ((i : ℕ) × (i < length xs) × (p (get_or xs i 0) ≡ true) ×
    (position p xs ≡ Some i)) ⊎ ((list_any p xs ≡ false) × (position p xs ≡ None))
position_cases p xs = by (nat_lt (position_or_len p xs) (length xs)) refl where
  by : (b : Bool) → nat_lt (position_or_len p xs) (length xs) ≡ b →
      ((i : ℕ) × (i < length xs) × (p (get_or xs i 0) ≡ true) × (position p xs ≡ Some i)) ⊎
      ((list_any p xs ≡ false) × (position p xs ≡ None))
  by true e = let below = leb-true (suc (position_or_len p xs)) (length xs) e in
      inl (position_or_len p xs, below, passes p xs 0 below, ap (λ b. cond b (Some (position_or_len p xs)) None) e)
  by false e = inr (any_is p xs ∙ e, ap (λ b. cond b (Some (position_or_len p xs)) None) e)

pub some_place : {X : Type 0} (p : X → Bool) (xs : List X) (k : ℕ) → position p xs ≡ Some k → k < length xs
some_place p xs k is = search (arith, nat_lt, leb-true)
