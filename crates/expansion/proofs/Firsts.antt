-- The first row that agrees with another on what an existential sees.
use Rattle.std.proofs.Common.{◌≡◌, ℕ, suc, not, ◌+◌, ◌<◌, ◌≤◌, Bool, true, false, cond, List, [], ◌∷◌, ◌++◌, map, length, get_or, slice_get, Some, refl, sym, ap, arith}
use Rattle.std.specs.List.{position_or_len, filter_map}
use Rattle.std.specs.Option.{option_map}
use Rattle.std.proofs.lemmas.List.Folds.{position_or_len_push}
use Rattle.std.proofs.lemmas.List.Sums.{position_or_len_is}
use Rattle.std.proofs.lemmas.Bool.{eq-eqb}
use Rattle.std.proofs.lemmas.Option.{slice_get_within, get_or_from_slice_get}
use Rattle.dq_lits.specs.Literal.{Literal, variable_of, is_negative}
use Rattle.dq_lits.specs.Formula.{Dqbf, Existential, existential_of}
use Rattle.dq_lits.specs.Henkin.{restriction, same_bits}
use Rattle.dq_lits.specs.Expansion.{row_assignment, agree_on}
use Rattle.dq_lits.proofs.Choices.{same_bits-sound, same_bits-refl}
use Rattle.hint_log.specs.Naming.{named_literal, arbiter}
use Rattle.hint_log.specs.declared.names.Name.{Name}
use Rattle.hint_log.specs.declared.names.Name.TheVariants.{Pair}
use Rattle.log_laws.proofs.Found.{position_small, position_append}

-- a row agrees with itself, so that rows behind it don't matter
pub same_arbiter : (f : Dqbf) (rows more : List (List Bool)) (k : ℕ) (row : List Bool) (y : Existential) →
    slice_get rows k ≡ Some row → arbiter f rows row y ≡ arbiter f (rows ++ more) row y
same_arbiter f rows more k row y is =
    search (
      arith,
      (get_or_from_slice_get rows k row [] is),
      same_bits-refl,
      position_small,
      (slice_get_within rows k row is),
      position_append,
    )

-- where the first row that agrees is an old one, it has the same arbiter
pub arbiter_of_first : (f : Dqbf) (rows more : List (List Bool)) (row first : List Bool) (y : Existential) →
    agree_on f y row first ≡ true
    → arbiter f (rows ++ more) first y ≡ arbiter f (rows ++ more) row y
arbiter_of_first f rows more row first y agrees =
    ap (λ bits. Pair (position_or_len (λ r. same_bits bits (restriction y (row_assignment f r))) (rows ++ more) + 1)
    y.variable)
    (sym (same_bits-sound (restriction y (row_assignment f row)) (restriction y (row_assignment f first)) agrees))

-- where none agrees, the new row is the first itself
pub arbiter_of_new : (f : Dqbf) (rows : List (List Bool)) (row : List Bool) (y : Existential) (first : ℕ) →
    first ≡ position_or_len (agree_on f y row) rows → length rows ≤ first
    → first ≤ length rows → arbiter f (rows ++ row ∷ []) row y ≡ Pair (length rows + 1) y.variable
arbiter_of_new f rows row y first first_is past within = search (arith, same_bits-refl, position_or_len_push, eq-eqb)

first_or_later : (p : List Bool → Bool) (r : List Bool) (rs : List (List Bool)) (n : ℕ) (b : Bool) → p r ≡ b →
    (n < length rs → p (get_or rs n []) ≡ true)
    → cond (not b) (1 + n) 0 < suc (length rs) → p (get_or (r ∷ rs) (cond (not b) (1 + n) 0) []) ≡ true
first_or_later p r rs n true here later h = here
first_or_later p r rs n false here later h = search arith

-- the first row that passes a test passes it
pub passes_there : (p : List Bool → Bool) (rs : List (List Bool)) → position_or_len p rs < length rs →
    p (get_or rs (position_or_len p rs) []) ≡ true
passes_there p [] lt = absurd (omega (arith, lt))
passes_there p (r ∷ rs) lt = first_or_later p r rs (position_or_len p rs) (p r) refl (passes_there p rs) lt

-- lists of names go by the names alone
pub names_same : (g h : Existential → Name) → ((y : Existential) → g y ≡ h y) → (ys : List Existential) →
    map (λ y. Some (g y)) ys ≡ map (λ y. Some (h y)) ys
names_same g h same [] = refl
names_same g h same (y ∷ ys) = search (arith, (names_same g h same ys))

pub instance_same : (f : Dqbf) (g h : Existential → Name) → ((y : Existential) → g y ≡ h y) → (clause : List Literal) →
    filter_map (λ l. option_map (λ y. named_literal (g y) (is_negative l)) (existential_of f (variable_of l))) clause
    ≡ filter_map (λ l. option_map (λ y. named_literal (h y) (is_negative l)) (existential_of f (variable_of l))) clause
instance_same f g h same [] = refl
instance_same f g h same (l ∷ clause) = search (arith, (instance_same f g h same clause))

pub first_is : (p : List Bool → Bool) (rows : List (List Bool)) (i : ℕ) → i < length rows →
    ((k : ℕ) → k < i → p (get_or rows k []) ≡ false) → p (get_or rows i []) ≡ true
    → i ≡ position_or_len p rows
first_is p rows i lt before here = sym (position_or_len_is p rows i [] (omega (arith, lt)) before (λ _. here))

pub none_is : (p : List Bool → Bool) (rows : List (List Bool)) (i : ℕ) → length rows ≤ i →
    ((k : ℕ) → k < i → p (get_or rows k []) ≡ false) → length rows ≡ position_or_len p rows
none_is p rows i past before = search (arith, (position_or_len_is p rows (length rows) []))
