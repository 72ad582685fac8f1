-- Existentials that stand for others with the same dependency set.
use Rattle.std.proofs.Common.{◌≡◌, ◌==◌, ℕ, zero, suc, Bool, true, false, set, replicate, [], ◌<◌, ◌⊎◌, inl, inr, List, map, length, get_or, slice_get, Some, IsSome, refl, sym, ◌∙◌, ap, subst, arith}
use Rattle.std.specs.List.{All, position_or_len}
use Rattle.std.proofs.lemmas.Bool.{cases_Bool, eqb-true, eqb-false}
use Rattle.std.proofs.lemmas.List.{length-map, length-set, length-replicate, get_or-map, get_or-set_same, get_or-set_other}
use Rattle.std.proofs.lemmas.Option.{slice_get-get_or, slice_get_within, get_or_from_slice_get}
use Rattle.dq_lits.specs.Formula.{Dqbf, Existential, existential_of}
use Rattle.dq_lits.specs.Henkin.{same_bits}
use Rattle.log_laws.proofs.Found.{variable}
use Rattle.expansion.specs.FirstRows.{RowOrder, RowIndex, sees_of, seen_by, no_order, IsRowOrder, IsRowIndex, IsFirstRow}
use Rattle.dq_formula.specs.Sets.{IsLeader, AreLeaders}
use Rattle.expansion.proofs.NamedArbiters.{nobody}

-- an existential is found by its variable
pub found_by_variable : (f : Dqbf) (ys : List ℕ) (p : ℕ) → All
    (λ y. existential_of f y.variable ≡ Some y) f.existentials → ys ≡ map variable f.existentials →
    p < length f.existentials
    → existential_of f (get_or ys p 0) ≡ Some (get_or f.existentials p nobody)
found_by_variable f ys p named same below = search (arith, get_or-map)

pub some_by_variable : (f : Dqbf) (ys : List ℕ) (p : ℕ) → All (λ y. existential_of f y.variable ≡ Some y) f.existentials
    → ys ≡ map variable f.existentials → p < length f.existentials
    → IsSome (existential_of f (get_or ys p 0))
some_by_variable f ys p named same below = subst IsSome (sym (found_by_variable f ys p named same below)) refl

-- what was found for the one that stands for it
pub leader_first : (f : Dqbf) (rows : List (List Bool)) (row : List Bool) (leader place first : ℕ) →
    IsLeader f leader place → IsFirstRow f rows row leader first → IsFirstRow f rows row place first
leader_first f rows row leader place first leads is y y_is =
    let z = leads.same_set y y_is in
    is z.0 z.1 ∙ ap (λ sees. position_or_len (λ r. same_bits (seen_by f sees row) (seen_by f sees r)) rows) z.2

-- what an existential sees, by its variable
pub sees_by_variable : (f : Dqbf) (ys : List ℕ) (p : ℕ) (y : Existential) →
    All (λ z. existential_of f z.variable ≡ Some z) f.existentials → ys ≡ map variable f.existentials →
    slice_get f.existentials p ≡ Some y
    → sees_of (existential_of f (get_or ys p 0)) ≡ y.sees
sees_by_variable f ys p y named same y_is = search (arith, found_by_variable, slice_get_within, get_or_from_slice_get)

module _ (f : Dqbf) (rows : List (List Bool)) (index : RowIndex) (is_index : IsRowIndex f rows index) (place : ℕ)
    (below : place < length f.existentials) where
  -- the order that stands for an existential
  pub order_at : (ys : List ℕ) (o : RowOrder) → All (λ z. existential_of f z.variable ≡ Some z) f.existentials →
      ys ≡ map variable f.existentials → o ≡ get_or index.orders place no_order
      → IsRowOrder f (sees_of (existential_of f (get_or ys place 0))) rows o
  order_at ys o named same o_is =
      let y = get_or f.existentials place nobody in
      let y_is : slice_get f.existentials place ≡ Some y = slice_get-get_or f.existentials place nobody below in
      subst (λ sees. IsRowOrder f sees rows o) (sym (sees_by_variable f ys place y named same y_is))
      (subst (IsRowOrder f y.sees rows) (sym o_is) (is_index.orders place y y_is))

  -- another one in its place
  pub order_set : (ys : List ℕ) (o : RowOrder) (orders : List RowOrder) →
      All (λ z. existential_of f z.variable ≡ Some z) f.existentials → ys ≡ map variable f.existentials
      → IsRowOrder f (sees_of (existential_of f (get_or ys place 0))) rows o → orders ≡ set index.orders place o →
      IsRowIndex f rows (record { leaders = index.leaders; orders = orders })
  order_set ys o orders named same is_order is = subst (λ os. IsRowIndex f rows
      (record { leaders = index.leaders; orders = os })) (sym is) (record {
        leaders = is_index.leaders;
        many = length-set index.orders place o ∙ is_index.many;
        orders = λ p y y_is. by_place p y y_is (cases_Bool (p == place));
      })
    where
      by_place : (p : ℕ) (y : Existential) → slice_get f.existentials p ≡ Some y →
          ((p == place) ≡ true) ⊎ ((p == place) ≡ false) → IsRowOrder f y.sees rows
          (get_or (set index.orders place o) p no_order)
      by_place p y y_is (inl here) =
          let p_is : p ≡ place = eqb-true p place here in
          let inside : place < length index.orders = let many = is_index.many in omega (arith, below, many) in
          subst (IsRowOrder f y.sees rows) (sym (ap (λ q. get_or (set index.orders place o) q no_order) p_is
          ∙ get_or-set_same index.orders place o no_order inside))
          (subst (λ sees. IsRowOrder f sees rows o) (sees_by_variable f ys place y named same
          (ap (slice_get f.existentials) (sym p_is) ∙ y_is)) is_order)
      by_place p y y_is (inr other) =
          subst (IsRowOrder f y.sees rows) (sym (get_or-set_other index.orders place p o no_order
          (eqb-false p place other))) (is_index.orders p y y_is)

pub first_by_variable : (f : Dqbf) (rows : List (List Bool)) (row : List Bool) (ys : List ℕ) (place k : ℕ) →
    All (λ z. existential_of f z.variable ≡ Some z) f.existentials → ys ≡ map variable f.existentials
    → k ≡ position_or_len (λ r. same_bits (seen_by f (sees_of (existential_of f (get_or ys place 0))) row)
    (seen_by f (sees_of (existential_of f (get_or ys place 0))) r)) rows → IsFirstRow f rows row place k
first_by_variable f rows row ys place k named same is y y_is = search (arith, sees_by_variable)

-- where no row was looked at
no_order_yet : (f : Dqbf) (sees : List ℕ) → IsRowOrder f sees [] no_order
no_order_yet f sees = search arith

all_empty : (n p : ℕ) → get_or (replicate n no_order) p no_order ≡ no_order
all_empty zero p = refl
all_empty (suc n) zero = refl
all_empty (suc n) (suc p) = all_empty n p

pub empty_index : (f : Dqbf) (leaders : List ℕ) (orders : List RowOrder) (ys : List ℕ) → AreLeaders f leaders →
    ys ≡ map variable f.existentials → orders ≡ replicate (length ys) no_order
    → IsRowIndex f [] (record { leaders = leaders; orders = orders })
empty_index f leaders orders ys lead same is = search (arith, length-replicate, length-map, all_empty, no_order_yet)
