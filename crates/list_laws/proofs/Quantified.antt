-- Lemmas on what holds of all elements.
use Rattle.std.proofs.Common.{◌≡◌, ◌≢◌, ℕ, inl, inr, List, slice_get, Some, sym, ◌∙◌, arith, ◌++◌, ◌+◌, length, length-append, [], ◌∷◌}
use Rattle.std.specs.List.{AllPairs, AllByRecursion}
use Rattle.std.proofs.lemmas.Bool.{cases_lt}
use Rattle.std.proofs.lemmas.Option.{slice_get_within, get_or_from_slice_get}
use Rattle.std.proofs.lemmas.List.{get_or-append-add}
use Rattle.std.proofs.Math.ListN.{get_or-append}

pub one_place : (us : List ℕ) (i k v : ℕ) → AllPairs (λ a b. a ≢ b) us → slice_get us i ≡ Some v →
    slice_get us k ≡ Some v → i ≡ k
one_place us i k v distinct at_i at_k = elim (cases_lt i k) [
  | inl less ↦ absurd (distinct i k v less (slice_get_within us k v at_k)
      (get_or_from_slice_get us i v v at_i ∙ sym (get_or_from_slice_get us k v v at_k)))
  | inr more ↦ elim (cases_lt k i) [
    | inl less ↦ absurd (distinct k i v less (slice_get_within us i v at_i)
        (get_or_from_slice_get us k v v at_k ∙ sym (get_or_from_slice_get us i v v at_i)))
    | inr most ↦ (omega (arith, more, most))
  ]
]

pub left-distinct : (us vs : List ℕ) → AllPairs (λ v w. v ≢ w) (us ++ vs) → AllPairs (λ v w. v ≢ w) us
left-distinct us vs once i j d order inside e =
    let more = length-append us vs in
    once i j d order (omega (arith, inside, more)) (get_or-append us vs d i (omega (arith, order, inside)) ∙ e ∙ sym
    (get_or-append us vs d j inside))

pub right-distinct : (xs ys : List ℕ) → AllPairs (λ a b. a ≢ b) (xs ++ ys) → AllPairs (λ a b. a ≢ b) ys
right-distinct xs ys once i j d less below e =
    let long = length-append xs ys in
    once (length xs + i) (length xs + j) d (omega (arith, less)) (omega (arith, below, long))
    (get_or-append-add xs ys i d ∙ e ∙ sym (get_or-append-add xs ys j d))

-- all of a list, by recursion
pub rec_append : {X : Type 0} (P : X → Type 0) (xs ys : List X) → AllByRecursion P xs → AllByRecursion P ys →
    AllByRecursion P (xs ++ ys)
rec_append P [] ys one other = other
rec_append P (x ∷ xs) ys one other = (one.0, rec_append P xs ys one.1 other)
