-- The place of a number among others.
use Rattle.std.proofs.Common.{◌≡◌, ℕ, ◌+◌, ◌<◌, ◌≤◌, ◌==◌, ltb, cond, Bool, true, false, List, [], ◌∷◌, ◌++◌, length, None, Some, inl, inr, sym, ap, ◌∙◌, refl, arith, eq-eqb, is_some, if◌then◌else◌, not}
use Rattle.std.specs.Prelude.{Contains}
use Rattle.std.specs.List.{list_any, position, position_or_len}
use Rattle.std.proofs.lemmas.Bool.{cases_Bool, eqb-true, true≢false, ltb-true, ltb-false, ne_eqb}
use Rattle.std.proofs.lemmas.Grind.{common_steps}
use Rattle.std.proofs.lemmas.List.Folds.{position_or_len_push}
use Rattle.std.proofs.lemmas.List.{length-append}
use Rattle.std.proofs.lemmas.List.Sums.{prefix_len-le-length, passes_at_first}
use Rattle.number_tables.specs.Numbers.{has_number, place_of, with_number}

found : (p : ℕ → Bool) (xs : List ℕ) → ltb (position_or_len p xs) (length xs) ≡ list_any p xs
found p [] = refl
found p (x ∷ xs) = elim (cases_Bool (p x)) [
  | inl h ↦ grind (arith, common_steps, h, found p xs)
  | inr h ↦
      grind (arith, common_steps, h, found p xs)
]

is_some_cond : (b : Bool) (n : ℕ) → is_some (cond b (Some n) None) ≡ b
is_some_cond true n = refl
is_some_cond false n = refl

pub placed : (xs : List ℕ) (n : ℕ) → is_some (place_of xs n) ≡ has_number xs n
placed xs n = is_some_cond _ _ ∙ found (λ x. x == n) xs

pub unplaced : (xs : List ℕ) (n : ℕ) → has_number xs n ≡ false → place_of xs n ≡ None
unplaced xs n absent = ap (λ b. cond b (Some (position_or_len (λ x. x == n) xs)) None) (found (λ x. x == n) xs ∙ absent)

-- with one more number behind the others
pushed_first : (p : ℕ → Bool) (xs : List ℕ) (n : ℕ) → list_any p xs ≡ true → position p (xs ++ n ∷ []) ≡ position p xs
pushed_first p xs n among =
    let below : position_or_len p xs < length xs = ltb-true (position_or_len p xs) (length xs) (found p xs ∙ among) in
    let same : position_or_len p (xs ++ n ∷ []) ≡ position_or_len p xs =
    position_or_len_push p xs n
    ∙ ap (λ b. cond b (length xs + cond (p n) 0 1) (position_or_len p xs))
    (ne_eqb (position_or_len p xs) (length xs) (λ e. omega (arith, below, e))) in
    let longer : length (xs ++ n ∷ []) ≡ length xs + 1 = length-append xs (n ∷ []) in
    grind (arith, common_steps, same, longer, below)

pushed_last : (p : ℕ → Bool) (xs : List ℕ) (n : ℕ) → list_any p xs ≡ false →
    position p (xs ++ n ∷ []) ≡ cond (p n) (Some (length xs)) None
pushed_last p xs n apart =
    let past : length xs ≤ position_or_len p xs = ltb-false (position_or_len p xs) (length xs) (found p xs ∙ apart) in
    let at_end : position_or_len p xs ≡ length xs = omega (arith, past, prefix_len-le-length (λ x. not (p x)) xs) in
    let same : position_or_len p (xs ++ n ∷ []) ≡ length xs + cond (p n) 0 1 =
    position_or_len_push p xs n
    ∙ ap (λ b. cond b (length xs + cond (p n) 0 1) (position_or_len p xs))
    (eq-eqb (position_or_len p xs) (length xs) at_end) in
    let longer : length (xs ++ n ∷ []) ≡ length xs + 1 = length-append xs (n ∷ []) in
    elim (cases_Bool (p n)) [
      | inl h ↦ grind (arith, common_steps, same, longer, h)
      | inr h ↦
          grind (arith, common_steps, same, longer, h)
    ]

pub placed_last : (xs : List ℕ) (n m : ℕ) → has_number xs n ≡ false
    → place_of (xs ++ n ∷ []) m ≡ (if n == m then Some (length xs) else place_of xs m)
placed_last xs n m absent =
    elim (cases_Bool (has_number xs m)) [
      | inl among ↦ pushed_first (λ x. x == m) xs n among ∙ kept among
      | inr apart ↦ pushed_last (λ x. x == m) xs n apart ∙ ap (λ r. if n == m then Some (length xs) else r)
          (sym (unplaced xs m apart))
    ]
  where
    kept : has_number xs m ≡ true → place_of xs m ≡ (if n == m then Some (length xs) else place_of xs m)
    kept among =
        elim (cases_Bool (n == m)) [
          | inl same ↦ absurd (true≢false (sym among ∙ ap (has_number xs) (sym (eqb-true n m same)) ∙ absent))
          | inr other ↦ sym (ap (λ b. if b then Some (length xs) else place_of xs m) other)
        ]

pub with_new : (xs : List ℕ) (n : ℕ) → (Contains xs n → ⊥) → with_number xs n ≡ xs ++ n ∷ []
with_new xs n new =
    elim (cases_Bool (has_number xs n)) [
      | inl among ↦
          let place = position_or_len (λ x. x == n) xs in
          let below : place < length xs = ltb-true place (length xs) (found (λ x. x == n) xs ∙ among) in
          absurd (new (place, below, eqb-true _ n (passes_at_first (λ x. x == n) xs n below)))
      | inr apart ↦ ap (λ b. if b then xs else xs ++ n ∷ []) apart
    ]
