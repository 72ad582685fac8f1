-- Names without the CRs at their end, and where digits end.
use Rattle.std.proofs.Common.{◌≡◌, ◌≢◌, ℕ, ◌<◌, ◌≤◌, nat_lt, get_or, Bool, true, false, cond, List, [], ◌∷◌, ◌++◌, length, Some, None, refl, ◌∙◌, ap, arith}
use Rattle.std.specs.List.{position, position_or_len}
use Rattle.std.specs.Option.{unwrap_or}
use Rattle.std.proofs.lemmas.Bool.{ne_eqb, lt-ltb, le-ltb, cases_Bool}
use Rattle.std.proofs.lemmas.List.Sums.{position_or_len_is}
use Rattle.list_laws.proofs.Sequences.{position_chosen}
use Rattle.aiger_text.specs.Lines.{keep_byte, without_end_crs}

pub without_end_crs-push : (xs : List ℕ) → without_end_crs (xs ++ 13 ∷ []) ≡ without_end_crs xs
without_end_crs-push [] = refl
without_end_crs-push (x ∷ xs) = ap (keep_byte x) (without_end_crs-push xs)

kept_before : (x b : ℕ) (xs : List ℕ) → keep_byte x (xs ++ b ∷ []) ≡ x ∷ (xs ++ b ∷ [])
kept_before x b [] = refl
kept_before x b (y ∷ ys) = refl

pub without_end_crs-other : (xs : List ℕ) (b : ℕ) → b ≢ 13 → without_end_crs (xs ++ b ∷ []) ≡ xs ++ b ∷ []
without_end_crs-other [] b other = ap (λ t. cond t [] (b ∷ [])) (ne_eqb b 13 other)
without_end_crs-other (x ∷ xs) b other = ap (keep_byte x) (without_end_crs-other xs b other) ∙ kept_before x b xs

pub position-le : (p : ℕ → Bool) (xs : List ℕ) → position_or_len p xs ≤ length xs
position-le p [] = omega arith
position-le p (x ∷ xs) = search (arith, cases_Bool, (position-le p xs))

pub unwrap_position : (p : ℕ → Bool) (xs : List ℕ) → unwrap_or (position p xs) (length xs) ≡ position_or_len p xs
unwrap_position p xs = position_chosen p xs (nat_lt (position_or_len p xs) (length xs)) refl (position-le p xs)

-- the first place that passes
pub position-Some : {X : Type 0} (p : X → Bool) (xs : List X) (i : ℕ) (d : X) → i < length xs →
    ((k : ℕ) → k < i → p (get_or xs k d) ≡ false) → p (get_or xs i d) ≡ true → position p xs ≡ Some i
position-Some p xs i d below before here = search (arith, position_or_len_is, lt-ltb)

pub position-None : {X : Type 0} (p : X → Bool) (xs : List X) (d : X) →
    ((k : ℕ) → k < length xs → p (get_or xs k d) ≡ false) → position p xs ≡ None
position-None p xs d none = search (arith, (position_or_len_is p xs (length xs) d), (le-ltb (length xs) (length xs)))
