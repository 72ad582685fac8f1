-- Lemmas on tests and searches over lists.
use Rattle.std.proofs.Common.{ℕ, ◌≤◌, Bool, if◌then◌else◌, List, [], ◌∷◌, length, ap, arith, inl, inr, cond, ◌≡◌, true, false, refl, sym, ◌∙◌, ◌<◌, ◌==◌, get_or, suc, ◌+◌, not, ◌||◌, slice_get, position, Some}
use Rattle.std.specs.List.{filter, list_any, position_or_len, list_all, AllByRecursion, All}
use Rattle.std.proofs.lemmas.Bool.{cases_Bool, true≢false, ne_eqb, and_parts, eqb-true}
use Rattle.std.proofs.lemmas.List.Sums.{passes_at_first}
use Rattle.std.proofs.lemmas.List.Quantifiers.{position-Some}
use Rattle.std.proofs.lemmas.Option.{slice_get-get_or}
use Rattle.std.proofs.lemmas.List.Elements.{All-from_recursion}
use Rattle.list_laws.proofs.Sequences.{all_kept}

pub filter-shorter : (p : ℕ → Bool) (us : List ℕ) → length (filter p us) ≤ length us
filter-shorter p [] = omega arith
filter-shorter p (u ∷ us) = elim (cases_Bool (p u)) [
  | inl passes ↦ omega (arith, filter-shorter p us, ap (λ b. length (if b then u ∷ filter p us else filter p us)) passes)
  | inr fails ↦ omega (arith, filter-shorter p us, ap (λ b. length (if b then u ∷ filter p us else filter p us)) fails)
]

-- a test that lets through all that another one does
pub filter-wider : {X : Type 0} (p q : X → Bool) (xs : List X) → ((l : X) → p l ≡ true → q l ≡ true)
    → filter p (filter q xs) ≡ filter p xs
filter-wider p q [] wider = refl
filter-wider p q (x ∷ xs) wider = by (q x) (p x) (wider x) (filter-wider p q xs wider) refl
  where
    by : (b a : Bool) → (a ≡ true → b ≡ true) → filter p (filter q xs) ≡ filter p xs
        → p x ≡ a → filter p (cond b (x ∷ filter q xs) (filter q xs)) ≡ cond a (x ∷ filter p xs) (filter p xs)
    by true a w h e =
        ap (λ c. cond c (x ∷ filter p (filter q xs)) (filter p (filter q xs))) e
        ∙ ap (λ ls. cond a (x ∷ ls) ls) h
    by false true w h e = absurd (true≢false (sym (w refl)))
    by false false w h e = h

pub below-differs : (g count : ℕ) → g < count → (g == count) ≡ false
below-differs g count below = ne_eqb g count (λ is. omega (arith, below, is))

any_below : (p : List Bool → Bool) (rows : List (List Bool)) → list_any p rows ≡ true →
    position_or_len p rows < length rows
any_below p [] h = cc
any_below p (x ∷ xs) h = by_bit (any_below p xs) (p x) h where
  by_bit : (list_any p xs ≡ true → position_or_len p xs < length xs) → (b : Bool) → (b || list_any p xs) ≡ true →
      cond (not b) (1 + position_or_len p xs) 0 < suc (length xs)
  by_bit later true h = omega arith
  by_bit later false h = let r = later h in omega (arith, r)

-- the first one that passes
pub first_holds : (p : List Bool → Bool) (rows : List (List Bool)) → list_any p rows ≡ true →
    p (get_or rows (position_or_len p rows) []) ≡ true
first_holds p rows h = passes_at_first p rows [] (any_below p rows h)

-- what a test shows of each element
pub each : {X : Type 0} (p : X → Bool) (P : X → Type 0) → ((x : X) → p x ≡ true → P x) → (xs : List X) →
    list_all p xs ≡ true → AllByRecursion P xs
each p P shows [] h = tt
each p P shows (x ∷ xs) h = let parts = and_parts (p x) (list_all p xs) h in
    (shows x parts.0, each p P shows xs parts.1)

pub filter-same : {X : Type 0} (p q : X → Bool) → ((l : X) → p l ≡ q l) → (xs : List X) → filter p xs ≡ filter q xs
filter-same p q same [] = refl
filter-same p q same (x ∷ xs) =
    ap (λ b. cond b (x ∷ filter p xs) (filter p xs)) (same x) ∙ ap (λ ys. cond (q x) (x ∷ ys) ys)
    (filter-same p q same xs)

pub place_holds : (xs : List ℕ) (v i : ℕ) → position (λ u. u == v) xs ≡ Some i → slice_get xs i ≡ Some v
place_holds xs v i found =
    let h = position-Some (λ u. u == v) xs i 0 found in
    slice_get-get_or xs i 0 h.0 ∙ ap Some (eqb-true (get_or xs i 0) v h.1)

pub all_passing : {X : Type 0} (p : X → Bool) (P : X → Type 0) → ((x : X) → p x ≡ true → P x) → (xs : List X) →
    list_all p xs ≡ true → All P xs
all_passing p P shows xs h = All-from_recursion P xs (each p P shows xs h)

pub placed_below : (xs : List ℕ) (v i : ℕ) → position (λ u. u == v) xs ≡ Some i → i < length xs
placed_below xs v i found = (position-Some (λ u. u == v) xs i 0 found).0

pub some_left : {X : Type 0} (P : ℕ × List X → Type 0) (keeps : ℕ × List X → Bool) (lines : List (ℕ × List X)) →
    AllByRecursion P lines → AllByRecursion P (filter keeps lines)
some_left P keeps [] all = tt
some_left P keeps (line ∷ lines) all = all_kept P (keeps line) line (filter keeps lines) all.0
    (some_left P keeps lines all.1)
