-- Lemmas on the elements at places of lists.
use Rattle.std.proofs.Common.{◌≡◌, ℕ, zero, suc, ◌⊎◌, inl, inr, List, [], ◌∷◌, ◌++◌, length, slice_get, Some, refl, ap, ◌+◌, drop, ◌∙◌, add-one, ◌<◌, arith, get_or, sym, map, slice_index, replicate, slice_index_or}
use Rattle.std.proofs.Math.Seq.{drop-cons}
use Rattle.std.proofs.lemmas.Option.{get_or_from_slice_get, slice_get_within, slice_get-get_or}
use Rattle.std.proofs.lemmas.List.{get_or_default}
use Rattle.std.specs.List.{Contains}

-- an element more behind
pub old_or_last : {X : Type 0} (xs : List X) (y x : X) (p : ℕ) → slice_get (xs ++ y ∷ []) p ≡ Some x →
    (slice_get xs p ≡ Some x) ⊎ ((p ≡ length xs) × (y ≡ x))
old_or_last [] y x zero at = inr (refl, cc)
old_or_last [] y x (suc p) at = cc
old_or_last (z ∷ xs) y x zero at = inl at
old_or_last (z ∷ xs) y x (suc p) at = elim (old_or_last xs y x p at) [
  | inl before ↦ inl before
  | inr last ↦ inr (ap suc last.0, last.1)
]

pub kept_there : {X : Type 0} (xs ys : List X) (i : ℕ) (x : X) → slice_get xs i ≡ Some x → slice_get (xs ++ ys) i ≡ Some x
kept_there [] ys i x h = cc
kept_there (y ∷ xs) ys zero x h = h
kept_there (y ∷ xs) ys (suc i) x h = kept_there xs ys i x h

pub drop-next : {X : Type 0} (steps : List X) (k : ℕ) (s : X) → slice_get steps k ≡ Some s →
    drop k steps ≡ s ∷ drop (k + 1) steps
drop-next steps k s is =
    rw (add-one) (drop-cons steps k s (slice_get_within steps k s is))
    ∙ ap (λ x. x ∷ drop (k + 1) steps) (get_or_from_slice_get steps k s s is)

-- the same, with the place before the element
pub last_or_before : {X : Type 0} (xs : List X) (y : X) (p : ℕ) (v : X) → slice_get (xs ++ y ∷ []) p ≡ Some v →
    (slice_get xs p ≡ Some v) ⊎ ((p ≡ length xs) × (y ≡ v))
last_or_before [] y zero v h = let same : y ≡ v = cc in inr (refl, same)
last_or_before [] y (suc p) v h = cc
last_or_before (x ∷ xs) y zero v h = inl h
last_or_before (x ∷ xs) y (suc p) v h = elim (last_or_before xs y p v h) [
  | inl before ↦ inl before
  | inr here ↦ inr (ap suc here.0, here.1)
]

pub last_there : {X : Type 0} (xs : List X) (x : X) → slice_get (xs ++ x ∷ []) (length xs) ≡ Some x
last_there [] x = refl
last_there (z ∷ xs) x = last_there xs x

pub place_within : {X : Type 0} (xs : List X) (i : ℕ) (x : X) → slice_get xs i ≡ Some x → i < length xs
place_within [] i x h = cc
place_within (y ∷ ys) zero x h = omega arith
place_within (y ∷ ys) (suc i) x h = let r = place_within ys i x h in omega arith

pub get-append_left : {X : Type 0} (xs ys : List X) (i : ℕ) → i < length xs → slice_get (xs ++ ys) i ≡ slice_get xs i
get-append_left [] ys i below = absurd (omega (arith, below))
get-append_left (x ∷ xs) ys zero below = refl
get-append_left (x ∷ xs) ys (suc i) below = get-append_left xs ys i (omega (arith, below))

-- a place of a list that is another
pub equal_lists_at : (xs ys : List ℕ) (place : ℕ) → xs ≡ ys → place < length xs →
    (place < length ys) × (get_or ys place (slice_index xs place) ≡ slice_index xs place)
equal_lists_at xs ys place same below =
    let sized = ap length same in (
      omega (arith, below, sized),
      ap (λ zs. get_or zs place (slice_index xs place)) (sym same)
          ∙ sym (get_or_default xs place 0 (slice_index xs place) below),
    )

pub drop-at : {X : Type 0} (xs : List X) (k : ℕ) (x : X) → slice_get xs k ≡ Some x → drop k xs ≡ x ∷ drop (suc k) xs
drop-at [] k x h = cc
drop-at (y ∷ ys) zero x h = let same : y ≡ x = cc in ap (λ z. z ∷ ys) same
drop-at (y ∷ ys) (suc k) x h = drop-at ys k x h

pub mapped_at : {X Y : Type 0} (g : X → Y) (xs : List X) (i : ℕ) (x : X) → slice_get xs i ≡ Some x →
    slice_get (map g xs) i ≡ Some (g x)
mapped_at g [] i x h = cc
mapped_at g (y ∷ xs) zero x h = let same : y ≡ x = cc in ap (λ z. Some (g z)) same
mapped_at g (y ∷ xs) (suc i) x h = mapped_at g xs i x h

pub get-append_right : {X : Type 0} (xs ys : List X) (i : ℕ) → slice_get (xs ++ ys) (length xs + i) ≡ slice_get ys i
get-append_right [] ys i = let same : 0 + i ≡ i = omega arith in ap (slice_get ys) same
get-append_right (x ∷ xs) ys i =
    let next : suc (length xs) + i ≡ suc (length xs + i) = omega arith in
    ap (slice_get (x ∷ (xs ++ ys))) next ∙ get-append_right xs ys i

pub index_of : (xs : List ℕ) (p x : ℕ) → slice_get xs p ≡ Some x → slice_index xs p ≡ x
index_of [] p x h = cc
index_of (y ∷ ys) zero x h = let same : y ≡ x = cc in same
index_of (y ∷ ys) (suc p) x h = index_of ys p x h

pub zeros_there : (n j : ℕ) → ◌≡◌ {A = ℕ} (slice_index_or (replicate n 0) j 0) 0
zeros_there zero j = refl
zeros_there (suc n) zero = refl
zeros_there (suc n) (suc j) = zeros_there n j

pub drop_at : {X : Type 0} (xs : List X) (i : ℕ) (d : X) → i < length xs → drop i xs ≡ get_or xs i d ∷ drop (i + 1) xs
drop_at xs i d below = rw (add-one) (drop-cons xs i d below)

pub at_front : {X : Type 0} (front back : List X) (l d : X) → get_or (front ++ l ∷ back) (length front) d ≡ l
at_front [] back l d = refl
at_front (k ∷ front) back l d = at_front front back l d

pub map_agree : {X Y : Type 0} (m n : X → Y) (xs : List X) → ((x : X) → Contains xs x → m x ≡ n x) → map m xs ≡ map n xs
map_agree m n [] each = refl
map_agree m n (x ∷ xs) each =
    ap (λ b. b ∷ map m xs) (each x (0, omega arith, refl)) ∙ ap (λ bs. n x ∷ bs)
    (map_agree m n xs (λ z among. each z (let (k, below, is) = among in (suc k, omega (arith, below), is))))

-- the element at a place
pub found_at : {X : Type 0} (xs : List X) (i : ℕ) (x : X) → i < length xs → x ≡ get_or xs i x → slice_get xs i ≡ Some x
found_at xs i x below is = slice_get-get_or xs i x below ∙ ap Some (sym is)
