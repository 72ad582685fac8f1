-- Lemmas on lists and their lengths.
use Rattle.std.proofs.Common.{List, [], ◌∷◌, ◌++◌, ◌≡◌, ℕ, zero, suc, ◌≤◌, drop, length, refl, arith, ◌+◌, take, length-drop, ◌<◌, Bool, true, false, cond, not, nat_lt, Some, None, ◌∙◌, ap, map, Option, slice_get}
use Rattle.std.specs.List.{AllByRecursion, position_or_len, position, sum_by}
use Rattle.std.proofs.lemmas.List.{take-append-le, drop-append-le, length-take}
use Rattle.std.specs.Option.{unwrap_or}
use Rattle.std.proofs.lemmas.Bool.{ltb-false}
use Rattle.std.proofs.lemmas.List.Sums.{sum_by-cons}

pub all_behind : {X : Type 0} (P : X → Type 0) (xs ys : List X) → AllByRecursion P (xs ++ ys) → AllByRecursion P ys
all_behind P [] ys all = all
all_behind P (x ∷ xs) ys all = all_behind P xs ys all.1

pub drop_end : {X : Type 0} (xs : List X) (k : ℕ) → length xs ≤ k → drop k xs ≡ []
drop_end [] zero past = refl
drop_end [] (suc k) past = refl
drop_end (x ∷ xs) zero past = absurd (omega (arith, past))
drop_end (x ∷ xs) (suc k) past = drop_end xs k (omega (arith, past))

pub all_before : {X : Type 0} (P : X → Type 0) (xs ys : List X) → AllByRecursion P (xs ++ ys) → AllByRecursion P xs
all_before P [] ys all = tt
all_before P (x ∷ xs) ys all = (all.0, all_before P xs ys all.1)

pub take-inside : {X : Type 0} (s n : ℕ) (xs ys : List X) → s ≤ length xs → s + n ≤ length xs →
    take n (drop s (xs ++ ys)) ≡ take n (drop s xs)
take-inside s n xs ys a b = rw (drop-append-le s xs ys a) (let e : n ≤ length (drop s xs) =
    omega (arith, length-drop s xs) in take-append-le n (drop s xs) ys e)

pub all_later : {X : Type 0} (lines : List (ℕ × List X)) (id : ℕ) (literals : List X) →
    AllByRecursion (λ line. line.0 < id) lines
    → AllByRecursion (λ line. line.0 < id + 1) (lines ++ (id, literals) ∷ [])
all_later [] id literals above = (omega arith, tt)
all_later (line ∷ lines) id literals above = (
  (let lt = above.0 in omega (arith, lt)),
  all_later lines id literals above.1,
)

pub position_most : (p : List Bool → Bool) (xs : List (List Bool)) → position_or_len p xs ≤ length xs
position_most p [] = omega arith
position_most p (x ∷ xs) = by_bit (p x) (position_most p xs) where
  by_bit : (b : Bool) → position_or_len p xs ≤ length xs → cond (not b) (1 + position_or_len p xs) 0 ≤ suc (length xs)
  by_bit true l = omega arith
  by_bit false l = omega arith

pub found : {X : Type 0} (p : X → Bool) (xs : List X) (i : ℕ) → position_or_len p xs ≡ i → (b : Bool) →
    nat_lt i (length xs) ≡ b →
    position p xs ≡ cond b (Some i) None
found p xs i is b test =
    ap (λ k. cond (nat_lt k (length xs)) (Some k) None) is ∙ ap (λ c. cond c (Some i) None) test

pub position_chosen : (p : ℕ → Bool) (xs : List ℕ) (b : Bool) → nat_lt (position_or_len p xs) (length xs) ≡ b →
    position_or_len p xs ≤ length xs →
    unwrap_or (cond b (Some (position_or_len p xs)) None) (length xs) ≡ position_or_len p xs
position_chosen p xs true found within = refl
position_chosen p xs false past within = let far = ltb-false (position_or_len p xs) (length xs) past in omega arith

pub take-few : (i : ℕ) (xs : List ℕ) → length (take i xs) ≤ i
take-few i xs = let long = length-take i xs in omega (arith, long)

pub positive : (variables : ℕ) (xs : List ℕ) → AllByRecursion (λ v. (1 ≤ v) × (v ≤ variables)) xs →
    AllByRecursion (λ v. 1 ≤ v) xs
positive variables [] all = tt
positive variables (x ∷ xs) all = (all.0.0, positive variables xs all.1)

pub all_kept : {X : Type 0} (P : ℕ × List X → Type 0) (b : Bool) (line : ℕ × List X) (rest : List (ℕ × List X)) →
    P line → AllByRecursion P rest → AllByRecursion P (cond b (line ∷ rest) rest)
all_kept P true line rest here later = (here, later)
all_kept P false line rest here later = later

pub sum-none : {X : Type 0} (matrix : List (List X)) → sum_by length (take 0 matrix) ≡ 0
sum-none matrix = refl

pub sum-taken : {X : Type 0} (c : List X) (cs : List (List X)) (j : ℕ) →
    sum_by length (take (suc j) (c ∷ cs)) ≡ length c + sum_by length (take j cs)
sum-taken c cs j = sum_by-cons length c (take j cs)

pub mapped_long : {X Y : Type 0} (h : X → Y) (xs : List X) → length (map h xs) ≡ length xs
mapped_long h [] = refl
mapped_long h (x ∷ xs) = let e = mapped_long h xs in omega (arith, e)

pub none-gone : {X : Type 0} (b : Bool) (o : Option (List X)) (c : List X) → cond b None o ≡ Some c → o ≡ Some c
none-gone true o c h = cc
none-gone false o c h = h

pub before_below : {X : Type 0} (lists : List (List X)) (j i : ℕ) (list : List X) → slice_get lists j ≡ Some list →
    i < length list → sum_by length (take j lists) + i < sum_by length lists
before_below [] j i list h k = cc
before_below (c ∷ cs) zero i list h k =
    let same : c ≡ list = cc in
    let long : length c ≡ length list = ap length same in
    omega (arith, long, k, sum_by-cons length c cs, sum-none (c ∷ cs))
before_below (c ∷ cs) (suc j) i list h k =
    omega (arith, before_below cs j i list h k, sum_by-cons length c cs, sum-taken c cs j)

pub take_past : {X : Type 0} (n : ℕ) (xs : List X) → length xs ≤ n → take n xs ≡ xs
take_past n [] h = take-nil n where
  take-nil : {X : Type 0} (n : ℕ) → take {A = X} n [] ≡ []
  take-nil zero = refl
  take-nil (suc n) = refl
take_past zero (x ∷ xs) h = absurd (omega (arith, h))
take_past (suc n) (x ∷ xs) h = let most : length xs ≤ n = omega (arith, h) in ap (λ ys. x ∷ ys) (take_past n xs most)
