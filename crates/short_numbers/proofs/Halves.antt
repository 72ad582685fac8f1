-- Numbers by their halves.
use Rattle.std.proofs.Common.{◌≡◌, ℕ, zero, suc, ◌+◌, ◌-◌, ◌*◌, ◌/◌, ◌%◌, ◌^◌, ◌<◌, ◌≤◌, Bool, true, false, cond, List, [], ◌∷◌, ◌++◌, length, set, get_or, replicate, take, min, refl, sym, ◌∙◌, ap, arith}
use Rattle.std.proofs.Math.Nat.{min-le_left, min-le_right, le-min}
use Rattle.std.proofs.lemmas.List.{get_or_default, take_all}
use Rattle.std.proofs.lemmas.Bool.{false≢true}
use Rattle.short_numbers.specs.Numbers.{Numbers, joined, most_of, numbers_of}

pub length-joined : (lows highs : List ℕ) → length highs ≡ length lows → length (joined lows highs) ≡ length lows
length-joined [] highs e = refl
length-joined (low ∷ lows) [] e = absurd (omega (arith, e))
length-joined (low ∷ lows) (high ∷ highs) e = ap suc (length-joined lows highs (omega (arith, e)))

pub get_or-joined : (lows highs : List ℕ) (i : ℕ) → length highs ≡ length lows → i < length lows
    → get_or (joined lows highs) i 0 ≡ get_or lows i 0 + get_or highs i 0 * 2 ^ 32
get_or-joined [] highs i e lt = absurd (omega (arith, lt))
get_or-joined (low ∷ lows) [] i e lt = absurd (omega (arith, e))
get_or-joined (low ∷ lows) (high ∷ highs) zero e lt = refl
get_or-joined (low ∷ lows) (high ∷ highs) (suc i) e lt = get_or-joined lows highs i (omega (arith, e)) (omega (arith, lt))

pub joined-push : (lows highs : List ℕ) (low high : ℕ) → length highs ≡ length lows
    → joined (lows ++ low ∷ []) (highs ++ high ∷ []) ≡ joined lows highs ++ (low + high * 2 ^ 32) ∷ []
joined-push [] [] low high e = refl
joined-push [] (h ∷ highs) low high e = absurd (omega (arith, e))
joined-push (l ∷ lows) [] low high e = absurd (omega (arith, e))
joined-push (l ∷ lows) (h ∷ highs) low high e =
    ap (λ xs. (l + h * 2 ^ 32) ∷ xs) (joined-push lows highs low high (omega (arith, e)))

pub joined-set : (lows highs : List ℕ) (i low high : ℕ) → length highs ≡ length lows
    → joined (set lows i low) (set highs i high) ≡ set (joined lows highs) i (low + high * 2 ^ 32)
joined-set [] [] i low high e = refl
joined-set [] (h ∷ highs) i low high e = absurd (omega (arith, e))
joined-set (l ∷ lows) [] i low high e = absurd (omega (arith, e))
joined-set (l ∷ lows) (h ∷ highs) zero low high e = refl
joined-set (l ∷ lows) (h ∷ highs) (suc i) low high e =
    ap (λ xs. (l + h * 2 ^ 32) ∷ xs) (joined-set lows highs i low high (omega (arith, e)))

-- a higher half of 0 leaves a number as it is
joined-zeros : (lows : List ℕ) → joined lows (replicate (length lows) 0) ≡ lows
joined-zeros [] = refl
joined-zeros (low ∷ lows) =
    let same : low + 0 * 2 ^ 32 ≡ low = omega arith in
    ap (λ n. n ∷ joined lows (replicate (length lows) 0)) same ∙ ap (λ xs. low ∷ xs) (joined-zeros lows)

halves : (n : ℕ) → n % 4294967296 + n / 4294967296 * 2 ^ 32 ≡ n
halves n = omega arith

-- there are as many numbers as halves
pub size : (wide : Bool) (lows highs : List ℕ) → length highs ≡ cond wide (length lows) 0
    → length (cond wide (joined lows highs) lows) ≡ length lows
size true lows highs e = length-joined lows highs e
size false lows highs e = refl

pub long : (wide : Bool) (lows highs : List ℕ) → wide ≡ true → length highs ≡ cond wide (length lows) 0
    → length highs ≡ length lows
long true lows highs is e = e
long false lows highs is e = absurd (false≢true is)

pub read : (wide : Bool) (lows highs : List ℕ) (i low high : ℕ) → wide ≡ true → length highs ≡ cond wide (length lows) 0
    → i < length lows → low ≡ get_or lows i low → high ≡ get_or highs i high
    → low + high * 4294967296 ≡ get_or (cond wide (joined lows highs) lows) i 0
read false lows highs i low high is e lt low_is high_is = absurd (false≢true is)
read true lows highs i low high is e lt low_is high_is =
    let first : low ≡ get_or lows i 0 = low_is ∙ get_or_default lows i low 0 lt in
    let second : high ≡ get_or highs i 0 = high_is ∙ get_or_default highs i high 0 (omega (arith, e, lt)) in
    omega (arith, first, second, get_or-joined lows highs i e lt)

-- there is memory for one half more
pub room_below : (wide : Bool) (lows highs : List ℕ) (a b : ℕ) → length highs ≡ cond wide (length lows) 0
    → length (numbers_of wide lows highs a b).items < (numbers_of wide lows highs a b).capacity → length lows < a
room_below true lows highs a b e room = omega (arith, room, length-joined lows highs e, min-le_left a b)
room_below false lows highs a b e room = room

pub high_room_below : (wide : Bool) (lows highs : List ℕ) (a b : ℕ) → wide ≡ true
    → length highs ≡ cond wide (length lows) 0
    → length (numbers_of wide lows highs a b).items < (numbers_of wide lows highs a b).capacity → length highs < b
high_room_below true lows highs a b is e room = omega (arith, room, e, length-joined lows highs e, min-le_right a b)
high_room_below false lows highs a b is e room = absurd (false≢true is)

pub room_above : (wide : Bool) (lows highs : List ℕ) (a b : ℕ) → wide ≡ true
    → length highs ≡ cond wide (length lows) 0 → length lows < a → length highs < b
    → length (numbers_of wide lows highs a b).items < (numbers_of wide lows highs a b).capacity
room_above true lows highs a b is e low high =
    let least : length lows + 1 ≤ min a b = le-min (omega (arith, low)) (omega (arith, high, e)) in
    omega (arith, length-joined lows highs e, least)
room_above false lows highs a b is e low high = absurd (false≢true is)

pub full_low : (wide : Bool) (lows highs : List ℕ) (a b : ℕ) → length highs ≡ cond wide (length lows) 0 → a ≤ length lows
    → (numbers_of wide lows highs a b).capacity ≤ length (numbers_of wide lows highs a b).items
full_low true lows highs a b e full = omega (arith, full, length-joined lows highs e, min-le_left a b)
full_low false lows highs a b e full = full

pub full_high : (wide : Bool) (lows highs : List ℕ) (a b : ℕ) → wide ≡ true → length highs ≡ cond wide (length lows) 0
    → b ≤ length highs
    → (numbers_of wide lows highs a b).capacity ≤ length (numbers_of wide lows highs a b).items
full_high true lows highs a b is e full = omega (arith, full, e, length-joined lows highs e, min-le_right a b)
full_high false lows highs a b is e full = absurd (false≢true is)

abbrev pub with_items : Numbers → List ℕ → Numbers
with_items v xs = record { items = xs; capacity = v.capacity; most = v.most }

pub pushed : (wide : Bool) (lows highs : List ℕ) (a b n : ℕ) → wide ≡ true → length highs ≡ cond wide (length lows) 0
    → numbers_of wide (lows ++ (n % 4294967296) ∷ []) (highs ++ (n / 4294967296) ∷ []) a b
    ≡ with_items (numbers_of wide lows highs a b) ((numbers_of wide lows highs a b).items ++ n ∷ [])
pushed true lows highs a b n is e = ap
    (λ xs. record { items = xs; capacity = min a b; most = most_of true })
    (joined-push lows highs (n % 4294967296) (n / 4294967296) e ∙ ap (λ k. joined lows highs ++ k ∷ []) (halves n))
pushed false lows highs a b n is e = absurd (false≢true is)

pub was_set : (wide : Bool) (lows highs : List ℕ) (a b i n : ℕ) → wide ≡ true → length highs ≡ cond wide (length lows) 0
    → numbers_of wide (set lows i (n % 4294967296)) (set highs i (n / 4294967296)) a b
    ≡ with_items (numbers_of wide lows highs a b) (set (numbers_of wide lows highs a b).items i n)
was_set true lows highs a b i n is e = ap
    (λ xs. record { items = xs; capacity = min a b; most = most_of true })
    (joined-set lows highs i (n % 4294967296) (n / 4294967296) e ∙ ap (set (joined lows highs) i) (halves n))
was_set false lows highs a b i n is e = absurd (false≢true is)

pub narrow : (wide : Bool) → most_of wide ≡ 2 ^ 32 - 1 → wide ≡ false
narrow true e = absurd (omega (arith, e))
narrow false e = refl

-- numbers that fit in 32 bits get second halves
pub filled : (wide : Bool) (lows highs more : List ℕ) → wide ≡ false → length highs ≡ cond wide (length lows) 0
    → more ≡ take (length lows) highs ++ replicate (length lows - length highs) 0
    → joined lows more ≡ cond wide (joined lows highs) lows
filled true lows highs more is e m = absurd (false≢true (sym is))
filled false lows [] more is e m =
    let all : length lows - length {A = ℕ} [] ≡ length lows = omega arith in
    let none : take (length lows) [] ≡ [] = take_all (length lows) [] (omega arith) in
    let zeros : more ≡ replicate (length lows) 0 =
    m ∙ ap (λ xs. xs ++ replicate (length lows - length {A = ℕ} []) 0) none ∙ ap (λ n. replicate n 0) all in
    ap (joined lows) zeros ∙ joined-zeros lows
filled false lows (h ∷ highs) more is e m = absurd (omega (arith, e))

pub wide_is : (wide : Bool) → most_of wide ≡ 2 ^ 64 - 1 → wide ≡ true
wide_is true e = refl
wide_is false e = absurd (omega (arith, e))
