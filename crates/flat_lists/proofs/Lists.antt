-- The lists that lie end to end in one list.
use Rattle.std.proofs.Common.{◌≡◌, ℕ, zero, suc, ◌-◌, ◌≤◌, ◌<◌, List, [], ◌∷◌, ◌++◌, length, take, drop, get_or, refl, ap, sym, ◌∙◌, arith, length-append}
use Rattle.std.proofs.lemmas.List.{take_all, drop_at, take-append-drop, length-take-le}
use Rattle.list_laws.proofs.Sequences.{take-inside}
use Rattle.flat_lists.specs.Layout.{lists_at, start_of, AreEnds}

-- there are as many lists as ends
pub length-lists_at : {X : Type 0} (start : ℕ) (ends : List ℕ) (items : List X) →
    length (lists_at start ends items) ≡ length ends
length-lists_at start [] items = refl
length-lists_at start (end ∷ ends) items = ap suc (length-lists_at end ends items)

pub AreEnds-start : (start : ℕ) (ends : List ℕ) (n : ℕ) → AreEnds start ends n → start ≤ n
AreEnds-start start [] n h = omega arith
AreEnds-start start (end ∷ ends) n h = omega (arith, AreEnds-start end ends n h.1, h.0)

-- one more end
pub AreEnds-push : (start : ℕ) (ends : List ℕ) (n m : ℕ) → n ≤ m → AreEnds start ends n →
    AreEnds start (ends ++ m ∷ []) m
AreEnds-push start [] n m le h = (omega arith, refl)
AreEnds-push start (end ∷ ends) n m le h = (h.0, AreEnds-push end ends n m le h.1)

-- items behind the last list leave the lists as they are, and one more end makes them a list
pub lists_at-push : {X : Type 0} (start : ℕ) (ends : List ℕ) (items more : List X) (m : ℕ) →
    length (items ++ more) ≡ m → AreEnds start ends (length items)
    → lists_at start (ends ++ m ∷ []) (items ++ more) ≡ lists_at start ends items ++ more ∷ []
lists_at-push start [] items more m e h =
    let whole : take (m - start) (drop start (items ++ more)) ≡ more =
    rw (drop_at items more start (sym h)) (take_all (m - start) more (omega (arith, length-append items more)))
    in ap (λ c. c ∷ []) whole
lists_at-push start (end ∷ ends) items more m e h =
    let below = AreEnds-start end ends (length items) h.1 in
    let here : take (end - start) (drop start (items ++ more)) ≡ take (end - start) (drop start items) =
    take-inside start (end - start) items more (omega (arith, h.0)) (omega (arith, h.0)) in
    rw here (ap (λ cs. take (end - start) (drop start items) ∷ cs) (lists_at-push end ends items more m e h.1))

pub get_or-lists_at : {X : Type 0} (start : ℕ) (ends : List ℕ) (items : List X) (j : ℕ) → j < length ends
    → get_or (lists_at start ends items) j [] ≡ take (get_or ends j 0 - start_of start ends j)
    (drop (start_of start ends j) items)
get_or-lists_at start [] items j l = absurd (omega arith)
get_or-lists_at start (end ∷ ends) items zero l = refl
get_or-lists_at start (end ∷ ends) items (suc zero) l = get_or-lists_at end ends items zero (omega arith)
get_or-lists_at start (end ∷ ends) items (suc (suc j)) l = get_or-lists_at end ends items (suc j) (omega arith)

-- each list lies within the list
pub list_bounds : (start : ℕ) (ends : List ℕ) (n j : ℕ) → AreEnds start ends n → j < length ends
    → (start_of start ends j ≤ get_or ends j 0) × (get_or ends j 0 ≤ n)
list_bounds start [] n j h l = absurd (omega arith)
list_bounds start (end ∷ ends) n zero h l = (h.0, AreEnds-start end ends n h.1)
list_bounds start (end ∷ ends) n (suc zero) h l = list_bounds end ends n zero h.1 (omega arith)
list_bounds start (end ∷ ends) n (suc (suc j)) h l = list_bounds end ends n (suc j) h.1 (omega arith)

-- items behind the last list leave the lists as they are
pub lists_at-behind : {X : Type 0} (start : ℕ) (ends : List ℕ) (items more : List X) → AreEnds start ends (length items)
    → lists_at start ends (items ++ more) ≡ lists_at start ends items
lists_at-behind start [] items more h = refl
lists_at-behind start (end ∷ ends) items more h =
    let below = AreEnds-start end ends (length items) h.1 in
    let here : take (end - start) (drop start (items ++ more)) ≡ take (end - start) (drop start items) =
    take-inside start (end - start) items more (omega (arith, h.0)) (omega (arith, h.0)) in
    rw here (ap (λ ls. take (end - start) (drop start items) ∷ ls) (lists_at-behind end ends items more h.1))

-- the first lists end at the first ends
lists_at-take : {X : Type 0} (start : ℕ) (k : ℕ) (ends : List ℕ) (items : List X) →
    lists_at start (take k ends) items ≡ take k (lists_at start ends items)
lists_at-take start zero ends items = refl
lists_at-take start (suc k) [] items = refl
lists_at-take start (suc k) (end ∷ ends) items = ap (λ ls. take (end - start) (drop start items) ∷ ls)
    (lists_at-take end k ends items)

start_behind : (end : ℕ) (ends : List ℕ) (k : ℕ) → start_of end ends k ≡ get_or (end ∷ ends) k 0
start_behind end ends zero = refl
start_behind end ends (suc k) = refl

-- all ends but the last
AreEnds-but_last : (start end : ℕ) (ends : List ℕ) (n : ℕ) → AreEnds start (end ∷ ends) n
    → AreEnds start (take (length ends) (end ∷ ends)) (start_of start (end ∷ ends) (length ends)) ×
    (start_of start (end ∷ ends) (length ends) ≤ n)
AreEnds-but_last start end [] n h = let last = h.1 in (refl, omega (arith, h.0, last))
AreEnds-but_last start end (next ∷ ends) n h =
    let rest = AreEnds-but_last end next ends n h.1 in
    let same = start_behind end (next ∷ ends) (length ends) in
    rw (← same) ((h.0, rest.0), rest.1)

pub AreEnds-pop : {X : Type 0} (ends : List ℕ) (items : List X) → 0 < length ends → AreEnds 0 ends (length items)
    → AreEnds 0 (take (length ends - 1) ends) (length (take (start_of 0 ends (length ends - 1)) items))
AreEnds-pop [] items some h = absurd (omega (arith, some))
AreEnds-pop (end ∷ ends) items some h =
    let rest = AreEnds-but_last 0 end ends (length items) h in
    let one : length (end ∷ ends) - 1 ≡ length ends = omega arith in
    let long : length (take (start_of 0 (end ∷ ends) (length ends)) items) ≡ start_of 0 (end ∷ ends) (length ends) =
    length-take-le _ items rest.1 in
    rw one (rw long rest.0)

-- the last list, and its items, are taken away
pub lists_at-pop : {X : Type 0} (ends : List ℕ) (items : List X) → 0 < length ends → AreEnds 0 ends (length items)
    → lists_at 0 (take (length ends - 1) ends) (take (start_of 0 ends (length ends - 1)) items) ≡ take
    (length (lists_at 0 ends items) - 1) (lists_at 0 ends items)
lists_at-pop ends items some h =
    let s = start_of 0 ends (length ends - 1) in
    sym (lists_at-behind 0 (take (length ends - 1) ends) (take s items) (drop s items) (AreEnds-pop ends items some h))
    ∙ ap (lists_at 0 (take (length ends - 1) ends)) (take-append-drop s items)
    ∙ lists_at-take 0 (length ends - 1) ends items
    ∙ ap (λ n. take (n - 1) (lists_at 0 ends items)) (sym (length-lists_at 0 ends items))

pub popped : {X : Type 0} (ends fewer read : List ℕ) (items less : List X) (rest start : ℕ) → rest ≡ length ends - 1 →
    0 < length ends → read ≡ ends → start ≡ start_of 0 read rest
    → less ≡ take start items → fewer ≡ take rest ends → AreEnds 0 ends (length items)
    → AreEnds 0 fewer (length less) × (lists_at 0 fewer less ≡ take (length (lists_at 0 ends items) - 1)
    (lists_at 0 ends items))
popped ends fewer read items less rest start rest_is some read_is start_is less_is fewer_is h =
    rw (less_is, fewer_is, start_is, read_is, rest_is) (AreEnds-pop ends items some h, lists_at-pop ends items some h)
