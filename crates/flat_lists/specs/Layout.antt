-- How lists lie end to end in one list.
use Rattle.std.specs.Prelude.{◌≡◌, ℕ, zero, suc, ◌-◌, ◌≤◌, List, [], ◌∷◌, take, drop, slice_index}

-- the lists that lie end to end from `start` on, by where each one ends
abbrev pub lists_at : {X : Type 0} → ℕ → List ℕ → List X → List (List X)
lists_at start [] items = []
lists_at start (end ∷ ends) items = take (end - start) (drop start items) ∷ lists_at end ends items

-- where the list at a place begins
abbrev pub start_of : ℕ → List ℕ → ℕ → ℕ
start_of start ends zero = start
start_of start ends (suc j) = slice_index ends j

-- the ends ascend from `start` to the length of the list
abbrev pub AreEnds : ℕ → List ℕ → ℕ → Type 0
AreEnds start [] n = start ≡ n
AreEnds start (end ∷ ends) n = (start ≤ end) × AreEnds end ends n
