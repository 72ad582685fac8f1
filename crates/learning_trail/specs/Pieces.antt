-- The pieces of a list, by their ends.
use Rattle.std.specs.Prelude.{◌≡◌, ℕ, zero, suc, ◌-◌, ◌≤◌, List, [], ◌∷◌, take, drop}
use Rattle.dq_lits.specs.Literal.{Literal}

abbrev pub pieces : List Literal → ℕ → List ℕ → List (List Literal)
pieces literals start [] = []
pieces literals start (end ∷ ends) =
    take (end - start) (drop start literals) ∷ pieces literals end ends

abbrev pub AreEnds : ℕ → List ℕ → ℕ → Type 0
AreEnds start [] total = start ≡ total
AreEnds start (end ∷ ends) total = (start ≤ end) × AreEnds end ends total

-- where the piece at a place begins
abbrev pub start_of : ℕ → List ℕ → ℕ → ℕ
start_of start ends zero = start
start_of start [] (suc i) = start
start_of start (end ∷ ends) (suc i) = start_of end ends i
