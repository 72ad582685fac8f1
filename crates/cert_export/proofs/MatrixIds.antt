-- Ids of the negated matrix are computed without overflow.
use Rattle.std.proofs.Common.{◌≡◌, ℕ, ◌+◌, ◌<◌, ◌≤◌, List, take, length, slice_index}
use Rattle.std.specs.List.{sum_by}
use Rattle.dq_lits.specs.Literal.{Literal}

-- how many literals stand before the first so many clauses
pub record LengthsSoFar (matrix : List (List Literal)) (before : List ℕ) (literals j : ℕ) : Type 0 where
  pub count : length before ≡ j + 1
  pub each : (k : ℕ) → k < j + 1 → slice_index before k ≡ sum_by length (take k matrix)
  pub sum : literals ≡ sum_by length (take j matrix)
  pub few : literals ≤ 10000000000000000
