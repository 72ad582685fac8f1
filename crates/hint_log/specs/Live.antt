-- Which of the clauses that were numbered are live, by the last search that began.
use Rattle.std.specs.Prelude.{ℕ, ◌≤◌, List, [], ◌∷◌, length, Option, None, Some}
use Rattle.std.specs.List.{All, filter_map}
use Rattle.std.specs.Option.{unwrap_or}
use Rattle.std.specs.List.Sorted.{IsStrictlyIncreasing}
use Rattle.dq_lits.specs.Literal.{Literal}
use Rattle.dq_lits.specs.Formula.{Dqbf}
use Rattle.hint_log.specs.Entries.{Entry, Begun}
use Rattle.hint_log.specs.Naming.{numbered_from_one}

-- the numbers that the last beginning names; none where no search began
abbrev pub live_numbers : List Entry → Option (List ℕ)
live_numbers [] = None
live_numbers (Begun live ∷ earlier) = Some live
live_numbers (_ ∷ earlier) = live_numbers earlier

-- the same as a list: before the first search nothing is live
abbrev pub last_live : List Entry → List ℕ
last_live entries = unwrap_or (live_numbers entries) []

-- the entries before the last beginning; none where no search began
abbrev pub before_beginning : List Entry → List Entry
before_beginning [] = []
before_beginning (Begun live ∷ earlier) = earlier
before_beginning (_ ∷ earlier) = before_beginning earlier

-- the same prefix over these clauses
abbrev pub with_matrix : Dqbf → List (List Literal) → Dqbf
with_matrix f matrix = record f { matrix = matrix }

-- the formula of the clauses of these numbers, in their order
abbrev pub formula_of : Dqbf → List ℕ → Dqbf
formula_of all live = with_matrix all (filter_map (numbered_from_one all.matrix) live)

abbrev pub formula_by : Dqbf → Option (List ℕ) → Dqbf
formula_by all None = all
formula_by all (Some live) = formula_of all live

-- the formula that the search after these entries is about
abbrev pub live_formula : Dqbf → List Entry → Dqbf
live_formula all entries = formula_by all (live_numbers entries)

-- ascending numbers of clauses
pub record AreNumbers (all : Dqbf) (live : List ℕ) : Type 0 where
  pub ascending : IsStrictlyIncreasing live
  pub numbers : All (λ j. (1 ≤ j) × (j ≤ length all.matrix)) live
