-- Words of private contracts: where what is kept of a clause comes from.
use Rattle.std.specs.Prelude.{◌≡◌, ◌≢◌, ◌<◌, ℕ, List, length, reverse, Option, None, Some, slice_index_or}
use Rattle.std.specs.List.{slice_get}
use Rattle.dq_lits.specs.Formula.{Dqbf}
use Rattle.dq_prep.specs.declared.traces.Taken.{Taken}
use Rattle.dq_prep.specs.Simplified.{kept_clause}
use Rattle.lifted_proofs.specs.Goals.{clause_at, IsSource, left_by}
use Rattle.lifted_proofs.specs.declared.goals.Source.{Source}

-- of the first units, so many, the one that was taken of the clause at a place
abbrev pub TellsTaken : List Taken → ℕ → ℕ → Option ℕ → Type 0
TellsTaken units count place None =
    (j : ℕ) (u : Taken) → j < count → slice_get units j ≡ Some u → u.place ≢ place
TellsTaken units count place (Some j) =
    (u : Taken) × ((slice_get units j ≡ Some u) × (u.place ≡ place))

abbrev pub TellTaken : List Taken → ℕ → List (Option ℕ) → Type 0
TellTaken units count taken = (place : ℕ) → place < length taken
    → TellsTaken units count place (slice_index_or taken place None)

abbrev pub IsSourceAt : Dqbf → List Taken → ℕ → Option Source → Type 0
IsSourceAt f units place None =
    kept_clause f (reverse units) place (clause_at f place) ≡ None
IsSourceAt f units place (Some s) =
    IsSource f units s
    × (kept_clause f (reverse units) place (clause_at f place) ≡ Some (left_by f units s))
