-- How clauses are kept, flat.
use Rattle.std.specs.Prelude.{ℕ, ◌+◌, ◌≤◌, List, length, vec_capacity}
use Rattle.dq_lits.specs.Literal.{Literal}
use Rattle.learning_trail.specs.Pieces.{pieces, AreEnds}
use Rattle.cdcl_scan.specs.Runs.{AreRuns}
use Rattle.cdcl_scan.specs.declared.clauses.ClauseStore.TheInside.{Inside}

-- what a store shows: its clauses in order of time, and how many literals one clause more has to
-- stay below
pub record Stored : Type 0 where
  pub clauses : List (List Literal)
  pub spare : ℕ

abbrev pub stored_in : Inside → Stored
stored_in s = record { clauses = pieces s.literals.items 0 s.ends.items; spare = s.spare }

pub record HasSpare (s : Inside) : Type 0 where
  pub literals : length s.literals.items + s.spare ≤ vec_capacity s.literals + 1
  pub ends : length s.ends.items + 1 ≤ vec_capacity s.ends
  pub runs : length s.runs.items + 1 ≤ vec_capacity s.runs

pub record IsStored (s : Inside) : Type 0 where
  pub ends : AreEnds 0 s.ends.items (length s.literals.items)
  pub runs : AreRuns 0 s.runs.items (pieces s.literals.items 0 s.ends.items) (length s.ends.items)
  pub spare : 1 ≤ s.spare → HasSpare s
