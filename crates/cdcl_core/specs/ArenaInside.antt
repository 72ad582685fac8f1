-- How clauses are kept, flat.
use Rattle.std.specs.Prelude.{◌≡◌, ℕ, ◌+◌, ◌≤◌, ◌<◌, List, length, vec_capacity}
use Rattle.dq_lits.specs.Literal.{Literal}
use Rattle.learning_trail.specs.Pieces.{pieces, AreEnds}
use Rattle.cdcl_core.specs.Runs.{AreStarts}
use Rattle.cdcl_core.specs.declared.arenas.Arena.TheInside.{Inside}

-- what an arena shows: its clauses in order of time, and how many literals one clause more has to
-- stay below
pub record Arranged : Type 0 where
  pub clauses : List (List Literal)
  pub spare : ℕ

abbrev pub arranged_in : Inside → Arranged
arranged_in s = record { clauses = pieces s.literals.items 0 s.ends.items; spare = s.spare }

pub record HasArenaRoom (s : Inside) : Type 0 where
  pub literals : length s.literals.items + s.spare ≤ vec_capacity s.literals + 1
  pub ends : length s.ends.items < s.ends.capacity
  pub ends_fit : length s.literals.items + s.spare ≤ s.ends.most + 1
  pub starts : length s.starts.items < s.starts.capacity
  pub starts_fit : length s.ends.items ≤ s.starts.most

pub record IsArranged (s : Inside) : Type 0 where
  pub ends : AreEnds 0 s.ends.items (length s.literals.items)
  pub count : length s.starts.items ≡ length s.ends.items
  pub starts : AreStarts (pieces s.literals.items 0 s.ends.items) s.starts.items
  pub spare : 1 ≤ s.spare → HasArenaRoom s
