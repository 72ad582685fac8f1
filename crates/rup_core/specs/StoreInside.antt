-- How lines are stored: pages of clauses, and the id of the first place.
use Rattle.std.specs.Prelude.{◌≡◌, ◌≤◌, ℕ, List, length}
use Rattle.dq_lits.specs.Literal.{Literal}
use Rattle.rup_core.specs.Paging.{stored_lines}
use Rattle.rup_core.specs.declared.stores.Store.TheInside.{Inside}

abbrev pub lines_in : Inside → List (ℕ × List Literal)
lines_in s = stored_lines s.first s.pages.items

pub record IsStore (s : Inside) : Type 0 where
  pub from_one : 1 ≤ s.first
  pub counted : s.count ≡ length (lines_in s)
