-- How a solver is kept.
use Rattle.std.specs.Prelude.{◌≡◌, ℕ, ◌≤◌, ◌<◌, ◌^◌, Bool, List, [], length}
use Rattle.dq_lits.specs.Literal.{Literal}
use Rattle.cdcl_scan.specs.declared.solvers.Scan.TheInside.{Inside}

-- what a solver shows: its clauses in order of time, how many variables it has, and the values that
-- it found
pub record Shown : Type 0 where
  pub held : List (List Literal)
  pub variables : ℕ
  pub is_told : Bool
  pub model : List Bool

abbrev pub shown_in : Inside → Shown
shown_in s =
    record {
      held = s.searcher.clauses.clauses;
      variables = s.searcher.variables;
      is_told = s.is_told;
      model = s.model.items;
    }

-- nothing is on the trail, and each variable has its places
pub record IsAtRest (s : Inside) : Type 0 where
  pub bare : s.searcher.trail.steps ≡ []
  pub room : s.searcher.variables ≤ s.searcher.trail.room
  pub model : length s.model.items ≡ s.searcher.variables
  pub few : s.searcher.variables < 2 ^ 62
