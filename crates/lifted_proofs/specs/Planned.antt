-- Words of private contracts: the goals that a refutation begins with.
use Rattle.std.specs.Prelude.{◌≤◌, ◌*◌, ℕ, Bool, List}
use Rattle.std.specs.List.{AllZip}
use Rattle.lifted_proofs.specs.Goals.{Keeps}
use Rattle.lifted_proofs.specs.Carried.{IsFirstGoal}
use Rattle.lifted_proofs.specs.declared.goals.Source.{Source}
use Rattle.lifted_proofs.specs.declared.goals.Goal.{Goal}
use Rattle.lifted_proofs.specs.declared.goals.Plan.{Plan}

-- the id of an instance, with so many rows and clauses
pub record IsInstanceId (rows clauses h : ℕ) : Type 0 where
  pub from_one : 1 ≤ h
  pub up_to : h ≤ rows * clauses

-- each of these instances has its goal at its place
abbrev pub AreFirstGoals : List Source → List ℕ → List Goal → Type 0
AreFirstGoals sources hs gs = AllZip (IsFirstGoal sources) hs gs

-- the rows and the first goals of a plan
pub record IsPlanFor (rows : List (List Bool)) (sources : List Source) (wanted : List ℕ)
    (p : Plan) : Type 0 where
  pub rows_kept : Keeps rows p.rows
  pub first : List Goal
  pub goals : AreFirstGoals sources wanted first
  pub goals_kept : Keeps first p.goals.items
