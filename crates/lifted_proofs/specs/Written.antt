-- Words of private contracts: lines that are written.
use Rattle.std.specs.Prelude.{◌≡◌, ℕ, length, Some, slice_index_or}
use Rattle.std.specs.List.{Contains, slice_get}
use Rattle.lifted_proofs.specs.Goals.{IsPlanOf}
use Rattle.lifted_proofs.specs.Lines.{AreLines, HasLine}
use Rattle.lifted_proofs.specs.declared.goals.Goal.{Goal}
use Rattle.lifted_proofs.specs.declared.goals.Plan.{Plan}
use Rattle.lifted_proofs.specs.declared.goals.Reason.{Reason}
use Rattle.lifted_proofs.specs.declared.lines.Written.{Written}
use Rattle.lifted_proofs.specs.declared.units.UnitTable.{UnitTable}

-- all goals have their reasons
pub record IsWhole (t : UnitTable) (p : Plan) : Type 0 where
  pub plan : IsPlanOf t p
  pub all : length p.reasons.items ≡ length p.goals.items

-- the id at the goal's place has its clause
abbrev pub IsNamed : UnitTable → Plan → Written → ℕ → Type 0
IsNamed t p w q = (g : Goal) → slice_get p.goals.items q ≡ Some g
    → HasLine t.formula.now t.units.now p.rows w.steps g (slice_index_or w.ids.items q 0)

pub record AreWritten (t : UnitTable) (p : Plan) (w : Written) : Type 0 where
  pub lines : AreLines t.formula.now p.rows w.steps
  pub many : length w.ids.items ≡ length p.goals.items

-- the reason of the goal at q hints at the goal at h
pub record HintsAt (p : Plan) (q h : ℕ) : Type 0 where
  pub reason : Reason
  pub at : slice_get p.reasons.items q ≡ Some reason
  pub among : Contains reason.hints.items h

-- the clauses of the goals that the goal's reason hints at have ids
abbrev pub AreHintsNamed : UnitTable → Plan → Written → ℕ → Type 0
AreHintsNamed t p w q = (h : ℕ) → HintsAt p q h → IsNamed t p w h

-- an id has the clause of the goal at q, and what stood before stands
pub record IsLineOf (t : UnitTable) (p : Plan) (old new : Written) (q id : ℕ) : Type 0 where
  pub written : AreLines t.formula.now p.rows new.steps
  pub has : (g : Goal) → slice_get p.goals.items q ≡ Some g
      → HasLine t.formula.now t.units.now p.rows new.steps g id
  pub kept : (g : Goal) (i : ℕ) → HasLine t.formula.now t.units.now p.rows old.steps g i
      → HasLine t.formula.now t.units.now p.rows new.steps g i
