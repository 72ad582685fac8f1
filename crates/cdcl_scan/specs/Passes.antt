-- What a pass of propagation comes to.
use Rattle.std.specs.Prelude.{◌≡◌, ℕ, suc, ◌≤◌, ◌<◌, length}
use Rattle.dq_lits.specs.Derivation.{LiveClauses, status_of, falsified, stuck}
use Rattle.hint_log.specs.ProductiveLog.{IsClosed}
use Rattle.cdcl_scan.specs.declared.passes.Pass.{Pass}
use Rattle.cdcl_scan.specs.declared.passes.Pass.TheVariants.{Conflict, More, Quiet}
use Rattle.learning_trail.specs.Steps.{Trailed, literals_of}

abbrev pub IsPassed : LiveClauses → Trailed → Trailed → Pass → Type 0
IsPassed live old new (Conflict id) = status_of (literals_of new.steps) (live id) ≡ falsified
IsPassed live old new More = length old.steps < length new.steps
IsPassed live old new Quiet = IsClosed live (literals_of new.steps)

-- the same of the clauses behind the first ones, up to the last
abbrev pub IsRunPassed : LiveClauses → Trailed → Trailed → ℕ → ℕ → Pass → Type 0
IsRunPassed live old new first last (Conflict id) =
    status_of (literals_of new.steps) (live id) ≡ falsified
IsRunPassed live old new first last More = length old.steps < length new.steps
IsRunPassed live old new first last Quiet =
    (new ≡ old)
    × ((j : ℕ) → first ≤ j → j < last → status_of (literals_of new.steps) (live (suc j)) ≡ stuck)
