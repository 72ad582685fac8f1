use Rattle.std.proofs.Common.{sym, subst, [], List}
use Rattle.dq_lits.specs.Literal.{Literal}
use Rattle.learning_trail.specs.Resting.{HeldFit}
use Rattle.learning_trail.proofs.FitLogs.{held_first}
use Rattle.cdcl_scan.proofs.solvers.Scan.new.Goals as goal

pub returns : goal.returns
returns c = record { fit = subst (λ (cs : List (List Literal)). HeldFit cs [] 0 []) (sym c.new.ensures) held_first }
