use Rattle.std.proofs.Common.{◌≡◌, take}
use Rattle.proof_checker.proofs.tables.places.Given as goal

abbrev pub invariant-loop-variable : goal.invariant-loop-variable
invariant-loop-variable l = l.known ≡ take l.variable-index l.variables
