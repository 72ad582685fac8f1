use Rattle.std.proofs.Common.{take}
use Rattle.lifted_proofs.specs.Goals.{clause_at, AreFalseUnits}
use Rattle.lifted_proofs.proofs.settling.false_units.Given as goal

abbrev pub invariant-loop-l : goal.invariant-loop-l
invariant-loop-l l =
    AreFalseUnits l.table.units.now l.goal.source.taken
    (take l.l-index (clause_at l.table.formula.now l.goal.source.place)) l.places
