use Rattle.engine_cases.specs.Making.{AreMade}
use Rattle.engine_cases.proofs.forms.answered.Given as goal

abbrev pub invariant-loop-line : goal.invariant-loop-line
invariant-loop-line g l = g.O.Oracle.Fits l.oracle l.log × AreMade l.case.made l.log.entries
