use Rattle.std.proofs.Common.{reverse, subst, arith}
use Rattle.std.specs.Prelude.{IfOk}
use Rattle.lifted_proofs.specs.LiftedCircuits.{AreLiftedLines}
use Rattle.lifted_proofs.specs.Liftings.{formula_of, units_of}
use Rattle.lifted_proofs.proofs.circuits.lifted_lines.Goals as goal

pub lines_by-requires-clause-allowed : goal.lines_by-requires-clause-allowed
lines_by-requires-clause-allowed c = search arith

pub lines_by-requires-clause-derives : goal.lines_by-requires-clause-derives
lines_by-requires-clause-derives c = search arith

pub returns : goal.returns
returns c =
    let l = c.in_ok-lifting.lifting in
    let it = c.in_ok-lifting.ensures in
    subst (λ t. IfOk c.lines_by.result (AreLiftedLines t.formula.now (reverse t.units.now) c.args.bench.now)) it.table
    (subst (λ b. IfOk c.lines_by.result (AreLiftedLines (formula_of l) (units_of l) b)) it.bench c.lines_by.ensures)
