use Rattle.std.proofs.Common.{◌≤◌, length}
use Rattle.expansion.proofs.GivenInstances.{AreGivenSoFar}
use Rattle.expansion.proofs.tables.Table.give_instances.Given as goal

abbrev pub invariant-loop-j : goal.invariant-loop-j
invariant-loop-j g l = (g.O.Oracle.Fits l.oracle l.log) × (l.j ≤ length l.new.f.now.matrix) × AreGivenSoFar l.new.f.now
    l.self l.new.row.now l.new.variables.now l.j l.fn.log l.log
