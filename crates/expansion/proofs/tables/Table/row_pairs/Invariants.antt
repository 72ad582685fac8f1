use Rattle.std.proofs.Common.{◌≤◌, length}
use Rattle.expansion.proofs.NamedArbiters.{ArePairsSoFar}
use Rattle.expansion.proofs.tables.Table.row_pairs.Given as goal

abbrev pub invariant-loop-place : goal.invariant-loop-place
invariant-loop-place g l = (g.O.Oracle.Fits l.oracle l.log) ×
    (l.place ≤ length l.new.f.now.existentials) × ArePairsSoFar l.new.f.now l.self l.new.row.now l.place
    l.variables.items l.fn.log l.log
