use Rattle.std.proofs.Common.{◌≡◌, map, take}
use Rattle.expansion.proofs.tables.Table.points.Given as goal

abbrev pub invariant-loop-place : goal.invariant-loop-place
invariant-loop-place g l = l.bits ≡ map (map (g.O.Oracle.values l.oracle)) (take l.place l.self.pairs)
