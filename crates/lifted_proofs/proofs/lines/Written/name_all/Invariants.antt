use Rattle.std.proofs.Common.{take}
use Rattle.std.specs.List.{Contains}
use Rattle.lifted_proofs.specs.Written.{AreWritten, IsNamed}
use Rattle.lifted_proofs.specs.declared.turns.Turn.{Turn}
use Rattle.lifted_proofs.proofs.lines.Written.name_all.Given as goal

abbrev pub invariant-loop-turn : goal.invariant-loop-turn
invariant-loop-turn l =
    AreWritten l.table l.plan l.self
    × ((t : Turn) → Contains (take l.turn-index l.order) t → IsNamed l.table l.plan l.self t.goal)
