use Rattle.std.proofs.Common.{take}
use Rattle.hint_log.proofs.ReachedIds.{IsWith}
use Rattle.hint_log.proofs.pending.Pending.insert_all.Given as goal

abbrev pub invariant-loop-number : goal.invariant-loop-number
invariant-loop-number l = IsWith l.initial.self l.self (take l.number-index l.numbers)
