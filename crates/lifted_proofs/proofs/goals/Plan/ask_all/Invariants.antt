use Rattle.std.proofs.Common.{take}
use Rattle.lifted_proofs.proofs.SettledGoals.{AskSoFar}
use Rattle.lifted_proofs.proofs.goals.Plan.ask_all.Given as goal

abbrev pub invariant-loop-j : goal.invariant-loop-j
invariant-loop-j l = AskSoFar l.table l.initial.self l.self l.lowered (take l.j-index l.places) l.hints.items
