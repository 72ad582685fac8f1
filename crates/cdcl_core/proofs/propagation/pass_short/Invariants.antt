use Rattle.std.proofs.Common.{take}
use Rattle.cdcl_core.specs.Visits.{IsPassing}
use Rattle.cdcl_core.proofs.propagation.pass_short.Given as goal

abbrev pub invariant-loop-id : goal.invariant-loop-id
invariant-loop-id l = IsPassing l.arena.clauses l.fn.trail l.trail (take l.id-index l.short)
