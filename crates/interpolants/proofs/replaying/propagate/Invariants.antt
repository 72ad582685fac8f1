use Rattle.std.proofs.Common.{map}
use Rattle.dq_lits.specs.Literal.{opposite}
use Rattle.hint_log.specs.Entries.{clause_at}
use Rattle.interpolants.specs.Replay.{IsReplaying}
use Rattle.interpolants.proofs.replaying.propagate.Given as goal

abbrev pub invariant-loop-hint : goal.invariant-loop-hint
invariant-loop-hint l = IsReplaying (clause_at l.log.entries)
    (map opposite l.clause) l.hints l.hint-index l.trues l.chain
