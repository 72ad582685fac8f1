use Rattle.std.proofs.Common.{ℕ, List, length}
use Rattle.dq_lits.specs.Literal.{Literal}
use Rattle.hint_log.specs.Entries.{clause_at}
use Rattle.interpolants.specs.Parts.{HaveParts}
use Rattle.interpolants.specs.Replay.{IsReplay}
use Rattle.interpolants.specs.Splits.{partition_of, local_of}
use Rattle.interpolants.proofs.ResolvedHints.{IsResolving}
use Rattle.interpolants.proofs.lines.resolve.Given as goal

abbrev pub invariant-loop-link : goal.invariant-loop-link
invariant-loop-link l =
    (first : List Literal) (hints : List ℕ) → HaveParts (partition_of l.split)
    (local_of l.split) l.fn.graph l.notes hints
    → IsReplay (clause_at l.split.log.now.entries) first hints l.fn.chain l.last →
    IsResolving (partition_of l.split) (local_of l.split) first hints l.fn.graph l.graph l.chain l.node

abbrev pub decreases-loop-link : goal.decreases-loop-link
decreases-loop-link l = length l.chain
