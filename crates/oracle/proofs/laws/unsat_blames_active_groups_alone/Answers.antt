use Rattle.std.proofs.Common.{subst}
use Rattle.dq_lits.specs.Literal.{negative}
use Rattle.hint_log.specs.Deciding.{KeepsSelectors}
use Rattle.hint_log.specs.Entries.{ProofLog}
use Rattle.oracle.proofs.laws.unsat_blames_active_groups_alone.Goals as goal

pub returns : goal.returns
returns c = λ old new assumptions id searched refuted origin group rest reached.
    refuted.negated (negative group) ((subst (λ (l : ProofLog). KeepsSelectors l.entries) refuted.answered
    searched.kept).0 origin group rest reached)
