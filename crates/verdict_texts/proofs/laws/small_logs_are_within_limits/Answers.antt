use Rattle.verdict_texts.proofs.Counts.{small_within}
use Rattle.verdict_texts.proofs.laws.small_logs_are_within_limits.Goals as goal

pub returns : goal.returns
returns c = small_within c.deletions_are_allowed.ensures
