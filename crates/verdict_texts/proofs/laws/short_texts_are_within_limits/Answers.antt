use Rattle.verdict_texts.proofs.ShortTexts.{short_within}
use Rattle.verdict_texts.proofs.laws.short_texts_are_within_limits.Goals as goal

pub returns : goal.returns
returns c = short_within
