use Rattle.dq_text.proofs.TokenLines.{tokens_of_lines}
use Rattle.dq_text.proofs.laws.tokens_are_those_of_lines.Goals as goal

pub returns : goal.returns
returns c = tokens_of_lines
