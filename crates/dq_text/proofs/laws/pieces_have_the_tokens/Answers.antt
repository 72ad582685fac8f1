use Rattle.dq_text.proofs.PiecedTokens.{pieced_tokens}
use Rattle.dq_text.proofs.PiecedLines.{last_line_is}
use Rattle.dq_text.proofs.laws.pieces_have_the_tokens.Goals as goal

pub returns-clause-tokens : goal.returns-clause-tokens
returns-clause-tokens c = pieced_tokens

pub returns-clause-last_line : goal.returns-clause-last_line
returns-clause-last_line c = last_line_is
