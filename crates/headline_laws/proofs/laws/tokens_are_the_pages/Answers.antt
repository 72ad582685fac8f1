use Rattle.dq_text.specs.Token.{tokens_of}
use Rattle.headline_laws.proofs.Tokens.{tokens_are}
use Rattle.headline_laws.proofs.laws.tokens_are_the_pages.Goals as goal

pub returns : goal.returns
returns c text = tokens_are text (tokens_of text) (c.tokens_are_those_of_lines.ensures text)
