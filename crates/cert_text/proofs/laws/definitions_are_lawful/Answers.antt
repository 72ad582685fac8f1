use Rattle.cert_text.proofs.SpelledDefinitions.{block_read, read_is_spelled}
use Rattle.cert_text.proofs.laws.definitions_are_lawful.Goals as goal

pub returns-clause-block : goal.returns-clause-block
returns-clause-block c f y lines number r read = (block_read f y lines number r read).lawful

pub returns-clause-text : goal.returns-clause-text
returns-clause-text c f text first blocks read = (read_is_spelled text first f blocks read).allowed
