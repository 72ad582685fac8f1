use Rattle.cert_text.proofs.SpelledItems.{item_spelled}
use Rattle.cert_text.proofs.SpelledRows.{row_spelled}
use Rattle.cert_text.proofs.laws.lines_are_lawful.Goals as goal

pub returns-clause-item : goal.returns-clause-item
returns-clause-item c version p n tokens item read = (item_spelled version p n tokens item read).lawful

pub returns-clause-row : goal.returns-clause-row
returns-clause-row c universals tokens row read = (row_spelled universals tokens row read).whole
