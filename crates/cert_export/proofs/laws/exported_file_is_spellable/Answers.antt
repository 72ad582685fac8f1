use Rattle.cert_export.proofs.SpellableCircuits.{spellable}
use Rattle.cert_export.proofs.laws.exported_file_is_spellable.Goals as goal

pub returns : goal.returns
returns c f entries e file prefix small lawful given part circuit symbols few_variables few_outputs =
    spellable f entries e prefix small lawful given part c.numbers_are_names.ensures few_variables few_outputs file
    circuit symbols
