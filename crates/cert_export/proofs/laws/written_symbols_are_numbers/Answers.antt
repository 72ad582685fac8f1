use Rattle.cert_export.proofs.SpellableCircuits.{written_symbols_are_numbers}
use Rattle.cert_export.proofs.laws.written_symbols_are_numbers.Goals as goal

pub returns : goal.returns
returns c = written_symbols_are_numbers
