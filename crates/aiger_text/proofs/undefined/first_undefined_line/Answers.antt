use Rattle.std.proofs.Common.{sym}
use Rattle.aiger_text.specs.ReaderState.{body_of}
use Rattle.aiger_text.proofs.DefinedVariables.{none_undefined}
use Rattle.aiger_text.proofs.undefined.first_undefined_line.Goals as goal

pub returns-then-has_least_numbers : goal.returns-then-has_least_numbers
returns-then-has_least_numbers c =
    sym (none_undefined (body_of c.args.reader.now) c.every_circuit_is_a_netlist.ensures
    (c.has_least_numbers.ensures.0 c.if-has_least_numbers.true))
