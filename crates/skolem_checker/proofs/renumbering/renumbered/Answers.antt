use Rattle.std.proofs.Common.{sym}
use Rattle.skolem_checker.proofs.LeastCopies.{least_numbers_stay}
use Rattle.skolem_checker.proofs.renumbering.renumbered.Goals as goal

pub returns-then-has_least_numbers-clause-copy : goal.returns-then-has_least_numbers-clause-copy
returns-then-has_least_numbers-clause-copy c =
    sym (least_numbers_stay c.args.circuit.now c.every_circuit_is_a_netlist.ensures
    (c.has_least_numbers.ensures.0 c.if-has_least_numbers.true) c.requires)
