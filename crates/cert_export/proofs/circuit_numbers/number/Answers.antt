use Rattle.std.proofs.Common.{length, ap, arith}
use Rattle.cert_export.proofs.SmallNumbers.{place_one, numbers_small, clause_small}
use Rattle.cert_export.proofs.circuit_numbers.number.Goals as goal

pub behind-requires-clause-few : goal.behind-requires-clause-few
behind-requires-clause-few c = omega (arith, c.requires.small.few_inputs, ap length c.universals.ensures)

pub behind-requires-then-group-part-clause-few : goal.behind-requires-then-group-part-clause-few
behind-requires-then-group-part-clause-few c = search arith

pub behind-requires-then-group-part-clause-range : goal.behind-requires-then-group-part-clause-range
behind-requires-then-group-part-clause-range c = search (arith, clause_small)

pub returns-in-Input-clause-value : goal.returns-in-Input-clause-value
returns-in-Input-clause-value c = search (arith, place_one)

pub returns-in-Input-clause-range : goal.returns-in-Input-clause-range
returns-in-Input-clause-range c = search (arith, numbers_small, place_one)
