use Rattle.std.proofs.Common.{arith}
use Rattle.definition_order.proofs.Declared.{declared_at}
use Rattle.gate_definitions.proofs.DeclaredPlaces.{number_range}
use Rattle.gate_definitions.proofs.outputs.output_at.Goals as goal

pub invariant_of-result-clause-existential : goal.invariant_of-result-clause-existential
invariant_of-result-clause-existential c = search (arith, declared_at)

pub invariant_of-result-clause-from_one : goal.invariant_of-result-clause-from_one
invariant_of-result-clause-from_one c =
    let there = declared_at c.args.f.now c.every_formula_is_lawful.ensures c.existentials.result.now c.args.place
    c.existentials.ensures c.requires in
    (number_range c.args.f.now c.every_formula_is_lawful.ensures _ there).0

pub invariant_of-result-clause-in_range : goal.invariant_of-result-clause-in_range
invariant_of-result-clause-in_range c =
    let there = declared_at c.args.f.now c.every_formula_is_lawful.ensures c.existentials.result.now c.args.place
    c.existentials.ensures c.requires in
    let most = (number_range c.args.f.now c.every_formula_is_lawful.ensures _ there).1 in
    omega (arith, most)
