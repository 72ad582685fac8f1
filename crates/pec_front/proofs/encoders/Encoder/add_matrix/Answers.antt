use Rattle.std.proofs.Common.{◌≡◌, ◌+◌, ◌*◌, length, ◌∙◌, ap, arith}
use Rattle.list_laws.proofs.Results.{on_ok}
use Rattle.dq_lits.specs.Formula.{Dqbf}
use Rattle.pec_front.specs.Encoding.{signals_of, end_of, specified_variable, implemented_variable}
use Rattle.pec_front.proofs.EncoderSteps.{numbers-within, matrix-built}
use Rattle.pec_front.proofs.WellFormed.{spec-small, imp-small}
use Rattle.pec_front.proofs.encoders.Encoder.add_matrix.Goals as goal

pub add_gates-requires-clause-grounded : goal.add_gates-requires-clause-grounded
add_gates-requires-clause-grounded c = search arith

pub add_gates-requires-clause-within : goal.add_gates-requires-clause-within
add_gates-requires-clause-within c =
    let d = c.args.self.now.design.now in
    let many = c.requires.variables in
    let end : end_of d ≡ c.args.f.now.variables + 1 = omega (arith, many) in
    numbers-within c.args.self.now.specified d.specification (specified_variable d) (end_of d) c.args.f.now.variables
    c.requires.encoder.specified (spec-small d) end

pub add_gates-requires-2-clause-grounded : goal.add_gates-requires-2-clause-grounded
add_gates-requires-2-clause-grounded c = search arith

pub add_gates-requires-2-clause-within : goal.add_gates-requires-2-clause-within
add_gates-requires-2-clause-within c =
    let d = c.args.self.now.design.now in
    let many = ap (λ (f : Dqbf). f.variables) c.in_ok-add_gates.ensures.clauses ∙ c.requires.variables in
    let end : end_of d ≡ c.add_gates.new.f.variables + 1 = omega (arith, many) in
    numbers-within c.args.self.now.implemented d.implementation (implemented_variable d) (end_of d)
    c.add_gates.new.f.variables c.requires.encoder.implemented
    (imp-small d c.every_design_is_lawful.ensures.is_design) end

pub returns : goal.returns
returns c =
    let e = c.args.self.now in
    let d = e.design.now in
    on_ok c.add_demands.result
    (matrix-built e d c.requires.encoder c.args.f.now c.add_gates.new.f c.add_gates-2.new.f c.add_copies.new.f
    c.add_outputs.new.f c.add_demands.new.f (3 * length e.specified.circuit.now.gates)
    (3 * length e.implemented.circuit.now.gates) (4 * signals_of d) (4 * length d.specification.outputs)
    (length d.specification.outputs) c.requires.none c.in_ok-add_gates.ensures c.in_ok-add_gates-2.ensures
    c.in_ok-add_copies.ensures c.in_ok-add_outputs.ensures)
    c.add_demands.ensures
