use Rattle.std.proofs.Common.{arith}
use Rattle.planted_formulas.proofs.AddedGates.{gate_undeclared, gate_listed, gate_added, gate_few}
use Rattle.planted_formulas.proofs.formulas.add_gates.Goals as goal

pub add_listed-requires-clause-undeclared : goal.add_listed-requires-clause-undeclared
add_listed-requires-clause-undeclared c =
    gate_undeclared c.args.seed c.args.size c.loop-place.place c.loop-place.f c.draw_gate-gate.result
    c.loop-place.draws.state c.loop-place.invariant.formula c.draw_gate-gate.ensures.gate

pub add_listed-requires-clause-listed : goal.add_listed-requires-clause-listed
add_listed-requires-clause-listed c =
    gate_listed c.args.seed c.args.size c.loop-place.place c.loop-place.f c.draw_gate-gate.result
    c.loop-place.invariant.formula c.draw_gate-gate.ensures.left c.draw_gate-gate.ensures.right

pub add_clauses-requires-clause-few : goal.add_clauses-requires-clause-few
add_clauses-requires-clause-few c =
    let less = c.loop-place-test.true in
    let most = c.requires.most in
    gate_few c.args.seed c.args.size c.loop-place.place c.loop-place.f c.add_listed.new.self _
    c.loop-place.invariant.formula c.in_ok-add_listed.ensures.ok (omega (arith, less, most))

pub loop-place-preserved : goal.loop-place-preserved
loop-place-preserved c =
    let (formula, state) = gate_added c.args.seed c.args.size c.loop-place.place c.loop-place.f c.add_listed.new.self
    c.add_clauses.new.f c.draw_gate-gate.result
    c.loop-place.draws.state c.draw_gate-gate.new.draws.state c.loop-place.invariant.formula
    c.loop-place.invariant.state c.draw_gate-gate.ensures.gate
    c.draw_gate-gate.ensures.state c.in_ok-add_listed.ensures.ok c.in_ok-add_clauses.ensures in
    record { formula = formula; state = state; fits = c.draw_gate-gate.ensures.fits }
