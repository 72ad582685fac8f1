use Rattle.std.proofs.Common.{ℕ, ◌<◌, ◌*◌, length, ap, arith}
use Rattle.circuit_plain.specs.Netlist.{Netlist, gate_at}
use Rattle.skolem_checker.proofs.CopySteps.{literal_known, literal_is, literal_in_range, gate_variable_known, gate_sides_known, next_gate_in_range, next_gate_undefined}
use Rattle.skolem_checker.proofs.renumbering.copy_gates.Goals as goal

pub renumbered_literal-new_lhs-requires : goal.renumbered_literal-new_lhs-requires
renumbered_literal-new_lhs-requires c =
    let net = c.args.circuit.now in
    let j : ℕ = c.loop-i.i in
    let below : j < length net.gates = omega (arith, c.loop-i-test.true, c.gates-i-end.ensures) in
    literal_known net c.args.known.now c.requires.known (2 * (gate_at net j).variable)
    (gate_variable_known net c.every_circuit_is_a_netlist.ensures c.requires.complete j below)
    c.gate-lhs.result.0 (ap (λ (t : ℕ × ℕ × ℕ). t.0) c.gate-lhs.ensures)

pub renumbered_literal-new_left-requires : goal.renumbered_literal-new_left-requires
renumbered_literal-new_left-requires c =
    let net = c.args.circuit.now in
    let j : ℕ = c.loop-i.i in
    let below : j < length net.gates = omega (arith, c.loop-i-test.true, c.gates-i-end.ensures) in
    literal_known net c.args.known.now c.requires.known (gate_at net j).left
    (gate_sides_known net c.every_circuit_is_a_netlist.ensures c.requires.complete j below).0
    c.gate-lhs.result.1 (ap (λ (t : ℕ × ℕ × ℕ). t.1) c.gate-lhs.ensures)

pub renumbered_literal-new_right-requires : goal.renumbered_literal-new_right-requires
renumbered_literal-new_right-requires c =
    let net = c.args.circuit.now in
    let j : ℕ = c.loop-i.i in
    let below : j < length net.gates = omega (arith, c.loop-i-test.true, c.gates-i-end.ensures) in
    literal_known net c.args.known.now c.requires.known (gate_at net j).right
    (gate_sides_known net c.every_circuit_is_a_netlist.ensures c.requires.complete j below).1
    c.gate-lhs.result.2 (ap (λ (t : ℕ × ℕ × ℕ). t.2) c.gate-lhs.ensures)

pub add_gate-requires-clause-in_range : goal.add_gate-requires-clause-in_range
add_gate-requires-clause-in_range c =
    let net = c.args.circuit.now in
    let j : ℕ = c.loop-i.i in
    let below : j < length net.gates = omega (arith, c.loop-i-test.true, c.gates-i-end.ensures) in
    next_gate_in_range net c.every_circuit_is_a_netlist.ensures c.requires.complete j below c.loop-i.copy
    c.loop-i.invariant c.renumbered_literal-new_lhs.result
    (literal_is net c.args.known.now c.requires.known (2 * (gate_at net j).variable)
    (gate_variable_known net c.every_circuit_is_a_netlist.ensures c.requires.complete j below)
    c.gate-lhs.result.0 c.renumbered_literal-new_lhs.result (ap (λ (t : ℕ × ℕ × ℕ). t.0) c.gate-lhs.ensures)
    c.renumbered_literal-new_lhs.ensures)

pub add_gate-requires-clause-undefined : goal.add_gate-requires-clause-undefined
add_gate-requires-clause-undefined c =
    let net = c.args.circuit.now in
    let j : ℕ = c.loop-i.i in
    let below : j < length net.gates = omega (arith, c.loop-i-test.true, c.gates-i-end.ensures) in
    next_gate_undefined net c.every_circuit_is_a_netlist.ensures c.requires.complete j below c.loop-i.copy
    c.loop-i.invariant c.renumbered_literal-new_lhs.result
    (literal_is net c.args.known.now c.requires.known (2 * (gate_at net j).variable)
    (gate_variable_known net c.every_circuit_is_a_netlist.ensures c.requires.complete j below)
    c.gate-lhs.result.0 c.renumbered_literal-new_lhs.result (ap (λ (t : ℕ × ℕ × ℕ). t.0) c.gate-lhs.ensures)
    c.renumbered_literal-new_lhs.ensures)

pub add_gate-requires-clause-a_in_range : goal.add_gate-requires-clause-a_in_range
add_gate-requires-clause-a_in_range c =
    let net = c.args.circuit.now in
    let j : ℕ = c.loop-i.i in
    let below : j < length net.gates = omega (arith, c.loop-i-test.true, c.gates-i-end.ensures) in
    literal_in_range net c.args.known.now c.requires.known (gate_at net j).left
    (gate_sides_known net c.every_circuit_is_a_netlist.ensures c.requires.complete j below).0 c.loop-i.copy
    c.gate-lhs.result.1 c.renumbered_literal-new_left.result
    (ap (λ (t : ℕ × ℕ × ℕ). t.1) c.gate-lhs.ensures) c.renumbered_literal-new_left.ensures
    (ap (λ (n : Netlist). n.max_var) c.loop-i.invariant)

pub add_gate-requires-clause-b_in_range : goal.add_gate-requires-clause-b_in_range
add_gate-requires-clause-b_in_range c =
    let net = c.args.circuit.now in
    let j : ℕ = c.loop-i.i in
    let below : j < length net.gates = omega (arith, c.loop-i-test.true, c.gates-i-end.ensures) in
    literal_in_range net c.args.known.now c.requires.known (gate_at net j).right
    (gate_sides_known net c.every_circuit_is_a_netlist.ensures c.requires.complete j below).1 c.loop-i.copy
    c.gate-lhs.result.2 c.renumbered_literal-new_right.result
    (ap (λ (t : ℕ × ℕ × ℕ). t.2) c.gate-lhs.ensures) c.renumbered_literal-new_right.ensures
    (ap (λ (n : Netlist). n.max_var) c.loop-i.invariant)
