use Rattle.std.proofs.Common.{◌≡◌, ◌+◌, ◌*◌, ◌/◌, length, subst, arith}
use Rattle.circuit_plain.specs.Netlist.{IsDefined}
use Rattle.aig_binary.proofs.Numbered.{fresh_gate}
use Rattle.aig_binary.proofs.Steps.{gates_go_on, gates_stop}
use Rattle.aig_binary.proofs.gates.take_gates.Goals as goal

pub returns-in_err-gate-clause-gates : goal.returns-in_err-gate-clause-gates
returns-in_err-gate-clause-gates c =
    search (
      arith,
      (gates_stop c.args.header.gates (c.args.header.inputs + 1) c.loop-i.i c.args.circuit.now c.loop-i.circuit c.args.deltas.now c.loop-i.deltas),
    )

pub add_gate-requires-clause-undefined : goal.add_gate-requires-clause-undefined
add_gate-requires-clause-undefined c =
    let net = c.loop-i.circuit in
    let first = c.args.header.inputs + 1 in
    let is = c.in_ok-gate.ensures.variable in
    let counted = c.loop-i.invariant.counted in
    let same : first + length net.gates ≡ 2 * c.in_ok-gate.gate.variable / 2 = omega arith in
    subst (λ v. ¬ IsDefined net v) same
    (fresh_gate net first c.loop-i.invariant.no_inputs c.loop-i.invariant.numbered)

pub loop-i-preserved : goal.loop-i-preserved
loop-i-preserved c =
    search (
      arith,
      (gates_go_on c.args.header.gates (c.args.header.inputs + 1) c.loop-i.i c.args.circuit.now c.loop-i.circuit c.add_gate.new.self c.in_ok-gate.gate c.args.deltas.now c.loop-i.deltas c.next_gate.new.deltas),
    )
