use Rattle.std.proofs.Common.{◌≡◌, ℕ, ◌*◌, ◌/◌, ◌<◌, length, ap, arith}
use Rattle.circuit_plain.specs.Netlist.{gate_at}
use Rattle.pec_front.proofs.Variables.{next-new, next-pushed}
use Rattle.pec_front.proofs.wires.variables_of.Goals as goal

pub push-requires : goal.push-requires
push-requires c =
    let net = c.args.circuit.now in
    let i : ℕ = c.loop-i.i in
    let below : i < length net.gates = omega arith in
    let lhs : c.gate-lhs.result.0 ≡ 2 * (gate_at net i).variable = ap (λ (t : ℕ × ℕ × ℕ). t.0) c.gate-lhs.ensures in
    next-new net c.every_circuit_is_a_netlist.ensures i below c.loop-i.variables c.loop-i.invariant
    (c.gate-lhs.result.0 / 2) (omega (arith, lhs))

pub loop-i-preserved : goal.loop-i-preserved
loop-i-preserved c = search (arith, next-pushed)
