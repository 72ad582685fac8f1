use Rattle.std.proofs.Common.{◌≡◌, ◌+◌, ◌<◌, length, sym, ap, subst, arith}
use Rattle.dq_lits.specs.Formula.{Dqbf}
use Rattle.pec_front.specs.Numbering.{number_in}
use Rattle.pec_front.proofs.EncoderSteps.{gate-within, gates-next, gates-all}
use Rattle.pec_front.proofs.RaisedLevels.{no-gate}
use Rattle.pec_front.proofs.encoders.add_gates.Goals as goal

pub add_gate-requires-clause-within : goal.add_gate-requires-clause-within
add_gate-requires-clause-within c =
    let n = c.args.numbering.now in
    let net = n.circuit.now in
    let i = c.loop-i.i in
    let below : i < length net.gates = omega arith in
    gate-within net (number_in n) c.loop-i.f.variables c.every_circuit_is_a_netlist.ensures
    (λ v ground. subst (λ k. number_in n v < k + 1) (sym (ap (λ (f : Dqbf). f.variables) c.loop-i.invariant.clauses))
    (c.requires.within v ground))
    i below (c.requires.grounded i no-gate below) c.gate.result c.gate.ensures

pub loop-i-preserved : goal.loop-i-preserved
loop-i-preserved c =
    let n = c.args.numbering.now in
    let net = n.circuit.now in
    let i = c.loop-i.i in
    let below : i < length net.gates = omega arith in
    gates-next net (number_in n) c.args.f.now c.loop-i.f c.add_gate.new.f i c.gate.result below c.loop-i.invariant
    c.gate.ensures c.in_ok-add_gate.ensures.clauses c.in_ok-add_gate.ensures.few

pub returns : goal.returns
returns c =
    let n = c.args.numbering.now in
    let net = n.circuit.now in
    let all : c.loop-i.i ≡ length net.gates = omega arith in
    gates-all net (number_in n) c.args.f.now c.loop-i.f c.loop-i.i all c.loop-i.invariant
