use Rattle.std.proofs.Common.{◌/◌, ◌++◌, ◌∷◌, [], ◌∙◌, ℕ, sym, ap, subst, arith}
use Rattle.circuit_plain.specs.Netlist.{Netlist, IsDefined, gate_at}
use Rattle.circuit_plain.proofs.NetlistParts.{MayBeAdded, may_be_added, gate_added}
use Rattle.ordered_gates.specs.Circuits.{ordered_gate, ordered_netlist}
use Rattle.ordered_gates.proofs.AddedParts.{gate_there}
use Rattle.ordered_gates.proofs.OrderedNetlists.{ordered_is_netlist}
use Rattle.ordered_gates.proofs.circuits.add_gates.Goals as goal

pub add_gate-requires-clause-undefined : goal.add_gate-requires-clause-undefined
add_gate-requires-clause-undefined c =
    let net = c.args.circuit.now in
    let i = c.loop-i.i in
    let gate = ordered_gate (gate_at net i) in
    let is = gate_there net i (omega (arith, c.loop-i-test.true, c.gates-i-end.ensures)) in
    let may = subst (λ (r : ℕ × ℕ × ℕ). MayBeAdded (ordered_netlist net) i r.0 r.1 r.2)
    (sym c.ordered_sides-literal.ensures)
    (may_be_added (ordered_netlist net) (ordered_is_netlist net c.every_circuit_is_a_netlist.ensures) i gate is.0
    is.1) in
    λ defined. may.undefined (subst (λ (n : Netlist). IsDefined n (c.ordered_sides-literal.result.0 / 2))
    c.loop-i.invariant defined)

pub loop-i-preserved : goal.loop-i-preserved
loop-i-preserved c =
    let net = c.args.circuit.now in
    let i = c.loop-i.i in
    let gate = ordered_gate (gate_at net i) in
    let is = gate_there net i (omega (arith, c.loop-i-test.true, c.gates-i-end.ensures)) in
    let old = c.loop-i.ordered in
    gate_added (ordered_netlist net) i gate old c.add_gate.new.self is.0 is.1 c.loop-i.invariant
    (c.in_ok-add_gate.ensures.ok
    ∙ ap (λ (r : ℕ × ℕ × ℕ). record old {
      gates = old.gates ++ record { variable = r.0 / 2; left = r.1; right = r.2 } ∷ [];
    }) c.ordered_sides-literal.ensures)
