use Rattle.std.proofs.Common.{◌≡◌, ◌<◌, ◌/◌, ◌*◌, ◌++◌, ◌∷◌, [], ◌∙◌, ℕ, length, get_or, sym, ap, subst, arith}
use Rattle.std.proofs.lemmas.List.{get_or_default}
use Rattle.circuit_plain.specs.Netlist.{Netlist, IsNetlist, IsDefined, gate_at}
use Rattle.circuit_plain.proofs.NetlistParts.{MayBeAdded, may_be_added, gate_added}
use Rattle.lifted_proofs.proofs.settled.add_gates.Goals as goal

at-place : (net : Netlist) (i : ℕ) → i < length net.gates → get_or net.gates i (gate_at net i) ≡ gate_at net i
at-place net i below = get_or_default net.gates i (gate_at net i) _ below

may : (net : Netlist) (i : ℕ) (t : ℕ × ℕ × ℕ) → IsNetlist net → i < length net.gates
    → t ≡ (2 * (gate_at net i).variable, (gate_at net i).left, (gate_at net i).right)
    → MayBeAdded net i t.0 t.1 t.2
may net i t lawful below is =
    subst (λ (r : ℕ × ℕ × ℕ). MayBeAdded net i r.0 r.1 r.2) (sym is)
    (may_be_added net lawful i (gate_at net i) below (at-place net i below))

pub add_gate-requires-clause-in_range : goal.add_gate-requires-clause-in_range
add_gate-requires-clause-in_range c = search arith

pub add_gate-requires-clause-undefined : goal.add_gate-requires-clause-undefined
add_gate-requires-clause-undefined c =
    let net = c.args.circuit.now in
    let it = may net c.loop-i.i c.gate-literal.result c.every_circuit_is_a_netlist.ensures
    (omega (arith, c.loop-i-test.true, c.gates-i-end.ensures)) c.gate-literal.ensures in
    λ defined. it.undefined (subst (λ (n : Netlist). IsDefined n (c.gate-literal.result.0 / 2))
    c.loop-i.invariant defined)

pub add_gate-requires-clause-a_in_range : goal.add_gate-requires-clause-a_in_range
add_gate-requires-clause-a_in_range c = search arith

pub add_gate-requires-clause-b_in_range : goal.add_gate-requires-clause-b_in_range
add_gate-requires-clause-b_in_range c = search arith

pub loop-i-preserved : goal.loop-i-preserved
loop-i-preserved c =
    let net = c.args.circuit.now in
    let i = c.loop-i.i in
    let gate = gate_at net i in
    let below : i < length net.gates = omega (arith, c.loop-i-test.true, c.gates-i-end.ensures) in
    let old = c.loop-i.settled in
    gate_added net i gate old c.add_gate.new.self below (at-place net i below) c.loop-i.invariant
    (c.in_ok-add_gate.ensures.ok
    ∙ ap (λ (r : ℕ × ℕ × ℕ). record old {
      gates = old.gates ++ record { variable = r.0 / 2; left = r.1; right = r.2 } ∷ [];
    }) c.gate-literal.ensures)
