use Rattle.std.proofs.Common.{◌≡◌, ◌<◌, ◌≤◌, ◌∙◌, ℕ, List, reverse, length, sym, ap, subst, arith}
use Rattle.std.proofs.lemmas.List.{get_or_default, take_all}
use Rattle.circuit_plain.specs.Netlist.{Netlist}
use Rattle.dq_lits.specs.Literal.{Literal}
use Rattle.dq_prep.specs.Units.{taken_literals}
use Rattle.lifted_proofs.specs.SettledCircuits.{settled_outputs, settled_netlist}
use Rattle.circuit_plain.proofs.NetlistParts.{output_added}
use Rattle.lifted_proofs.proofs.LiftedNames.{outputs-enough}
use Rattle.lifted_proofs.proofs.SettledOutputs.{as-long, settled-at}
use Rattle.lifted_proofs.proofs.settled.add_outputs.Goals as goal

pub loop-place-preserved : goal.loop-place-preserved
loop-place-preserved c =
    let t = c.args.table.now in
    let net = c.args.bench.now.circuit.netlist in
    let mapping = c.args.bench.now.circuit.mapping in
    let trues : List Literal = taken_literals (reverse t.units.now) in
    let place = c.loop-place.place in
    let out = c.output_at-out.result in
    let read : c.outputs-place-end.result.now ≡ net.outputs =
    c.outputs-place-end.ensures ∙ ap (λ (n : Netlist). n.outputs) c.circuit-circuit.ensures in
    let below : place < length net.outputs = subst (λ xs. place < length xs) read c.loop-place-test.true in
    let enough = outputs-enough t net mapping place c.requires.mapped below in
    let inside : place < length (settled_outputs trues mapping.outputs net.outputs) = omega (arith, below, as-long trues mapping.outputs net.outputs) in
    output_added (settled_netlist trues mapping.outputs net) place out c.loop-place.settled c.add_output.new.self inside
    (get_or_default (settled_outputs trues mapping.outputs net.outputs) place out 0 inside
    ∙ settled-at trues mapping.outputs net.outputs place enough below ∙ sym c.output_at-out.ensures)
    c.loop-place.invariant c.in_ok-add_output.ensures.ok

pub returns : goal.returns
returns c =
    let net = c.args.bench.now.circuit.netlist in
    let mapping = c.args.bench.now.circuit.mapping in
    let trues : List Literal = taken_literals (reverse c.args.table.now.units.now) in
    let outs : List ℕ = settled_outputs trues mapping.outputs net.outputs in
    let read : c.outputs-place-end.result.now ≡ net.outputs =
    c.outputs-place-end.ensures ∙ ap (λ (n : Netlist). n.outputs) c.circuit-circuit.ensures in
    let past : length net.outputs ≤ c.loop-place.place =
    subst (λ xs. length xs ≤ c.loop-place.place) read c.loop-place-test.false in
    c.loop-place.invariant
    ∙ ap (λ os. record net { outputs = os }) (take_all c.loop-place.place outs (omega (arith, past, as-long trues mapping.outputs net.outputs)))
