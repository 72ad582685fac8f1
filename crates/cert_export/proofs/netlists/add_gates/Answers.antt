use Rattle.std.proofs.Common.{◌*◌, ◌/◌, ◌++◌, [], ◌∷◌, ℕ, slice_index, ◌∙◌, ap, arith}
use Rattle.hint_log.specs.Entries.{name_of}
use Rattle.circuit_plain.proofs.NetlistParts.{gate_added}
use Rattle.cert_export.specs.CircuitPart.{circuit_renaming, exported_netlist, gate_of}
use Rattle.cert_export.specs.Parts.{part_of}
use Rattle.cert_export.proofs.FileGates.{gate_at_place, gate_may}
use Rattle.cert_export.proofs.netlists.add_gates.Goals as goal

pub add_gate-requires-clause-in_range : goal.add_gate-requires-clause-in_range
add_gate-requires-clause-in_range c =
    (gate_may c.args.f.now c.args.log.now.entries (part_of c.args.part.now) c.items.result.now c.loop-place.place
    c.loop-place.circuit c.file_gate-variable.result c.requires.can.netlist c.items.ensures
    (omega (arith, c.loop-place-test.true, c.len-place-end.ensures.value)) c.loop-place.invariant
    c.file_gate-variable.ensures.value).variable

pub add_gate-requires-clause-undefined : goal.add_gate-requires-clause-undefined
add_gate-requires-clause-undefined c =
    (gate_may c.args.f.now c.args.log.now.entries (part_of c.args.part.now) c.items.result.now c.loop-place.place
    c.loop-place.circuit c.file_gate-variable.result c.requires.can.netlist c.items.ensures
    (omega (arith, c.loop-place-test.true, c.len-place-end.ensures.value)) c.loop-place.invariant
    c.file_gate-variable.ensures.value).undefined

pub add_gate-requires-clause-a_in_range : goal.add_gate-requires-clause-a_in_range
add_gate-requires-clause-a_in_range c =
    (gate_may c.args.f.now c.args.log.now.entries (part_of c.args.part.now) c.items.result.now c.loop-place.place
    c.loop-place.circuit c.file_gate-variable.result c.requires.can.netlist c.items.ensures
    (omega (arith, c.loop-place-test.true, c.len-place-end.ensures.value)) c.loop-place.invariant
    c.file_gate-variable.ensures.value).left

pub add_gate-requires-clause-b_in_range : goal.add_gate-requires-clause-b_in_range
add_gate-requires-clause-b_in_range c =
    (gate_may c.args.f.now c.args.log.now.entries (part_of c.args.part.now) c.items.result.now c.loop-place.place
    c.loop-place.circuit c.file_gate-variable.result c.requires.can.netlist c.items.ensures
    (omega (arith, c.loop-place-test.true, c.len-place-end.ensures.value)) c.loop-place.invariant
    c.file_gate-variable.ensures.value).right

pub loop-place-preserved : goal.loop-place-preserved
loop-place-preserved c =
    let f = c.args.f.now in
    let entries = c.args.log.now.entries in
    let e = part_of c.args.part.now in
    let net = exported_netlist f entries e in
    let v = slice_index c.items.result.now c.loop-place.place in
    let g = gate_of (circuit_renaming f entries e) v (name_of entries v) in
    let there = gate_at_place f entries e c.items.result.now c.loop-place.place c.items.ensures
    (omega (arith, c.loop-place-test.true, c.len-place-end.ensures.value)) in
    let old = c.loop-place.circuit in
    gate_added net c.loop-place.place g old c.add_gate.new.self there.0 there.1 c.loop-place.invariant
    (c.in_ok-add_gate.ensures.ok
    ∙ ap (λ (r : ℕ × ℕ × ℕ). record {
      max_var = old.max_var;
      inputs = old.inputs;
      outputs = old.outputs;
      gates =
          old.gates ++ record { variable = 2 * r.0 / 2; left = r.1; right = r.2 } ∷ [];
    })
    c.file_gate-variable.ensures.value)
