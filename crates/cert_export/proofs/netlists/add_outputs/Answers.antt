use Rattle.std.proofs.Common.{sym, ◌∙◌, ap, subst, ℕ, ◌++◌, [], ◌∷◌, slice_index}
use Rattle.circuit_plain.specs.Netlist.{Netlist, IsLiteral}
use Rattle.circuit_plain.proofs.NetlistParts.{output_added}
use Rattle.cert_export.specs.CircuitPart.{circuit_renaming, exported_netlist, leaf_code}
use Rattle.cert_export.specs.FaultLeaves.{leaf_of, or_false}
use Rattle.cert_export.specs.Netlists.{IsLeafNamed}
use Rattle.cert_export.specs.Parts.{part_of}
use Rattle.cert_export.proofs.FileGates.{leaf_named, output_at_place}
use Rattle.cert_export.proofs.netlists.add_outputs.Goals as goal

pub leaf_number-requires-clause-named : goal.leaf_number-requires-clause-named
leaf_number-requires-clause-named c =
    let f = c.args.f.now in
    let entries = c.args.log.now.entries in
    let part = c.args.part.now in
    let there = output_at_place f entries part.group part.gates part.leaves c.existentials-y-items.result.now
    c.loop-y.y-index c.existentials-y-items.ensures c.loop-y-test.true in
    subst (IsLeafNamed entries) (sym (c.get.ensures ∙ there.2))
    (leaf_named f entries (part_of part) c.requires.can.part c.loop-y.y-index there.0 there.1)

pub add_output-requires : goal.add_output-requires
add_output-requires c =
    let f = c.args.f.now in
    let entries = c.args.log.now.entries in
    let part = c.args.part.now in
    let there = output_at_place f entries part.group part.gates part.leaves c.existentials-y-items.result.now
    c.loop-y.y-index c.existentials-y-items.ensures c.loop-y-test.true in
    let net = exported_netlist f entries (part_of part) in
    let code = leaf_code (circuit_renaming f entries (part_of part))
    (or_false (leaf_of part.leaves (slice_index c.existentials-y-items.result.now c.loop-y.y-index))) in
    let fits : IsLiteral net.max_var code = subst (IsLiteral net.max_var) there.4
    (c.requires.can.netlist.outputs_fit c.loop-y.y-index code there.3) in
    subst (λ (n : Netlist). IsLiteral n.max_var c.leaf_number.result) (sym c.loop-y.invariant)
    (subst (IsLiteral net.max_var) (sym (c.leaf_number.ensures ∙ ap
    (leaf_code (circuit_renaming f entries (part_of part))) c.get.ensures)) fits)

pub loop-y-preserved : goal.loop-y-preserved
loop-y-preserved c =
    let f = c.args.f.now in
    let entries = c.args.log.now.entries in
    let part = c.args.part.now in
    let there = output_at_place f entries part.group part.gates part.leaves c.existentials-y-items.result.now
    c.loop-y.y-index c.existentials-y-items.ensures c.loop-y-test.true in
    let net = exported_netlist f entries (part_of part) in
    let code = leaf_code (circuit_renaming f entries (part_of part))
    (or_false (leaf_of part.leaves (slice_index c.existentials-y-items.result.now c.loop-y.y-index))) in
    let old = c.loop-y.circuit in
    output_added net c.loop-y.y-index code old c.add_output.new.self there.3 there.4 c.loop-y.invariant
    (c.in_ok-add_output.ensures.ok
    ∙ ap (λ (l : ℕ). record {
      max_var = old.max_var;
      inputs = old.inputs;
      outputs = old.outputs ++ l ∷ [];
      gates =
          old.gates;
    }) (c.leaf_number.ensures ∙ ap (leaf_code (circuit_renaming f entries (part_of part))) c.get.ensures))
