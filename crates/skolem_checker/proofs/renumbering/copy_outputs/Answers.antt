use Rattle.std.proofs.Common.{ap, refl, arith}
use Rattle.std.specs.Prelude.{slice_index}
use Rattle.circuit_plain.specs.Netlist.{Netlist}
use Rattle.skolem_checker.proofs.CopySteps.{literal_known, literal_in_range, output_known, next_output_copied}
use Rattle.skolem_checker.proofs.renumbering.copy_outputs.Goals as goal

pub renumbered_literal-requires : goal.renumbered_literal-requires
renumbered_literal-requires c =
    let items = c.outputs-output-items.result.now in
    literal_known c.args.circuit.now c.args.known.now c.requires.known (slice_index items c.loop-output.output-index)
    (output_known c.args.circuit.now c.requires.complete items c.outputs-output-items.ensures c.loop-output.output-index
    c.loop-output-test.true)
    (slice_index items c.loop-output.output-index) refl

pub add_output-requires : goal.add_output-requires
add_output-requires c =
    let items = c.outputs-output-items.result.now in
    literal_in_range c.args.circuit.now c.args.known.now c.requires.known (slice_index items c.loop-output.output-index)
    (output_known c.args.circuit.now c.requires.complete items c.outputs-output-items.ensures c.loop-output.output-index
    c.loop-output-test.true)
    c.loop-output.copy (slice_index items c.loop-output.output-index) c.renumbered_literal.result refl
    c.renumbered_literal.ensures
    (ap (λ (n : Netlist). n.max_var) c.loop-output.invariant)

pub loop-output-preserved : goal.loop-output-preserved
loop-output-preserved c =
    search (
      arith,
      (next_output_copied c.args.circuit.now c.requires.complete),
      (output_known c.args.circuit.now c.requires.complete),
    )
