use Rattle.std.proofs.Common.{arith}
use Rattle.cert_export.proofs.NumberNames.{next_unnamed, outputs_more}
use Rattle.cert_export.proofs.symbols.name_outputs.Goals as goal

pub add_output-requires : goal.add_output-requires
add_output-requires c = search (arith, next_unnamed)

pub loop-place-preserved : goal.loop-place-preserved
loop-place-preserved c =
    search (
      arith,
      (outputs_more c.args.symbols.now c.loop-place.symbols c.add_output.new.self c.args.variables.now c.loop-place.place 0 c.in_ok-name.name c.in_ok-name.ensures c.loop-place-test.true c.loop-place.invariant c.in_ok-add_output.ensures.ok),
    )
