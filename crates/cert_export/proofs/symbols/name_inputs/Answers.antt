use Rattle.std.proofs.Common.{arith}
use Rattle.cert_export.proofs.NumberNames.{next_unnamed, inputs_more}
use Rattle.cert_export.proofs.symbols.name_inputs.Goals as goal

pub add_input-requires : goal.add_input-requires
add_input-requires c = search (arith, next_unnamed)

pub loop-place-preserved : goal.loop-place-preserved
loop-place-preserved c =
    search (
      arith,
      (inputs_more c.args.symbols.now c.loop-place.symbols c.add_input.new.self c.args.variables.now c.loop-place.place 0 c.in_ok-name.name c.in_ok-name.ensures c.loop-place-test.true c.loop-place.invariant c.in_ok-add_input.ensures.ok),
    )
