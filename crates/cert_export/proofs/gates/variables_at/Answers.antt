use Rattle.std.proofs.Common.{◌+◌, sym, subst, arith}
use Rattle.cert_export.proofs.ListedGates.{AreVariablesSoFar, one_variable_more, variable_is_new}
use Rattle.cert_export.proofs.gates.variables_at.Goals as goal

pub push-requires : goal.push-requires
push-requires c =
    search (
      arith,
      (variable_is_new c.args.log.now.entries c.args.places.now c.loop-place.variables c.loop-place.place-index c.name_at.result.0 c.name_at.result.1 c.every_log_is_lawful.ensures c.requires.ascending c.loop-place-test.true c.loop-place.invariant c.name_at.ensures),
    )

pub loop-place-preserved : goal.loop-place-preserved
loop-place-preserved c =
    let i = c.loop-place.place-index in
    subst (λ vs. AreVariablesSoFar c.args.log.now.entries c.args.places.now vs (i + 1)) (sym c.in_ok-push.ensures.ok)
    (one_variable_more c.args.log.now.entries c.args.places.now c.loop-place.variables i c.name_at.result.0
    c.name_at.result.1 c.loop-place.invariant c.name_at.ensures)
