use Rattle.std.proofs.Common.{refl}
use Rattle.definition_export.proofs.ReadTerms.{one_read}
use Rattle.definition_export.proofs.terms.TermOrder.read_on.Goals as goal

pub loop-place-preserved : goal.loop-place-preserved
loop-place-preserved c =
    one_read c.loop-place.self _ c.args.log.now.entries c.loop-place.place c.name_at-variable.result
    c.loop-place.invariant c.name_at-variable.ensures c.in_ok-add_term.ensures.ok refl
