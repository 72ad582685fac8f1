use Rattle.std.proofs.Common.{Bool, List, sym, ◌∙◌, subst}
use Rattle.cdcl_core.specs.Waking.{AreActiveAwake}
use Rattle.cdcl_core.proofs.waking.put_to_rest.Goals as goal

pub returns-clause-awake : goal.returns-clause-awake
returns-clause-awake c =
    subst (λ (flags : List Bool). AreActiveAwake flags c.args.active.now) c.deref-else-not-is_more.ensures.value
    (sym c.is_any_resting.ensures ∙ c.if-is_any_resting.false)
