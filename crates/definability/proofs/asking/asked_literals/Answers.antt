use Rattle.std.proofs.Common.{◌++◌, ◌∷◌, [], sym, subst}
use Rattle.hint_log.specs.Naming.{AreNamedAs}
use Rattle.definability.specs.Copies.{copy_names}
use Rattle.definability.proofs.CopiedVariables.{named_push}
use Rattle.definability.proofs.asking.asked_literals.Goals as goal

pub returns : goal.returns
returns c = λ entries side flags n us es copied is.
    let names = copy_names side c.args.conditions.now in
    subst (λ ls. AreNamedAs entries ls (names ++ n ∷ [])) (sym c.in_ok-push.ensures.items)
    (named_push entries c.in_ok-lits.lits.items names c.args.last n
    (c.in_ok-lits.ensures entries side flags us es copied) is)
