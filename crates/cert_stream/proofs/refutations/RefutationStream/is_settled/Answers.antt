use Rattle.std.proofs.Common.{sym, ◌∙◌, subst}
use Rattle.cert_stream.specs.RefutationInside.{state_in}
use Rattle.cert_stream.specs.RefutationState.{MayAnswer, RefutationState}
use Rattle.cert_stream.proofs.SettledStreams.{failed_same, refused_same}
use Rattle.cert_stream.proofs.refutations.RefutationStream.is_settled.Goals as goal

pub returns-then-self : goal.returns-then-self
returns-then-self c on some other answer =
    subst (λ (s : RefutationState). MayAnswer s some answer → MayAnswer s other answer) c.self.view_is
    (failed_same c.self.inside.failed (state_in c.self.inside) some other answer c.if-self.true)

pub returns : goal.returns
returns c on some other answer =
    subst (λ (s : RefutationState). MayAnswer s some answer → MayAnswer s other answer) c.self.view_is
    (refused_same c.self.inside.failed (state_in c.self.inside) some other answer
    (sym c.is_stopped.ensures ∙ on))
