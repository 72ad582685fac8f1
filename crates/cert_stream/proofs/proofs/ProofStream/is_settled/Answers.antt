use Rattle.std.proofs.Common.{sym, ◌∙◌, subst}
use Rattle.cert_stream.specs.ProofInside.{proof_state_in}
use Rattle.cert_stream.specs.ProofState.{MayAnswer, ProofState}
use Rattle.cert_stream.proofs.SettledStreams.{proof_failed_same, proof_free_same, proof_refused_same}
use Rattle.cert_stream.proofs.proofs.ProofStream.is_settled.Goals as goal

pub returns-then-self : goal.returns-then-self
returns-then-self c on some other answer =
    subst (λ (s : ProofState). MayAnswer s some answer → MayAnswer s other answer) c.self.view_is
    (proof_failed_same c.self.inside.failed (proof_state_in c.self.inside) some other answer c.if-self.true)

pub returns-then-is_stopped : goal.returns-then-is_stopped
returns-then-is_stopped c on some other answer =
    subst (λ (s : ProofState). MayAnswer s some answer → MayAnswer s other answer) c.self.view_is
    (proof_refused_same c.self.inside.failed (proof_state_in c.self.inside) some other answer
    (sym c.is_stopped.ensures ∙ c.if-is_stopped.true))

pub returns : goal.returns
returns c on some other answer =
    subst (λ (s : ProofState). MayAnswer s some answer → MayAnswer s other answer) c.self.view_is
    (proof_free_same c.self.inside.failed (proof_state_in c.self.inside) some other answer
    (c.have_all_come.ensures on))
