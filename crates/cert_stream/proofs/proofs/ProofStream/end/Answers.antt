use Rattle.std.proofs.Common.{[], Ok, subst}
use Rattle.std.specs.Option.{option_map}
use Rattle.rup_core.specs.ProofVerdict.{proof_fault_in}
use Rattle.cert_stream.specs.ProofInside.{proof_state_in}
use Rattle.cert_stream.specs.ProofState.{MayAnswer, ProofState, run_in}
use Rattle.cert_stream.proofs.ProofAnswers.{ended, said_is, unless_failed}
use Rattle.cert_stream.proofs.proofs.ProofStream.end.Goals as goal

pub returns-in-Ok : goal.returns-in-Ok
returns-in-Ok c =
    let i = c.self.inside in
    let said = option_map proof_fault_in c.said_of-said.result in
    subst (λ (s : ProofState). MayAnswer s [] (Ok said)) c.self.view_is
    (unless_failed i.failed (proof_state_in i) [] (Ok said) c.if-self.false
    (ended i.lines (run_in (proof_state_in i)) said i.lines.stopped c.in-Ok.ensures.end c.in-Ok.ensures.stopped
    (said_is i.formula.now i.circuit i.proving said (c.said_of-said.ensures i.formula.now i.circuit))))
