use Rattle.std.proofs.Common.{[], Ok, subst}
use Rattle.rup_core.specs.ProofVerdict.{proof_fault_in}
use Rattle.cert_stream.specs.RefutationInside.{state_in}
use Rattle.cert_stream.specs.RefutationState.{MayAnswer, RefutationState}
use Rattle.cert_stream.proofs.StreamAnswers.{ended, unless_failed}
use Rattle.cert_stream.proofs.refutations.RefutationStream.end.Goals as goal

pub returns-in-Ok : goal.returns-in-Ok
returns-in-Ok c =
    let i = c.self.inside in
    let fault = c.fault_of-fault.result in
    subst (λ (s : RefutationState). MayAnswer s [] (Ok (proof_fault_in fault))) c.self.view_is
    (unless_failed i.failed (state_in i) [] (Ok (proof_fault_in fault)) c.if-self.false
    (ended i.lines i.proving fault c.in-Ok._rows i.lines.stopped c.in-Ok.ensures.end c.in-Ok.ensures.stopped
    c.fault_of-fault.ensures))
