-- Phases that nothing that comes changes.
use Rattle.std.proofs.Common.{ℕ, List, Option, Result, arith}
use Rattle.dq_lits.specs.Derivation.{ProofFault}
use Rattle.dq_text.specs.Line.{TextLine}
use Rattle.cert_text.specs.declared.faults.CertStop.{CertStop}
use Rattle.cert_stream.specs.ProofState as Proofs
use Rattle.cert_stream.specs.RefutationState.{MayAnswer, RefutationState}
use Rattle.cert_judge.specs.Phases.{ProofGives, RefutationGives}
use Rattle.cert_judge.specs.declared.answers.Judgement.{Judgement}

pub refutation_settled : (s : RefutationState) (some other : List ℕ) (answer : Judgement) →
    ((some other : List TextLine) (said : Result (Option ProofFault) CertStop) → MayAnswer s some said →
    MayAnswer s other said) → RefutationGives s some answer → RefutationGives s other answer
refutation_settled s some other answer same gives = search arith

pub proof_settled : (finding : Option Judgement) (s : Proofs.ProofState) (some other : List ℕ) (answer : Judgement) →
    ((some other : List TextLine) (said : Result (Option (Option ProofFault)) CertStop) → Proofs.MayAnswer s some said →
    Proofs.MayAnswer s other said) → ProofGives finding s some answer → ProofGives finding s other answer
proof_settled finding s some other answer same gives = search arith
