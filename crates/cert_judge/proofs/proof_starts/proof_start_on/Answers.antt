use Rattle.std.proofs.Common.{◌≡◌, subst}
use Rattle.cert_text.specs.CircuitProof.{first_proof_id}
use Rattle.cert_text.specs.Numbering.{numbered_from}
use Rattle.proof_checker.specs.CircuitProof.{negated_candidate}
use Rattle.proof_checker.specs.Judging.{run_of, IsJudging}
use Rattle.rup_core.specs.Runs.{start}
use Rattle.skolem_checker.specs.Checks.{Candidate}
use Rattle.cert_judge.proofs.proof_starts.proof_start_on.Goals as goal

pub returns-in_ok-new-in-Ok : goal.returns-in_ok-new-in-Ok
returns-in_ok-new-in-Ok c =
    let p = c.in_ok-new-in-Ok.field-0 in
    let same = c.reads_ok.ensures.same in
    record {
      reads = c.in-Ok.ensures.answer;
      judging = subst (λ (b : Candidate). IsJudging b.formula b.circuit.netlist p
          (numbered_from (first_proof_id b.formula b.circuit.netlist))) same c.in_ok-new-in-Ok.ensures.judging;
      run = subst (λ (b : Candidate). run_of b.formula b.circuit.netlist p ≡ start (negated_candidate b)) same
          c.in_ok-new-in-Ok.ensures.run;
    }
