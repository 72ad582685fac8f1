use Rattle.std.proofs.Common.{rules, ◌≡◌, true, None, Some, subst, arith}
use Rattle.skolem_checker.specs.Checks.{candidate_of}
use Rattle.proof_checker.specs.Judging.{run_of}
use Rattle.cert_judge.specs.CircuitPhases.{BeginsProof}
use Rattle.cert_judge.specs.Places.{mapping_line_in}
use Rattle.cert_judge.specs.ProofStart.{IsProofStart}
use Rattle.cert_judge.proofs.CommentLines.{derived_begins, found_begins, free_text_begins, standing_judges}
use Rattle.cert_judge.proofs.comments.begin_comment.Goals as goal

pub returns-then-not-begins_proof-clause-begins : goal.returns-then-not-begins_proof-clause-begins
returns-then-not-begins_proof-clause-begins c = search (arith, free_text_begins)

pub returns-in-Found-clause-begins : goal.returns-in-Found-clause-begins
returns-in-Found-clause-begins c =
    let one : c.begins_proof.result ≡ true = search rules in
    let file = c.args.file in
    found_begins c.args.f.now c.args.form c.args.first c.args.number file c.args.line.now c.begin_proof.result
    c.begins_proof.result c.requires.one_line c.begins_proof.ensures one c.in-Found.finding None
    (subst (IsProofStart (mapping_line_in c.args.form c.args.first file.circuit)
    (candidate_of c.args.f.now file.circuit file.symbols)) c.in-Found.is c.in-Ok.ensures)
    (subst (λ net. BeginsProof c.args.f.now net c.args.number (Some c.in-Found.finding) None c.args.line.now
    c.begin_proof.result) c.circuit_in-circuit.ensures c.begin_proof.ensures.begins)

pub begin_proof-requires-in-Proving-clause-judging : goal.begin_proof-requires-in-Proving-clause-judging
begin_proof-requires-in-Proving-clause-judging c = search (arith, standing_judges)

pub returns-in-Proving-clause-begins : goal.returns-in-Proving-clause-begins
returns-in-Proving-clause-begins c =
    let one : c.begins_proof.result ≡ true = search rules in
    let f = c.args.f.now in
    let file = c.args.file in
    derived_begins f c.args.form c.args.first c.args.number file c.args.line.now c.begin_proof-in-Proving.result
    c.begins_proof.result c.requires.one_line c.begins_proof.ensures one c.run_is_fault.ensures c.in-Proving.proving
    (subst (IsProofStart (mapping_line_in c.args.form c.args.first file.circuit)
    (candidate_of f file.circuit file.symbols)) c.in-Proving.is c.in-Ok.ensures)
    (subst (λ net. BeginsProof f net c.args.number None (Some (run_of f net c.in-Proving.proving)) c.args.line.now
    c.begin_proof-in-Proving.result) c.circuit_in-circuit.ensures c.begin_proof-in-Proving.ensures.begins)
