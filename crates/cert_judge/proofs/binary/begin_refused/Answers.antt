use Rattle.std.proofs.Common.{rules, ◌≡◌, true, None, Some, subst, arith}
use Rattle.aig_binary.specs.BareReading.{listed}
use Rattle.cert_judge.specs.CircuitPhases.{BeginsProof}
use Rattle.cert_judge.specs.declared.circuits.Form.TheVariants.{Binary as BinaryForm}
use Rattle.cert_judge.proofs.BinaryAnswers.{found_count, no_proof_begins}
use Rattle.cert_judge.proofs.CommentLines.{found_begins}
use Rattle.cert_judge.proofs.binary.begin_refused.Goals as goal

pub returns-then-begins_proof-clause-begins : goal.returns-then-begins_proof-clause-begins
returns-then-begins_proof-clause-begins c =
    let one : c.begins_proof.result ≡ true = search rules in
    let bare = c.args.bare in
    found_begins c.args.f.now BinaryForm c.args.first c.args.number (listed bare).file c.args.line.now
    c.begin_proof.result c.begins_proof.result c.requires.one_line c.begins_proof.ensures one
    c.other_count-finding.result None
    (found_count c.args.f.now c.args.first bare c.requires.other c.other_count-finding.result
    c.other_count-finding.ensures)
    (subst (λ net. BeginsProof c.args.f.now net c.args.number (Some c.other_count-finding.result) None c.args.line.now
    c.begin_proof.result) c.circuit_in-circuit.ensures c.begin_proof.ensures.begins)

pub returns-clause-begins : goal.returns-clause-begins
returns-clause-begins c = search (arith, no_proof_begins)
