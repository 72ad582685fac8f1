-- How a verdict is written.
use Rattle.std.specs.Prelude.{false, List, if◌then◌else◌}
use Rattle.rup_core.specs.Items.{ProofItem}
use Rattle.aiger_text.specs.declared.files.AagFile.{AagFile}
use Rattle.cert_text.specs.declared.circuit_proofs.Dqp.{Dqp}
use Rattle.cert_text.specs.declared.refutations.Dqr.{Dqr}
use Rattle.ordered_gates.specs.Circuits.{ordered_file, ordered_proof}
use Rattle.proof_deletions.specs.Deletions.{with_deletions}
use Rattle.verdict_texts.specs.declared.forms.Form.{Form}

-- behind the line that names it, without deletions, and in ASCII
abbrev pub plain : Form
plain = record { bare = false; deletes = false; binary = false }

-- the lines of a proof as they are written
abbrev pub written_items : Form → List ProofItem → List ProofItem
written_items form items = if form.deletes then with_deletions items else items

-- in the binary form each gate has its greater side first
abbrev pub written_file : Form → AagFile → AagFile
written_file form file = if form.binary then ordered_file file else file

-- and the proof hints its clauses there
abbrev pub ordered_lines : Form → AagFile → Dqp → Dqp
ordered_lines form file proof =
    if form.binary then ordered_proof file.circuit proof else proof

abbrev pub written_proof : Form → AagFile → Dqp → Dqp
written_proof form file proof =
    record { items = written_items form (ordered_lines form file proof).items }

abbrev pub written_refutation : Form → Dqr → Dqr
written_refutation form d = record { rows = d.rows; items = written_items form d.items }
