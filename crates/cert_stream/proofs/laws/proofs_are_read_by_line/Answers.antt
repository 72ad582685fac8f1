use Rattle.dq_text.specs.Line.{lines_from}
use Rattle.cert_stream.proofs.ProofSteps.{one_by_one, whole_proof}
use Rattle.cert_stream.proofs.laws.proofs_are_read_by_line.Goals as goal

pub returns-clause-whole : goal.returns-clause-whole
returns-clause-whole c f net text first = whole_proof f net (lines_from first text) first

pub returns-clause-line : goal.returns-clause-line
returns-clause-line c r line lines same = one_by_one r line lines same
