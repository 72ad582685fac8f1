use Rattle.std.proofs.Common.{subst}
use Rattle.std.specs.Option.{option_and_then}
use Rattle.std.specs.Prelude.{IfSome}
use Rattle.cert_stream.specs.DqpLinesInside.{maybe_body}
use Rattle.cert_stream.specs.ItemsToCome.{item_in}
use Rattle.cert_stream.specs.KeptLines.{KeptProofLines, proof_seen}
use Rattle.cert_stream.specs.ProofLines.{MayCome}
use Rattle.cert_stream.proofs.KeptBodies.{proof_came_in_place}
use Rattle.cert_stream.proofs.proofs_by_line.DqpLines.line.Goals as goal

pub returns-in-Ok-clause-item : goal.returns-in-Ok-clause-item
returns-in-Ok-clause-item c =
    let lines = c.self.inside in
    subst (λ (l : KeptProofLines). IfSome (option_and_then item_in c.count_line.new.items)
    (MayCome l.last_variable (proof_seen l).body)) c.self.view_is
    (proof_came_in_place c.lines_are_lawful.ensures.item lines.last_variable lines.first_id (maybe_body lines.items)
    c.args.text.now lines.number c.count_line.new.items c.in-Ok.ensures.line)
