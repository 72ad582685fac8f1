use Rattle.std.proofs.Common.{[], subst}
use Rattle.std.specs.Prelude.{IfNone}
use Rattle.cert_text.specs.Lines.{IsReading}
use Rattle.cert_stream.specs.KeptLines.{KeptLines, seen}
use Rattle.cert_stream.specs.RefutationLines.{lines_give, rows_of}
use Rattle.cert_stream.proofs.KeptBodies.{if_none}
use Rattle.cert_stream.proofs.refutations_by_line.DqrLines.end.Goals as goal

pub returns-clause-end : goal.returns-clause-end
returns-clause-end c =
    let lines = c.self.inside in
    subst (λ (l : KeptLines). IfNone l.stopped (IsReading (rows_of (lines_give (seen l) []))
    c.finish.result)) c.self.view_is
    (if_none lines.stopped _ (c.finish.ensures lines.formula.now))
