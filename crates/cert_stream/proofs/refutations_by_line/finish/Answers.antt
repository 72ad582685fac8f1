use Rattle.std.proofs.Common.{[], sym, subst}
use Rattle.cert_text.specs.Lines.{IsReading}
use Rattle.cert_stream.specs.Bodies.{maybe_body}
use Rattle.cert_stream.specs.RefutationLines.{gives, rows_of}
use Rattle.cert_stream.proofs.refutations_by_line.finish.Goals as goal

pub returns-in-Some : goal.returns-in-Some
returns-in-Some c f =
    subst (λ b. IsReading (rows_of (gives f (maybe_body b) [] c.args.number)) c.rows_at_end.result)
    (sym c.in-Some.is) (c.rows_at_end.ensures f)
