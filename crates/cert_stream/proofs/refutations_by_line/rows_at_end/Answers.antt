use Rattle.std.proofs.Common.{[], Err, sym, subst, arith}
use Rattle.cert_text.specs.Lines.{IsReading}
use Rattle.cert_stream.specs.Bodies.{body_of}
use Rattle.cert_stream.specs.RefutationLines.{body_gives, rows_of}
use Rattle.cert_stream.proofs.ItemsInPlace.{all_came, items_missing}
use Rattle.cert_stream.proofs.refutations_by_line.rows_at_end.Goals as goal

pub returns : goal.returns
returns c f =
    all_came f (body_of c.args.body) c.args.number (omega (arith, c.if-body-gt0.false))
    (omega (arith, c.if-body-gt0-2.false))

pub returns-then-body-gt0-2 : goal.returns-then-body-gt0-2
returns-then-body-gt0-2 c f =
    subst (λ s. IsReading (rows_of (body_gives f (body_of c.args.body) [] c.args.number)) (Err s))
    (sym c.refused-then-body-gt0-2.ensures)
    (items_missing f (body_of c.args.body) c.args.number (omega (arith, c.if-body-gt0.false))
    (omega (arith, c.if-body-gt0-2.true)))
