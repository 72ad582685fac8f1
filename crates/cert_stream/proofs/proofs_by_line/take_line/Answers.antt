use Rattle.std.proofs.Common.{sym, subst}
use Rattle.cert_stream.specs.DqpLinesInside.{maybe_body, IsReadInto}
use Rattle.cert_stream.specs.ProofLines.{line_read}
use Rattle.cert_stream.proofs.proofs_by_line.take_line.Goals as goal

pub returns-in-None-clause-line : goal.returns-in-None-clause-line
returns-in-None-clause-line c =
    subst (λ i. IsReadInto (line_read c.args.last c.args.first_id (maybe_body i) c.args.text.now) c.take_header.result
    c.take_header.new.items) (sym c.in-None.is) (c.take_header.ensures.line c.args.last)
