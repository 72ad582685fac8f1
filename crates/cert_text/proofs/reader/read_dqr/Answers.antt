use Rattle.std.proofs.Common.{rules}
use Rattle.cert_text.specs.Lines.{IsReading}
use Rattle.cert_text.specs.Scan.{refutation_of}
use Rattle.cert_text.proofs.SpelledRefutations.{reading_allowed}
use Rattle.cert_text.proofs.reader.read_dqr.Goals as goal

pub returns-clause-allowed : goal.returns-clause-allowed
returns-clause-allowed c =
    let read : IsReading (refutation_of c.args.f.now c.args.bytes.now c.args.first) c.read_body.result = search rules in
    reading_allowed c.args.bytes.now c.args.first c.args.f.now c.read_body.result read
