use Rattle.std.proofs.Common.{◌++◌, sym, subst}
use Rattle.cert_judge.specs.Beginnings.{IsJudgementFrom}
use Rattle.cert_judge.specs.Phases.{line_end}
use Rattle.cert_judge.proofs.Starts.{refutation_begins, refutation_takes}
use Rattle.cert_judge.proofs.beginnings.start.Goals as goal

pub returns-in-Refutation-clause-starts : goal.returns-in-Refutation-clause-starts
returns-in-Refutation-clause-starts c behind answer last says =
    let f = c.args.f.now in
    let header = c.args.header.now in
    let fresh = c.new-refutation.result in
    let bytes = header ++ (line_end c.args.ended ++ behind) in
    subst (λ k. IsJudgementFrom f bytes k answer) (sym c.in-Refutation.is)
    (refutation_begins f c.in-Refutation.line fresh c.new-refutation.ensures.number c.new-refutation.ensures.answer
    bytes answer
    (refutation_takes fresh c.line.new.self header c.requires.one_line c.line.ensures.number c.line.ensures.answer
    c.args.ended behind answer last says))
