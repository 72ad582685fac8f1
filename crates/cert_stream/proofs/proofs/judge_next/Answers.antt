use Rattle.std.proofs.Common.{None, sym, ◌∙◌, ap, subst}
use Rattle.cert_text.specs.Numbering.{Numbering}
use Rattle.cert_stream.specs.ItemsToCome.{item_of}
use Rattle.proof_checker.specs.Judging.{IsJudging}
use Rattle.cert_stream.proofs.ProofAnswers.{numbered_next}
use Rattle.cert_stream.proofs.proofs.judge_next.Goals as goal

pub returns-in-None-clause-judging : goal.returns-in-None-clause-judging
returns-in-None-clause-judging c =
    let f = c.args.f.now in
    let net = c.args.c.now in
    let new = c.args.lines.now in
    subst (λ (at : Numbering). IsJudging f net c.args.proving.now at)
    (sym (numbered_next f net new c.args.proving.now c.requires None (sym c.item.ensures ∙ ap item_of c.in-None.is)))
    c.requires.judging
