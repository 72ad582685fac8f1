use Rattle.std.proofs.Common.{[], ◌∙◌, subst}
use Rattle.std.specs.Prelude.{IfOk}
use Rattle.cert_judge.specs.Judgement.{IsJudgement}
use Rattle.cert_judge.specs.Streams.{StandsFor}
use Rattle.cert_judge.proofs.judging.judge.Goals as goal

pub returns : goal.returns
returns c =
    let text = c.args.text.items in
    subst (λ f. IfOk c.end.result (IsJudgement f text)) (c.feed.ensures.subject ∙ c.new-stream.ensures.formula)
    (c.end.ensures text
    (subst (StandsFor c.feed.new.self) c.deref.ensures.value
    (c.feed.ensures.stands [] c.new-stream.ensures.stands)))
