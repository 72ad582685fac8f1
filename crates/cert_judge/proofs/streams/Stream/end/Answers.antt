use Rattle.std.specs.Prelude.{IfOk}
use Rattle.std.proofs.Common.{subst}
use Rattle.cert_judge.specs.Judgement.{IsJudgement}
use Rattle.cert_judge.specs.Phases.{Gives}
use Rattle.cert_judge.specs.StreamInside.{state_in}
use Rattle.cert_judge.specs.Streams.{StandsFor, StreamState}
use Rattle.cert_judge.proofs.Pieces.{ended}
use Rattle.cert_judge.proofs.streams.Stream.end.Goals as goal

pub returns : goal.returns
returns c text =
    let i = c.self.inside in
    subst (λ (s : StreamState). StandsFor s text → IfOk c.finish.result (IsJudgement s.formula text)) c.self.view_is
    (ended (state_in i) text c.end_lines.new.phase c.finish.result
    (λ answer says. subst (λ u. Gives i.formula.now i.phase u answer) c.deref.ensures.value
    (c.end_lines.ensures.gives answer says))
    c.finish.ensures)
