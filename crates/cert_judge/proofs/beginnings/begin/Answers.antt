use Rattle.std.proofs.Common.{◌≡◌, ◌<◌, ◌++◌, true, Some, None, sym, ◌∙◌, ap, subst, arith}
use Rattle.cert_text.specs.Kind.{certificate_kind}
use Rattle.cert_judge.specs.Beginnings.{BeginsAs}
use Rattle.cert_judge.specs.Phases.{line_end}
use Rattle.cert_judge.specs.declared.phases.Phase.TheVariants.{Decided}
use Rattle.cert_judge.proofs.HeaderKinds.{goes_on_beginning, refusal_begins, starts_begin}
use Rattle.cert_judge.proofs.beginnings.begin.Goals as goal
use Rattle.cert_judge.proofs.beginnings.begin.Goals.{else-ended-via-then-ended+else-refusal-missing, else-ended-via-else-ended}

pub returns-then-refusal-missing : goal.returns-then-refusal-missing
returns-then-refusal-missing c =
    let f = c.args.f.now in
    let lines = c.args.lines.now.items in
    let text = c.args.line.now in
    let fault = c.in-Err.refusal in
    subst (λ t. BeginsAs f lines text c.args.ended t fault None) (sym c.in_ok-gather.ensures)
    (goes_on_beginning f lines c.args.missing.now c.args.ended text c.requires.lawful c.requires.one_line fault
    c.kind.result c.in-Err.is
    (c.kind.ensures.kind ∙ ap certificate_kind (c.deref.ensures.value ∙ c.in_ok-gather.ensures)) c.if-ended.true
    c.if-refusal-missing.true)

pub returns-in_ok-start-in-Ok : goal.returns-in_ok-start-in-Ok
returns-in_ok-start-in-Ok c =
    search (
      arith,
      (starts_begin c.args.f.now c.args.lines.now.items c.args.missing.now c.args.ended c.args.line.now c.requires.lawful c.requires.one_line c.in-Ok.kind c.in_ok-start-in-Ok.field-0 c.kind.result c.in-Ok.is),
    )

pub returns-else-ended : goal.returns-else-ended
returns-else-ended c =
    let f = c.args.f.now in
    let lines = c.args.lines.now.items in
    let missing = c.args.missing.now in
    let text = c.args.line.now in
    let fault = c.in-Err.refusal in
    let final : c.args.ended ≡ true → ¬ (missing.line < fault.line) = search arith in
    subst (λ p. BeginsAs f lines text c.args.ended ((lines ++ text) ++ line_end c.args.ended) missing (Some (Decided p))) (sym c.refused.ensures)
    (refusal_begins f lines missing c.args.ended text c.requires.lawful c.requires.one_line fault c.kind.result
    c.in-Err.is (c.kind.ensures.kind ∙ ap certificate_kind (c.deref.ensures.value ∙ c.in_ok-gather.ensures)) final)
