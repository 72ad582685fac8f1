use Rattle.std.proofs.Common.{◌∙◌, sym, subst}
use Rattle.cert_export.specs.Exported.{CanExportFalse}
use Rattle.verdict_texts.specs.Shown.{IsShownFalse}
use Rattle.verdict_texts.specs.Verdicts.{is_false, verdict_text}
use Rattle.dq_verdicts.proofs.ShownVerdicts.{printed_as}
use Rattle.dq_verdicts.proofs.verdicts.false_output.Goals as goal

pub false_text-requires-clause-refuted : goal.false_text-requires-clause-refuted
false_text-requires-clause-refuted c =
    let f = c.args.f.now in
    let entries = c.args.log.now.entries in
    subst (λ live. CanExportFalse f live entries c.args.id) (sym (c.deref.ensures.value ∙ c.in_ok-numbers.ensures))
    ((c.productive_answers_can_be_exported.ensures f entries c.args.id c.every_log_is_lawful.ensures
    c.requires.productive).1 c.requires.refuted.shown)

pub returns : goal.returns
returns c =
    let f = c.args.f.now in
    let shown = c.in_ok-text.ensures in
    let d = shown.refutation in
    record {
      verdict = is_false d;
      is = record {
        productive = c.requires.productive;
        shown = subst (λ numbers. IsShownFalse f f numbers c.args.log.now c.args.form d)
            (c.deref.ensures.value ∙ c.in_ok-numbers.ensures) shown.shown;
      };
      is_printed = printed_as (is_false d) c.code.result c.in_ok-text.text.items
          (verdict_text c.args.form f (is_false d)) c.code.ensures shown.is;
    }
