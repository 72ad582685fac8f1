use Rattle.verdict_texts.specs.Verdicts.{is_true, verdict_text}
use Rattle.dq_verdicts.proofs.ShownVerdicts.{printed_as}
use Rattle.dq_verdicts.proofs.verdicts.true_output.Goals as goal

pub true_text-requires-clause-decided : goal.true_text-requires-clause-decided
true_text-requires-clause-decided c =
    (c.productive_answers_can_be_exported.ensures c.args.f.now c.args.log.now.entries c.args.id
    c.every_log_is_lawful.ensures c.requires.productive).0 c.requires.decided

pub returns : goal.returns
returns c =
    let shown = c.in_ok-text.ensures in
    record {
      verdict = is_true shown.file shown.proof;
      is = record { productive = c.requires.productive; shown = shown.shown };
      is_printed = printed_as (is_true shown.file shown.proof) c.code.result c.in_ok-text.text.items
          (verdict_text c.args.form c.args.f.now (is_true shown.file shown.proof)) c.code.ensures shown.is;
    }
