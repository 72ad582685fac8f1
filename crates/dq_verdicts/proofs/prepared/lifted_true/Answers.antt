use Rattle.std.proofs.Common.{◌∙◌, ◌++◌, ap, cond, [], codes}
use Rattle.dq_lits.specs.Henkin.{IsTrueFormula}
use Rattle.dq_runs.specs.Printed.{line}
use Rattle.verdict_texts.specs.Verdicts.{is_true, verdict_text}
use Rattle.dq_verdicts.proofs.LiftedVerdicts.{true-kept, shown-true}
use Rattle.dq_verdicts.proofs.ShownVerdicts.{printed_as}
use Rattle.dq_verdicts.proofs.prepared.lifted_true.Goals as goal

pub returns : goal.returns
returns c =
    let f = c.args.p.now.formula.now in
    let file = c.in_ok-file.file in
    let proof = c.in_ok-file.proof in
    let is : IsTrueFormula f =
    true-kept c.simplification_keeps_choices.ensures f c.args.p.now.left.now c.args.p.now.trace.now c.requires.prepared.formula
    c.every_formula_is_lawful.ensures c.requires.prepared.units c.requires.prepared.left_is c.requires.is_true in
    record {
      searched = c.args.p.now.left.now;
      prepared = c.requires.prepared.prep;
      verdict = is_true file proof;
      is = record {
        productive = c.requires.productive;
        shown = shown-true c.proved_circuits_are_accepted.ensures c.short_texts_are_within_limits.ensures f
            c.args.p.now.left.now c.args.log.now c.args.id c.args.form file proof c.every_formula_is_lawful.ensures
            c.requires.prepared.other is c.requires.decided c.in_ok-file.ensures;
      };
      is_printed = printed_as (is_true file proof) c.code.result c.in_ok-text.text.items
          (verdict_text c.args.form f (is_true file proof)) c.code.ensures
          (c.in_ok-text.ensures ∙ ap (λ evidence. cond c.args.form.bare [] (line (codes "s TRUE")) ++ evidence)
          c.in_ok-evidence.ensures);
    }
