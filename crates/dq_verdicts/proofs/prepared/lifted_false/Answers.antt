use Rattle.std.proofs.Common.{◌∙◌, ◌++◌, ap, cond, [], codes}
use Rattle.dq_runs.specs.Printed.{line}
use Rattle.verdict_texts.specs.Verdicts.{is_false, verdict_text}
use Rattle.dq_verdicts.proofs.LiftedVerdicts.{shown-false}
use Rattle.dq_verdicts.proofs.ShownVerdicts.{printed_as}
use Rattle.dq_verdicts.proofs.prepared.lifted_false.Goals as goal

pub returns : goal.returns
returns c =
    let f = c.args.p.now.formula.now in
    let d = c.in_ok-refutation.refutation in
    let e = c.in_ok-refutation.ensures in
    record {
      searched = c.args.p.now.left.now;
      prepared = c.requires.prepared.prep;
      verdict = is_false d;
      is = record {
        productive = c.requires.productive;
        shown = shown-false c.refutations_are_accepted.ensures c.derivation_refutes_expansion.ensures f c.args.p.now.left.now
            c.args.log.now c.args.form d c.every_formula_is_lawful.ensures c.requires.prepared.other
            (c.refutation_shows_false.ensures f d c.requires.prepared.formula e.refutes) e.allowed e.refutes e.lines;
      };
      is_printed = printed_as (is_false d) c.code.result c.in_ok-text.text.items
          (verdict_text c.args.form f (is_false d)) c.code.ensures
          (c.in_ok-text.ensures ∙ ap (λ evidence. cond c.args.form.bare [] (line (codes "s FALSE")) ++ evidence)
          c.in_ok-evidence.ensures);
    }
