use Rattle.std.proofs.Common.{◌∙◌, ◌++◌, ap, cond, [], codes}
use Rattle.dq_runs.specs.Printed.{line}
use Rattle.verdict_texts.proofs.ShownTexts.{refutation_numbered, shown_false}
use Rattle.verdict_texts.proofs.texts.false_text.Goals as goal

pub refutation_text-requires : goal.refutation_text-requires
refutation_text-requires c =
    let exported = c.in_ok-refutation.ensures in
    refutation_numbered c.exported_lines_are_allowed.ensures c.allowed_lines_are_numbered.ensures c.args.f.now
    c.args.numbers.now c.args.log.now.entries c.args.id exported.lines.0 c.in_ok-refutation.refutation.items
    c.requires.formula c.every_log_is_lawful.ensures c.requires.refuted exported.lines.1 exported.lines.2.items

pub returns : goal.returns
returns c =
    let f = c.args.f.now in
    let exported = c.in_ok-refutation.ensures in
    record {
      refutation = c.in_ok-refutation.refutation;
      shown = shown_false c.refutations_are_accepted.ensures c.derivation_refutes_expansion.ensures
          c.deletions_are_allowed.ensures f c.args.numbers.now c.args.log.now c.args.id c.args.form c.in_ok-refutation.refutation c.every_formula_is_lawful.ensures
          (c.refutation_shows_false.ensures f c.in_ok-refutation.refutation c.requires.formula exported.accepted)
          c.requires.refuted.refuted
          (record {
            accepted = exported.accepted;
            few = exported.few;
            spelled = exported.spelled;
            lines = exported.lines;
            numbered = refutation_numbered c.exported_lines_are_allowed.ensures c.allowed_lines_are_numbered.ensures f
                c.args.numbers.now c.args.log.now.entries c.args.id exported.lines.0 c.in_ok-refutation.refutation.items
                c.requires.formula c.every_log_is_lawful.ensures c.requires.refuted exported.lines.1 exported.lines.2.items;
          });
      is = c.in_ok-text.ensures ∙ ap (λ evidence. cond c.args.form.bare [] (line (codes "s FALSE")) ++ evidence)
          c.in_ok-evidence.ensures;
    }
