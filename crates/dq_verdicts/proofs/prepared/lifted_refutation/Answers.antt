use Rattle.std.proofs.Common.{◌∙◌, sym, subst}
use Rattle.cert_export.specs.Exported.{CanExportFalse}
use Rattle.dq_verdicts.proofs.prepared.lifted_refutation.Goals as goal

pub export_false-requires-clause-refuted : goal.export_false-requires-clause-refuted
export_false-requires-clause-refuted c =
    let g = c.args.p.now.left.now in
    let entries = c.args.log.now.entries in
    subst (λ live. CanExportFalse g live entries c.args.id) (sym (c.deref.ensures.value ∙ c.in_ok-numbers.ensures))
    ((c.productive_answers_can_be_exported.ensures g entries c.args.id c.every_log_is_lawful.ensures
    c.requires.productive).1 c.requires.refuted.shown)
