use Rattle.std.proofs.Common.{◌∙◌, sym, subst}
use Rattle.cert_export.specs.Exported.{CanExportFalse}
use Rattle.engine_cases.proofs.exports.certificate.Goals as goal

pub export_false-requires-clause-refuted : goal.export_false-requires-clause-refuted
export_false-requires-clause-refuted c =
    subst (λ live. CanExportFalse c.args.f.now live c.args.log.now.entries c.args.id)
    (sym (c.deref.ensures.value ∙ c.in_ok-numbers.ensures))
    ((c.productive_answers_can_be_exported.ensures c.args.f.now c.args.log.now.entries c.args.id
    c.every_log_is_lawful.ensures c.requires.productive).1 c.requires.refuted)
