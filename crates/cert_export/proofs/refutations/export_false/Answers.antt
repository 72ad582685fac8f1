use Rattle.std.proofs.Common.{subst, sym, arith}
use Rattle.hint_log.specs.Reached.{AreReached}
use Rattle.cert_export.specs.Exportable.{AreExportable}
use Rattle.cert_export.proofs.ExportableAnswers.{refuted_exportable, exported_accepted, exported_spelled}
use Rattle.cert_export.proofs.LineCounts.{few_items}
use Rattle.list_laws.proofs.Results.{if_ok}
use Rattle.cert_export.proofs.refutations.export_false.Goals as goal

pub refutation-requires : goal.refutation-requires
refutation-requires c =
    search (
      arith,
      (refuted_exportable c.args.f.now c.args.live.now c.args.log.now c.args.id c.items.result.now c.requires.formula c.every_formula_is_lawful.ensures.few_clauses c.requires.refuted c.every_log_is_lawful.ensures c.requires.limit c.steps.ensures.within c.steps.ensures.value c.rounds_are_steps.ensures c.reached_are_ids.ensures),
    )

pub returns : goal.returns
returns c =
    let f = c.args.f.now in
    let live = c.args.live.now in
    let entries = c.args.log.now.entries in
    let ids = c.items.result.now in
    let are : AreReached entries c.args.id ids =
    subst (AreReached entries c.args.id) (sym c.items.ensures) c.in_ok-ids.ensures in
    let can : AreExportable f live entries ids =
    refuted_exportable f live c.args.log.now c.args.id ids c.requires.formula
    c.every_formula_is_lawful.ensures.few_clauses c.requires.refuted c.every_log_is_lawful.ensures c.requires.limit
    c.steps.ensures.within c.steps.ensures.value c.rounds_are_steps.ensures c.reached_are_ids.ensures are in
    record {
      accepted = if_ok c.refutation.result
          (λ d x. exported_accepted f live entries c.args.id ids d can c.requires.refuted are x) c.refutation.ensures;
      few = if_ok c.refutation.result (λ d x. few_items f live entries ids d.items are.ascending x.items)
          c.refutation.ensures;
      spelled = if_ok c.refutation.result
          (λ d x. exported_spelled f live entries c.args.id ids d can c.requires.refuted are x) c.refutation.ensures;
      lines = if_ok c.refutation.result (λ d x. (ids, are, x)) c.refutation.ensures;
    }
