use Rattle.std.proofs.Common.{arith}
use Rattle.std.proofs.lemmas.Grind.{common_steps}
use Rattle.cert_export.proofs.ExportableCircuits.{decided_ids, is_proved, is_few, is_writable, is_allowed}
use Rattle.cert_export.proofs.GateVariables.{is_numbered}
use Rattle.list_laws.proofs.Results.{if_ok}
use Rattle.cert_export.proofs.circuits.export_true.Goals as goal

pub export_ids-requires : goal.export_ids-requires
export_ids-requires c =
    search (
      arith,
      (decided_ids c.args.f.now c.args.log.now c.args.id c.items.result.now c.requires.formula c.every_formula_is_lawful.ensures.few_variables c.every_formula_is_lawful.ensures.few_clauses c.requires.decided c.every_log_is_lawful.ensures c.reached_are_ids.ensures),
    )

pub returns : goal.returns
returns c =
    let f = c.args.f.now in
    let entries = c.args.log.now.entries in
    let id = c.args.id in
    let ids = c.items.result.now in
    let made = c.export_ids.ensures in
    record {
      proved = if_ok c.export_ids.result
          (λ r x. is_proved f entries id ids r.0 r.1 x c.exported_answer_is_proved.ensures) made;
      gates = grind (arith, common_steps);
      numbers = if_ok c.export_ids.result (λ r x. is_numbered f entries id ids r.0 r.1 x) made;
      few = if_ok c.export_ids.result (λ r x. is_few f entries id ids r.0 r.1 x) made;
      spelled = if_ok c.export_ids.result
          (λ r x. is_writable f entries id ids r.0 r.1 x c.exported_file_is_spellable.ensures) made;
      allowed = if_ok c.export_ids.result (λ r x. is_allowed f entries id ids r.0 r.1 x) made;
      exported = if_ok c.export_ids.result (λ r x. (ids, x)) made;
    }
