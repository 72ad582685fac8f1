use Rattle.std.proofs.Common.{sym, ◌∙◌, subst}
use Rattle.hint_log.specs.Reached.{AreReached}
use Rattle.definition_export.proofs.ExportableDefinitions.{answer_id, definition_ids, ids_are, terms_named}
use Rattle.definition_export.proofs.blocks.export_definition.Goals as goal

pub needed_terms-requires-clause-ids : goal.needed_terms-requires-clause-ids
needed_terms-requires-clause-ids c =
    let entries = c.args.log.now.entries in
    ids_are entries c.args.id c.items.result.now c.reached_are_ids.ensures c.every_log_is_lawful.ensures
    (answer_id c.args.f.now entries c.args.id c.args.y c.args.leaf c.requires.can)
    (subst (AreReached entries c.args.id) (sym c.items.ensures) c.in_ok-ids.ensures)

pub needed_terms-requires-clause-named : goal.needed_terms-requires-clause-named
needed_terms-requires-clause-named c =
    let entries = c.args.log.now.entries in
    terms_named c.args.f.now entries c.args.id c.args.y c.args.leaf c.items.result.now c.every_log_is_lawful.ensures
    c.requires.can (subst (AreReached entries c.args.id) (sym c.items.ensures) c.in_ok-ids.ensures)

pub block-requires : goal.block-requires
block-requires c =
    let entries = c.args.log.now.entries in
    let reached = subst (AreReached entries c.args.id) (sym c.items-2.ensures) c.in_ok-ids.ensures in
    definition_ids c.args.f.now entries c.args.id c.args.y c.args.leaf c.items-2.result.now c.in_ok-gates.gates
    c.len.result c.requires.formula c.every_formula_is_lawful.ensures.few_clauses c.every_log_is_lawful.ensures
    c.requires.can reached
    (ids_are entries c.args.id c.items-2.result.now c.reached_are_ids.ensures c.every_log_is_lawful.ensures
    (answer_id c.args.f.now entries c.args.id c.args.y c.args.leaf c.requires.can) reached)
    (λ m there. c.in_ok-gates.ensures m (subst (AreReached entries m) (c.items-2.ensures ∙ sym c.items.ensures) there))
    c.len.ensures.value c.if-len-gt-MOST.false
