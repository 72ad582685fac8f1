use Rattle.std.proofs.Common.{◌≡◌, Some, sym, ◌∙◌, ap, is_some}
use Rattle.hint_log.specs.declared.names.Name.TheVariants.{Term}
use Rattle.definition_export.proofs.blocks.block_gate.Goals as goal

pub name-requires : goal.name-requires
name-requires c = ap is_some (c.requires.can.named c.args.v c.requires.inside).2

pub unreachable-requires : goal.unreachable-requires
unreachable-requires c =
    let t = c.requires.can.named c.args.v c.requires.inside in
    let both : Some c.name.result ≡ Some (Term t.0 t.1) = sym c.name.ensures ∙ t.2 in
    c.in_default.not-Term t.0 t.1 (let same : c.name.result ≡ Term t.0 t.1 = cc in same)
