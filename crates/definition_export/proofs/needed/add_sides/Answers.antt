use Rattle.std.proofs.Common.{◌≡◌, sym, ◌∙◌, ap, is_some, Some}
use Rattle.hint_log.specs.declared.names.Name.TheVariants.{Term}
use Rattle.definition_export.proofs.ClosedPlaces.{both_added, term_there}
use Rattle.definition_export.proofs.needed.add_sides.Goals as goal

pub name-requires : goal.name-requires
name-requires c = ap is_some (term_there c.args.log.now.entries c.args.terms.now c.items.result.now c.args.place
    c.requires.terms c.items.ensures c.requires.within).2

pub unreachable-requires : goal.unreachable-requires
unreachable-requires c =
    let t = term_there c.args.log.now.entries c.args.terms.now c.items.result.now c.args.place
    c.requires.terms c.items.ensures c.requires.within in
    let both : Some c.name.result ≡ Some (Term t.0 t.1) = sym c.name.ensures ∙ t.2 in
    c.in_default.not-Term t.0 t.1 (let same : c.name.result ≡ Term t.0 t.1 = cc in same)

pub returns : goal.returns
returns c = both_added c.args.log.now.entries c.args.terms.now c.items.result.now c.args.place c.in-Term.left
    c.in-Term.right c.args.waiting.now c.add_place.new.waiting c.add_place-in-Term.new.waiting
    c.add_place-in-Term.result c.items.ensures c.requires.within (c.name.ensures ∙ ap Some c.in-Term.is)
    c.var.result c.var-in-Term.result c.var.ensures.value c.var-in-Term.ensures.value
    c.in_ok-add_place-in-Term.ensures.added c.add_place-in-Term.ensures.added
