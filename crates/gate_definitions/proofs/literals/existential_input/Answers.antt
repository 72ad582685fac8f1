use Rattle.std.proofs.Common.{sym, ap, ◌+◌, ◌∙◌, arith, length}
use Rattle.std.proofs.lemmas.List.{length-map}
use Rattle.list_laws.proofs.Folds.{placed_below}
use Rattle.dq_formula.specs.Prefix.{existential_variables}
use Rattle.gate_definitions.proofs.DeclaredPlaces.{placed_second, placed_nowhere}
use Rattle.gate_definitions.proofs.literals.existential_input.Goals as goal

pub overflow_add-result : goal.overflow_add-result
overflow_add-result c = search (arith, length-map, placed_below)

pub unreachable-requires : goal.unreachable-requires
unreachable-requires c =
    let f = c.args.f.now in
    placed_nowhere f.universals (existential_variables f) c.args.v c.requires.no_universal
    (sym c.existential_place.ensures ∙ c.in-None.is) c.requires.declared

pub returns : goal.returns
returns c =
    let f = c.args.f.now in
    ap (λ us. length us + c.in-Some.place) c.universals.ensures
    ∙ placed_second f.universals (existential_variables f) c.args.v c.in-Some.place c.requires.no_universal
    (sym c.existential_place.ensures ∙ c.in-Some.is)
