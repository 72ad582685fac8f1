use Rattle.std.proofs.Common.{sym, ◌∙◌}
use Rattle.dq_formula.specs.Prefix.{existential_variables}
use Rattle.gate_definitions.proofs.DeclaredPlaces.{placed_first}
use Rattle.gate_definitions.proofs.literals.input_of.Goals as goal

pub existential_input-requires-clause-no_universal : goal.existential_input-requires-clause-no_universal
existential_input-requires-clause-no_universal c = sym c.universal_place.ensures ∙ c.in-None.is

pub returns-in-Some : goal.returns-in-Some
returns-in-Some c = placed_first c.args.f.now.universals (existential_variables c.args.f.now) c.args.v c.in-Some.place
    (sym c.universal_place.ensures ∙ c.in-Some.is)
