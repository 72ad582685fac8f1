use Rattle.std.proofs.Common.{◌≤◌, sym, ◌∙◌, subst}
use Rattle.std.proofs.lemmas.List.Elements.{All-contains}
use Rattle.list_laws.proofs.Options.{some_same}
use Rattle.dq_lits.specs.Formula.{declared}
use Rattle.defined_checker.specs.Judging.{ReadsItsOwn}
use Rattle.defined_checker.proofs.AcceptedBlocks.{accepted_definition, declared_existential}
use Rattle.defined_checker.proofs.ForcedDefinitions.{value_forced, same}
use Rattle.defined_checker.proofs.ReadDefinitions.{depends}
use Rattle.defined_checker.proofs.laws.accepted_definitions_are_forced.Goals as goal

pub returns : goal.returns
returns c f d formed lawful judged =
    let a = accepted_definition f d judged in
    let gates = c.circuit_clauses_hold.ensures in
    let range = All-contains (λ v. (1 ≤ v) × (v ≤ f.variables)) (declared f) d.existential formed.prefix.in_range
    (declared_existential f d.existential a.y a.is) in
    record {
      value = λ m holds.
          value_forced gates.variable gates.opposite gates.gate gates.kept c.deleting_derivation_is_sound.ensures
          c.lines_alone.ensures f d formed lawful m holds a.derives
          (same gates.variable gates.opposite gates.gate gates.kept c.deleting_derivation_is_sound.ensures
          c.lines_alone.ensures f d formed lawful m holds d.existential range.0 range.1);
      depends = λ y is m n alike.
          depends f d y lawful (subst (λ z. ReadsItsOwn f z d) (some_same a.y y (sym a.is ∙ is)) a.own) m n alike;
    }
