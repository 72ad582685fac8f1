use Rattle.std.proofs.Common.{[], ◌∷◌, ◌++◌, sym, ◌∙◌, ap, subst, arith}
use Rattle.definability.specs.Copies.{group_variable}
use Rattle.definability.proofs.DeclaredPlaces.{copies_declared, whole_copies}
use Rattle.definition_proofs.specs.Proving.{IsProvedBy}
use Rattle.definition_proofs.specs.Searching.{ArePremises, HaveNoModel}
use Rattle.definition_proofs.specs.Shown.{IsShownDefinition}
use Rattle.definition_proofs.proofs.KnownTerms.{proof_then}
use Rattle.definition_proofs.proofs.ProvedDefinitions.{is_existential, own_declared, difference, few, undiffered, premises, no_model, proved_by}
use Rattle.definition_proofs.proofs.terms.Terms.prove_node.Goals as goal

pub leaf-requires-clause-copies : goal.leaf-requires-clause-copies
leaf-requires-clause-copies g c = search (arith, whole_copies)

pub invariant_of-inputs-clause-as_many : goal.invariant_of-inputs-clause-as_many
invariant_of-inputs-clause-as_many g c =
    let p = c.args.definability.now in
    let definability = c.requires.beside.definability in
    (copies_declared c.args.f.now 1 p.copied.items p.first c.args.log.now.entries definability.first.universals
    definability.first.existentials).long

pub copied_variable-requires-clause-bound : goal.copied_variable-requires-clause-bound
copied_variable-requires-clause-bound g c = search (arith, own_declared)

pub give-requires-clause-difference : goal.give-requires-clause-difference
give-requires-clause-difference g c = difference c.args.f.now c.args.graph.now c.args.definability.now c.args.self.now c.leaf.new.self c.args.y
    c.args.node c.copied_variable.result c.in_ok-leaf.leaf c.args.log.now c.leaf.new.log c.requires.beside
    c.requires.definition c.requires.none c.in_ok-leaf.ensures.leaf (λ definability.
    c.copied_variable.ensures c.leaf.new.log.entries 1 c.args.definability.now.copied.items definability.first.universals
    definability.first.existentials (c.requires.beside.whole c.args.y))

pub give-requires-clause-few : goal.give-requires-clause-few
give-requires-clause-few g c = few c.args.f.now c.args.graph.now c.args.definability.now c.args.self.now c.leaf.new.self c.args.y
    c.args.node c.copied_variable.result c.in_ok-leaf.leaf c.args.log.now c.leaf.new.log c.requires.beside
    c.requires.definition c.requires.none c.in_ok-leaf.ensures.leaf (λ definability.
    c.copied_variable.ensures c.leaf.new.log.entries 1 c.args.definability.now.copied.items definability.first.universals
    definability.first.existentials (c.requires.beside.whole c.args.y))

pub give-requires-clause-none : goal.give-requires-clause-none
give-requires-clause-none g c = undiffered c.args.f.now c.args.graph.now c.args.definability.now c.args.self.now c.leaf.new.self c.args.y
    c.args.node c.copied_variable.result c.in_ok-leaf.leaf c.args.log.now c.leaf.new.log c.requires.beside
    c.requires.definition c.requires.none c.in_ok-leaf.ensures.leaf (λ definability.
    c.copied_variable.ensures c.leaf.new.log.entries 1 c.args.definability.now.copied.items definability.first.universals
    definability.first.existentials (c.requires.beside.whole c.args.y))

pub returns-in_err-group-clause-grew : goal.returns-in_err-group-clause-grew
returns-in_err-group-clause-grew g c = proof_then c.args.f.now (group_variable c.args.self.now.group) c.args.y c.args.log.now c.leaf.new.log c.give.new.log
    (c.leaf.ensures.grew c.args.f.now c.args.y) (c.give.ensures.grew c.args.f.now
    (group_variable c.args.self.now.group) (is_existential c.args.f.now c.args.graph.now c.args.y c.args.node
    c.requires.definition))

pub returns-in_err-active-clause-grew : goal.returns-in_err-active-clause-grew
returns-in_err-active-clause-grew g c = proof_then c.args.f.now (group_variable c.args.self.now.group) c.args.y c.args.log.now c.leaf.new.log c.give.new.log
    (c.leaf.ensures.grew c.args.f.now c.args.y) (c.give.ensures.grew c.args.f.now
    (group_variable c.args.self.now.group) (is_existential c.args.f.now c.args.graph.now c.args.y c.args.node
    c.requires.definition))

pub refute-requires-clause-premises : goal.refute-requires-clause-premises
refute-requires-clause-premises g c =
    subst (ArePremises c.give.new.log.entries c.args.y c.in_ok-leaf.leaf)
    (sym (c.deref-2.ensures.value ∙ c.in_ok-active.ensures
    ∙ ap (λ gs. gs ++ c.leaf.new.self.group ∷ c.in_ok-group.group ∷ []) c.deref.ensures.value))
    (premises c.args.f.now c.args.graph.now c.args.definability.now c.args.self.now c.leaf.new.self c.args.y
    c.args.node c.copied_variable.result c.in_ok-leaf.leaf c.args.log.now c.leaf.new.log c.requires.beside
    c.requires.definition c.requires.none c.in_ok-leaf.ensures.leaf (λ definability.
    c.copied_variable.ensures c.leaf.new.log.entries 1 c.args.definability.now.copied.items definability.first.universals
    definability.first.existentials (c.requires.beside.whole c.args.y))
    c.requires.formula c.names_are_unique.ensures c.give.new.log c.in_ok-group.group c.give.ensures.grew
    c.in_ok-group.ensures.given)

pub refute-requires-clause-none : goal.refute-requires-clause-none
refute-requires-clause-none g c =
    subst (HaveNoModel c.give.new.log)
    (sym (c.deref-2.ensures.value ∙ c.in_ok-active.ensures
    ∙ ap (λ gs. gs ++ c.leaf.new.self.group ∷ c.in_ok-group.group ∷ []) c.deref.ensures.value))
    (no_model c.args.f.now c.args.graph.now c.args.definability.now c.args.self.now c.leaf.new.self c.args.y
    c.args.node c.copied_variable.result c.in_ok-leaf.leaf c.args.log.now c.leaf.new.log c.requires.beside
    c.requires.definition c.requires.none c.in_ok-leaf.ensures.leaf (λ definability.
    c.copied_variable.ensures c.leaf.new.log.entries 1 c.args.definability.now.copied.items definability.first.universals
    definability.first.existentials (c.requires.beside.whole c.args.y))
    c.requires.formula c.names_are_unique.ensures c.give.new.log c.in_ok-group.group c.give.ensures.grew
    c.in_ok-group.ensures.given)

pub returns-in_err-proved-clause-grew : goal.returns-in_err-proved-clause-grew
returns-in_err-proved-clause-grew g c = proof_then c.args.f.now (group_variable c.args.self.now.group) c.args.y c.args.log.now c.give.new.log c.refute.new.log
    (proof_then c.args.f.now (group_variable c.args.self.now.group) c.args.y c.args.log.now c.leaf.new.log c.give.new.log
    (c.leaf.ensures.grew c.args.f.now c.args.y) (c.give.ensures.grew c.args.f.now
    (group_variable c.args.self.now.group) (is_existential c.args.f.now c.args.graph.now c.args.y c.args.node
    c.requires.definition)))
    (c.refute.ensures.grew c.args.f.now (group_variable c.args.self.now.group))

pub returns-clause-grew : goal.returns-clause-grew
returns-clause-grew g c = proof_then c.args.f.now (group_variable c.args.self.now.group) c.args.y c.args.log.now c.give.new.log c.refute.new.log
    (proof_then c.args.f.now (group_variable c.args.self.now.group) c.args.y c.args.log.now c.leaf.new.log c.give.new.log
    (c.leaf.ensures.grew c.args.f.now c.args.y) (c.give.ensures.grew c.args.f.now
    (group_variable c.args.self.now.group) (is_existential c.args.f.now c.args.graph.now c.args.y c.args.node
    c.requires.definition)))
    (c.refute.ensures.grew c.args.f.now (group_variable c.args.self.now.group))

pub returns-clause-proved : goal.returns-clause-proved
returns-clause-proved g c =
    let is = c.in_ok-proved.ensures.output in
    subst (λ leaf. IsProvedBy c.args.f.now c.args.graph.now c.args.definability.now c.args.y c.args.node c.leaf.new.self
    c.refute.new.log.entries (record { id = c.in_ok-proved.proved.id; leaf = leaf })) (sym is)
    (proved_by c.args.f.now c.args.graph.now c.args.definability.now c.args.self.now c.leaf.new.self c.args.y
    c.args.node c.copied_variable.result c.in_ok-leaf.leaf c.args.log.now c.leaf.new.log c.requires.beside
    c.requires.definition c.requires.none c.in_ok-leaf.ensures.leaf (λ definability.
    c.copied_variable.ensures c.leaf.new.log.entries 1 c.args.definability.now.copied.items definability.first.universals
    definability.first.existentials (c.requires.beside.whole c.args.y))
    c.requires.formula c.names_are_unique.ensures c.give.new.log c.in_ok-group.group c.give.ensures.grew
    c.in_ok-group.ensures.given c.refute.new.log c.refute.ensures.grew c.refute.ensures.same c.in_ok-proved.proved.id
    (subst (λ leaf. IsShownDefinition c.refute.new.log.entries c.args.y leaf c.in_ok-proved.proved.id) is
    c.in_ok-proved.ensures.shown))
