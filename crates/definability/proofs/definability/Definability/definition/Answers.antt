use Rattle.std.proofs.Common.{sym, ◌∙◌, ap, subst, arith}
use Rattle.oracle.specs.Calls.{assumed}
use Rattle.interpolants.specs.Interpolant.{partition, SharesAll, AreNodes, IsInterpolant}
use Rattle.definability.specs.Dividing.{AreSharedCopies}
use Rattle.definability.proofs.ApartLiterals.{first_named}
use Rattle.definability.proofs.DeclaredPlaces.{copies_declared, declared_long}
use Rattle.definability.proofs.LinkedInterpolants.{interpolant_defines}
use Rattle.definability.proofs.SharedCopies.{shared_copies, shared_nodes}
use Rattle.definability.proofs.SharedVariables.{copies_share}
use Rattle.definability.proofs.definability.Definability.definition.Goals as goal

pub from_log-requires-clause-named : goal.from_log-requires-clause-named
from_log-requires-clause-named c = search (arith, first_named)

pub from_log-requires-clause-shares : goal.from_log-requires-clause-shares
from_log-requires-clause-shares c =
    let question = c.args.question.now in
    let f = question.f.now in
    let first = c.args.self.now.first in
    let es = c.args.log.now.entries in
    let shared = c.deref-4.result.now in
    let a_side = c.deref-3.ensures.value ∙ c.in_ok-a_side.ensures
    ∙ ap (λ gs. assumed gs c.deref-2.result.now) c.deref.ensures.value
    ∙ ap (assumed c.args.self.now.first.groups.items) c.deref-2.ensures.value in
    subst (λ ls. SharesAll (partition es c.args.id ls shared)) (sym a_side)
    (copies_share (partition es c.args.id (assumed first.groups.items c.args.asked.now.first.items) shared) f
    question.places.now question.y question.conditions.now (c.requires.shown.divides shared) c.args.graph.now
    (subst (AreSharedCopies f question.places.now es c.args.graph.now)
    (sym (c.deref-4.ensures.value ∙ c.in_ok-shared.ensures))
    (shared_copies f c.args.self.now question.places.now es c.requires.posed.places_within
    c.requires.posed.places_copied (copies_declared f 1 c.args.self.now.copied.items first es c.requires.definability.first.universals c.requires.definability.first.existentials)
    c.args.graph.now
    (λ v w name a b. c.names_are_unique.ensures es v w name c.every_log_is_lawful.ensures a b))))

pub from_log-requires-clause-nodes : goal.from_log-requires-clause-nodes
from_log-requires-clause-nodes c =
    let question = c.args.question.now in
    let f = question.f.now in
    let first = c.args.self.now.first in
    let es = c.args.log.now.entries in
    subst (λ xs. AreNodes xs c.args.graph.now) (sym (c.deref-4.ensures.value ∙ c.in_ok-shared.ensures))
    (shared_nodes f c.args.self.now question.places.now es c.requires.posed.places_within
    c.requires.posed.places_copied (copies_declared f 1 c.args.self.now.copied.items first es c.requires.definability.first.universals c.requires.definability.first.existentials)
    c.args.graph.now
    (c.requires.inputs ∙ sym (declared_long f)))

pub returns-clause-defined : goal.returns-clause-defined
returns-clause-defined c =
    let question = c.args.question.now in
    let f = question.f.now in
    let first = c.args.self.now.first in
    let es = c.args.log.now.entries in
    let shared = c.deref-4.result.now in
    let graph = c.from_log.new.graph in
    let a_side = c.deref-3.ensures.value ∙ c.in_ok-a_side.ensures
    ∙ ap (λ gs. assumed gs c.deref-2.result.now) c.deref.ensures.value
    ∙ ap (assumed c.args.self.now.first.groups.items) c.deref-2.ensures.value in
    interpolant_defines (partition es c.args.id (assumed first.groups.items c.args.asked.now.first.items) shared) f
    question.places.now question.y question.conditions.now graph (c.requires.shown.divides shared)
    (subst (AreSharedCopies f question.places.now es graph) (sym (c.deref-4.ensures.value ∙ c.in_ok-shared.ensures))
    (shared_copies f c.args.self.now question.places.now es c.requires.posed.places_within
    c.requires.posed.places_copied (copies_declared f 1 c.args.self.now.copied.items first es c.requires.definability.first.universals c.requires.definability.first.existentials) graph
    (λ v w name a b. c.names_are_unique.ensures es v w name c.every_log_is_lawful.ensures a b))) c.in_ok-node.node
    (subst (λ ls. IsInterpolant (partition es c.args.id ls shared) graph c.in_ok-node.node) a_side
    c.in_ok-node.ensures.interpolant)
