use Rattle.std.proofs.Common.{set, refl, sym, subst, IfSome}
use Rattle.definability.specs.Defining.{IsFound}
use Rattle.dq_formula.specs.Prefix.{existential_variables}
use Rattle.known_functions.specs.declared.definitions.Definitions.{Definitions}
use Rattle.known_functions.specs.Searching.{AreKnown, definition_in}
use Rattle.known_functions.proofs.Defined.{known_at, known_stays, found_defines}
use Rattle.definition_order.proofs.Places.{existential_there}
use Rattle.known_functions.proofs.definitions.Definitions.find.Goals as goal

pub returns-in_default-clause-known : goal.returns-in_default-clause-known
returns-in_default-clause-known g c =
    let f = c.args.existential.now.f.now in
    subst (λ (d : Definitions). AreKnown f d.ranks.items c.ask.new.graph d.nodes.items d.rules.items d.guesses.items)
    (sym c.ask.ensures.same)
    (known_stays f c.args.self.now.ranks.items c.args.graph.now c.ask.new.graph c.args.self.now.nodes.items
    c.args.self.now.rules.items c.args.self.now.guesses.items c.ask.ensures.asked.extends c.requires.known)

pub returns-clause-known : goal.returns-clause-known
returns-clause-known g c =
    let f = c.args.existential.now.f.now in
    let ranks = c.args.self.now.ranks.items in
    let graph = c.ask.new.graph in
    let before = c.args.self.now.nodes.items in
    let rules = c.args.self.now.rules.items in
    let guesses = c.args.self.now.guesses.items in
    let found = c.in-Some.found in
    let lawful = c.every_formula_is_lawful.ensures in
    let here = existential_there f lawful (existential_variables f) refl c.args.existential.now.place
    c.requires.place in
    let still = known_stays f ranks c.args.graph.now graph before rules guesses c.ask.ensures.asked.extends
    c.requires.known in
    let known = known_at f ranks lawful.prefix graph c.args.existential.now.place here.0 before
    (definition_in found) rules guesses here.1
    (found_defines f ranks graph here.0 found (subst (λ o. IfSome o (IsFound f ranks graph here.0)) c.in-Some.is
    (c.in_ok-found.ensures.found here.0 here.1))) still in
    let kept = subst (λ (d : Definitions). AreKnown f d.ranks.items graph
    (set d.nodes.items c.args.existential.now.place (definition_in found)) d.rules.items d.guesses.items)
    (sym c.ask.ensures.same) known in
    let put = set c.ask.new.self.nodes.items c.args.existential.now.place (definition_in found) in
    subst (λ rs. AreKnown f rs graph c.note.new.self.nodes.items c.note.new.self.rules.items
    c.note.new.self.guesses.items) (sym c.note.ensures.ranks)
    (subst (λ ns. AreKnown f c.ask.new.self.ranks.items graph ns c.note.new.self.rules.items
    c.note.new.self.guesses.items) (sym c.note.ensures.nodes)
    (subst (λ rs. AreKnown f c.ask.new.self.ranks.items graph put rs c.note.new.self.guesses.items)
    (sym c.note.ensures.rules)
    (subst (AreKnown f c.ask.new.self.ranks.items graph put c.ask.new.self.rules.items)
    (sym c.note.ensures.guesses) kept)))
