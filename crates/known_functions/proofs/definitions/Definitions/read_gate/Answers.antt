use Rattle.std.proofs.Common.{◌≡◌, ◌∙◌, set, refl, subst, sym, Some, arith}
use Rattle.aig_graph.specs.declared.nodes.Node.{Node}
use Rattle.dq_formula.specs.Prefix.{existential_variables}
use Rattle.defining_nodes.specs.Definitions.{IsDefinition}
use Rattle.known_functions.specs.Searching.{AreKnown}
use Rattle.known_functions.proofs.Defined.{known_at, known_stays}
use Rattle.definition_order.proofs.Places.{existential_there}
use Rattle.known_functions.proofs.definitions.Definitions.read_gate.Goals as goal

pub read-requires-clause-existential : goal.read-requires-clause-existential
read-requires-clause-existential c =
    let here = existential_there c.args.f.now c.every_formula_is_lawful.ensures
    c.existentials.result.now c.existentials.ensures c.args.place c.requires.place in
    rw here.2 refl

pub returns-in_default-clause-known : goal.returns-in_default-clause-known
returns-in_default-clause-known c = search (arith, known_stays)

pub returns-clause-known : goal.returns-clause-known
returns-clause-known c =
    let f = c.args.f.now in
    let d = c.args.self.now in
    let ranks = d.ranks.items in
    let graph = c.read.new.graph in
    let node = c.in-Some.node in
    let lawful = c.every_formula_is_lawful.ensures in
    let here = existential_there f lawful (existential_variables f) refl c.args.place c.requires.place in
    let own = existential_there f lawful c.existentials.result.now c.existentials.ensures c.args.place c.requires.place in
    let same : own.0 ≡ here.0 = let e : Some own.0 ≡ Some here.0 = sym own.1 ∙ here.1 in cc in
    let defined : IsDefinition f ranks graph own.0 node = subst (λ rs. IsDefinition f rs graph own.0 node)
    c.deref.ensures.value (c.in_ok-node.ensures.gate own.0 own.2 node c.in-Some.is) in
    let still = known_stays f ranks c.args.graph.now graph d.nodes.items d.rules.items d.guesses.items
    c.read.ensures.extends c.requires.known in
    let known = known_at f ranks lawful.prefix graph c.args.place here.0 d.nodes.items (Some node) d.rules.items
    d.guesses.items here.1 (λ (n : Node) is. subst (IsDefinition f ranks graph here.0) (let e : node ≡ n = cc in e)
    (subst (λ y. IsDefinition f ranks graph y node) same defined)) still in
    let put = set d.nodes.items c.args.place (Some node) in
    subst (λ rs. AreKnown f rs graph c.note.new.self.nodes.items c.note.new.self.rules.items
    c.note.new.self.guesses.items) (sym c.note.ensures.ranks)
    (subst (λ ns. AreKnown f ranks graph ns c.note.new.self.rules.items c.note.new.self.guesses.items)
    (sym c.note.ensures.nodes)
    (subst (λ rs. AreKnown f ranks graph put rs c.note.new.self.guesses.items) (sym c.note.ensures.rules)
    (subst (AreKnown f ranks graph put d.rules.items) (sym c.note.ensures.guesses) known)))
