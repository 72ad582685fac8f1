use Rattle.std.proofs.Common.{refl, subst, arith}
use Rattle.definition_order.proofs.Declared.{known_at}
use Rattle.defining_nodes.specs.Definitions.{IsDefinition}
use Rattle.aig_graph.proofs.LargerGraphs.{grown_twice}
use Rattle.known_functions.proofs.Asked.{asked_by, grown_asked}
use Rattle.definition_order.proofs.Places.{existential_there}
use Rattle.known_functions.proofs.definitions.Definitions.ask.Goals as goal

pub read-requires-clause-existential : goal.read-requires-clause-existential
read-requires-clause-existential g c =
    let here = existential_there c.args.existential.now.f.now c.every_formula_is_lawful.ensures
    c.existentials.result.now c.existentials.ensures c.args.existential.now.place c.requires.place in
    rw here.2 refl

pub define-requires-clause-existential : goal.define-requires-clause-existential
define-requires-clause-existential g c =
    let here = existential_there c.args.existential.now.f.now c.every_formula_is_lawful.ensures
    c.existentials.result.now c.existentials.ensures c.args.existential.now.place c.requires.place in
    rw here.2 refl

pub returns-in-Some-clause-found : goal.returns-in-Some-clause-found
returns-in-Some-clause-found g c e at =
    let known = known_at c.args.existential.now.f.now c.every_formula_is_lawful.ensures c.existentials.result.now
    c.args.existential.now.place e c.existentials.ensures at in
    subst (λ ranks. IsDefinition c.args.existential.now.f.now ranks c.read.new.graph e c.in-Some.node)
    c.deref.ensures.value (c.in_ok-node.ensures.gate e known c.in-Some.node c.in-Some.is)

pub returns-clause-found : goal.returns-clause-found
returns-clause-found g c e at = search (arith, known_at)

pub returns-in_err-node-clause-asked : goal.returns-in_err-node-clause-asked
returns-in_err-node-clause-asked g c = grown_asked _ _ _ _ _ c.requires.may c.read.ensures.extends

pub returns-in-Some-clause-asked : goal.returns-in-Some-clause-asked
returns-in-Some-clause-asked g c = grown_asked _ _ _ _ _ c.requires.may c.read.ensures.extends

pub returns-in_err-found-clause-asked : goal.returns-in_err-found-clause-asked
returns-in_err-found-clause-asked g c = search (arith, asked_by, grown_twice)

pub returns-clause-asked : goal.returns-clause-asked
returns-clause-asked g c = search (arith, asked_by, grown_twice)
