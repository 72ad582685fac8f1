use Rattle.std.proofs.Common.{refl, ◌∙◌}
use Rattle.definition_order.proofs.Declared.{known_at}
use Rattle.definition_search.proofs.KeptSearches.{asked_search, on_by}
use Rattle.definition_order.proofs.Places.{existential_there}
use Rattle.definition_search.proofs.searching.Search.find.Goals as goal

pub read-requires-clause-existential : goal.read-requires-clause-existential
read-requires-clause-existential g c =
    let here = existential_there c.args.f.now c.every_formula_is_lawful.ensures c.existentials.result.now
    c.existentials.ensures c.args.place c.requires.place in
    rw here.2 refl

pub define-requires-clause-existential : goal.define-requires-clause-existential
define-requires-clause-existential g c =
    let here = existential_there c.args.f.now c.every_formula_is_lawful.ensures c.existentials.result.now
    c.existentials.ensures c.args.place c.requires.place in
    rw here.2 refl

pub returns-in-Some-clause-found : goal.returns-in-Some-clause-found
returns-in-Some-clause-found g c = λ e at.
    let known = known_at c.args.f.now c.every_formula_is_lawful.ensures c.existentials.result.now c.args.place e
    c.existentials.ensures at in
    c.in_ok-node.ensures.gate e known c.in-Some.node c.in-Some.is

pub returns-clause-found : goal.returns-clause-found
returns-clause-found g c = λ e at.
    let known = known_at c.args.f.now c.every_formula_is_lawful.ensures c.existentials.result.now c.args.place e
    c.existentials.ensures at in
    c.in_ok-found.ensures.found e known

pub returns-in_err-found-clause-search : goal.returns-in_err-found-clause-search
returns-in_err-found-clause-search g c =
    asked_search c.engines_leave_the_rest.ensures c.args.f.now c.args.self.now
    (record c.args.self.now { graph = c.define.new.graph }) c.args.place c.args.log.now
    c.define.new.log refl refl refl
    (c.define.ensures.extends.inputs ∙ c.read.ensures.extends.inputs) (c.define.ensures.grew 0) c.define.ensures.same_givens
    c.define.ensures.definability (g.met.O.Oracle.searched c.define.new.oracle c.define.new.log c.define.ensures.fit)
    c.requires.search

pub returns-clause-search : goal.returns-clause-search
returns-clause-search g c =
    asked_search c.engines_leave_the_rest.ensures c.args.f.now c.args.self.now
    (record c.args.self.now { graph = c.define.new.graph }) c.args.place c.args.log.now
    c.define.new.log refl refl refl
    (c.define.ensures.extends.inputs ∙ c.read.ensures.extends.inputs) (c.define.ensures.grew 0) c.define.ensures.same_givens
    c.define.ensures.definability (g.met.O.Oracle.searched c.define.new.oracle c.define.new.log c.define.ensures.fit)
    c.requires.search

pub returns-in_err-found-clause-goes_on : goal.returns-in_err-found-clause-goes_on
returns-in_err-found-clause-goes_on g c =
    on_by c.engines_leave_the_rest.ensures c.args.f.now 0 c.args.log.now c.define.new.log (c.define.ensures.grew 0)
    (g.met.O.Oracle.searched c.define.new.oracle c.define.new.log c.define.ensures.fit) c.requires.search.productive

pub returns-clause-goes_on : goal.returns-clause-goes_on
returns-clause-goes_on g c =
    on_by c.engines_leave_the_rest.ensures c.args.f.now 0 c.args.log.now c.define.new.log (c.define.ensures.grew 0)
    (g.met.O.Oracle.searched c.define.new.oracle c.define.new.log c.define.ensures.fit) c.requires.search.productive
