use Rattle.std.proofs.Common.{[], ◌∷◌, get_or, IsSome, true, refl, sym, subst, arith}
use Rattle.log_laws.specs.Engines.{copies, IsAddedBy}
use Rattle.definability.specs.Copies.{group_variable}
use Rattle.cert_text.specs.DefinitionBlocks.{defined}
use Rattle.cert_text.specs.DefinitionsRead.{definition_seen}
use Rattle.definition_search.specs.Texts.{AreRightBlocks}
use Rattle.definition_search.proofs.KeptSearches.{on_by, proved_search, some_at, still_productive, variable_at}
use Rattle.definition_search.proofs.ReadNames.{read_stays}
use Rattle.definition_search.proofs.RightBlocks.{definition_right}
use Rattle.definition_order.proofs.Places.{existential_there}
use Rattle.definition_search.proofs.searching.Search.definition.Goals as goal

pub prove-requires-clause-definition : goal.prove-requires-clause-definition
prove-requires-clause-definition g c =
    let here = existential_there c.args.f.now c.every_formula_is_lawful.ensures c.existentials.result.now
    c.existentials.ensures c.args.place c.requires.place in
    record { ranks = []; existential = here.0; found = here.2; definition = c.requires.definition here.0 here.1 }

pub prove-requires-clause-none : goal.prove-requires-clause-none
prove-requires-clause-none g c =
    c.requires.search.undiffered c.args.place (get_or c.existentials.result.now c.args.place 0) (omega arith)
    (some_at c.args.f.now c.every_formula_is_lawful.ensures c.existentials.result.now c.existentials.ensures
    c.args.place c.requires.place)

pub read_on-requires : goal.read_on-requires
read_on-requires g c =
    read_stays (IsAddedBy c.args.f.now copies (group_variable c.args.self.now.terms.group) true c.args.log.now.entries)
    c.args.self.now.order c.args.log.now c.prove.new.log c.prove.ensures.grew c.requires.search.read

pub export_definition-requires-clause-can : goal.export_definition-requires-clause-can
export_definition-requires-clause-can g c =
    let f = c.args.f.now in
    let old = c.args.log.now in
    let new = c.prove.new.log in
    let y = get_or c.existentials.result.now c.args.place 0 in
    let searched = g.met.O.Oracle.searched c.prove.new.oracle new c.prove.ensures.fit in
    let here = existential_there f c.every_formula_is_lawful.ensures c.existentials.result.now c.existentials.ensures
    c.args.place c.requires.place in
    c.productive_definitions_can_be_exported.ensures f new.entries c.in_ok-proved.proved.id y c.in_ok-proved.proved.leaf
    searched.logged (still_productive c.engines_leave_the_rest.ensures f
    (group_variable c.args.self.now.terms.group) old new c.prove.ensures.grew searched c.requires.search.productive)
    c.in_ok-proved.ensures.beside.sides c.in_ok-proved.ensures.declared (subst IsSome (sym here.2) refl)
    c.in_ok-proved.ensures.shown

pub returns-clause-search : goal.returns-clause-search
returns-clause-search g c =
    let f = c.args.f.now in
    let new = c.prove.new.log in
    proved_search c.engines_leave_the_rest.ensures f c.every_formula_is_lawful.ensures c.args.self.now
    (record c.args.self.now { terms = c.prove.new.self; order = c.read_on.new.self }) c.args.place
    (get_or c.existentials.result.now c.args.place 0) c.args.log.now new
    (some_at f c.every_formula_is_lawful.ensures c.existentials.result.now c.existentials.ensures c.args.place
    c.requires.place) refl c.prove.ensures.grew
    (g.met.O.Oracle.searched c.prove.new.oracle new c.prove.ensures.fit) c.in_ok-proved.ensures.beside
    c.read_on.ensures.read c.prove.ensures.differs c.requires.search

pub returns-clause-block : goal.returns-clause-block
returns-clause-block g c = λ y at.
    let f = c.args.f.now in
    let variable = get_or c.existentials.result.now c.args.place 0 in
    let here = existential_there f c.every_formula_is_lawful.ensures c.existentials.result.now c.existentials.ensures
    c.args.place c.requires.place in
    let d = c.in_ok-d.d in
    let gates = c.if-len-gt-MOST.false in
    let steps = c.if-len-gt-MOST-2.false in
    let many = c.len-else-len-gt-MOST.ensures.value in
    subst (λ v. AreRightBlocks f (v ∷ []) (defined (definition_seen d) ∷ []))
    (variable_at f c.existentials.result.now c.existentials.ensures c.args.place y at)
    (definition_right f here.0 variable c.args.self.now.graph c.args.node c.prove.new.log.entries
    c.in_ok-proved.proved.leaf (definition_seen d) here.2 (c.requires.definition here.0 here.1)
    c.in_ok-proved.ensures.reads c.in_ok-d.ensures (omega (arith, gates)) (omega (arith, steps, many)))

pub returns-in_err-proved-clause-goes_on : goal.returns-in_err-proved-clause-goes_on
returns-in_err-proved-clause-goes_on g c =
    on_by c.engines_leave_the_rest.ensures c.args.f.now (group_variable c.args.self.now.terms.group) c.args.log.now
    c.prove.new.log c.prove.ensures.grew
    (g.met.O.Oracle.searched c.prove.new.oracle c.prove.new.log c.prove.ensures.fit) c.requires.search.productive

pub returns-in_err-read_on-clause-goes_on : goal.returns-in_err-read_on-clause-goes_on
returns-in_err-read_on-clause-goes_on g c =
    on_by c.engines_leave_the_rest.ensures c.args.f.now (group_variable c.args.self.now.terms.group) c.args.log.now
    c.prove.new.log c.prove.ensures.grew
    (g.met.O.Oracle.searched c.prove.new.oracle c.prove.new.log c.prove.ensures.fit) c.requires.search.productive

pub returns-in_err-d-clause-goes_on : goal.returns-in_err-d-clause-goes_on
returns-in_err-d-clause-goes_on g c =
    on_by c.engines_leave_the_rest.ensures c.args.f.now (group_variable c.args.self.now.terms.group) c.args.log.now
    c.prove.new.log c.prove.ensures.grew
    (g.met.O.Oracle.searched c.prove.new.oracle c.prove.new.log c.prove.ensures.fit) c.requires.search.productive

pub returns-then-len-gt-MOST-clause-goes_on : goal.returns-then-len-gt-MOST-clause-goes_on
returns-then-len-gt-MOST-clause-goes_on g c =
    on_by c.engines_leave_the_rest.ensures c.args.f.now (group_variable c.args.self.now.terms.group) c.args.log.now
    c.prove.new.log c.prove.ensures.grew
    (g.met.O.Oracle.searched c.prove.new.oracle c.prove.new.log c.prove.ensures.fit) c.requires.search.productive

pub returns-clause-goes_on : goal.returns-clause-goes_on
returns-clause-goes_on g c =
    on_by c.engines_leave_the_rest.ensures c.args.f.now (group_variable c.args.self.now.terms.group) c.args.log.now
    c.prove.new.log c.prove.ensures.grew
    (g.met.O.Oracle.searched c.prove.new.oracle c.prove.new.log c.prove.ensures.fit) c.requires.search.productive
