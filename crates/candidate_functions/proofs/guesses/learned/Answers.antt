use Rattle.std.proofs.Common.{[], ap, All, Contains, get_or, sym, subst, arith}
use Rattle.std.proofs.lemmas.Result.{IfOk-weaker}
use Rattle.definition_order.proofs.Declared.{some_existential, sees_universals, known_at, declared_at}
use Rattle.dq_lits.proofs.FormulaVariables.{seen_as}
use Rattle.candidate_functions.specs.Pairs.{universal_places, IsByRules}
use Rattle.candidate_functions.specs.Trees.{IsOver}
use Rattle.candidate_functions.proofs.TreeNodes.{unruled}
use Rattle.candidate_functions.proofs.guesses.learned.Goals as goal

pub seen-requires : goal.seen-requires
seen-requires c = search (arith, declared_at)

pub node-requires-clause-seen : goal.node-requires-clause-seen
node-requires-clause-seen c =
    let f = c.args.known.now.f.now in
    let y = get_or c.existentials.result.now c.args.place 0 in
    some_existential f y (All (Contains f.universals) c.seen.result.now) (declared_at f
    c.every_formula_is_lawful.ensures c.existentials.result.now c.args.place c.existentials.ensures c.requires.place)
    (λ e found. subst (All (Contains f.universals)) (sym (seen_as f y c.seen.result.now c.seen.ensures.set e found))
    (sees_universals f c.every_formula_is_lawful.ensures y e found))

pub returns-clause-node : goal.returns-clause-node
returns-clause-node c = λ e at.
    let f = c.args.known.now.f.now in
    let lawful = c.every_formula_is_lawful.ensures in
    let y = get_or c.existentials.result.now c.args.place 0 in
    let found = known_at f lawful c.existentials.result.now c.args.place e c.existentials.ensures at in
    let new = c.node.new.graph in
    let places = universal_places f c.seen.result.now in
    IfOk-weaker c.node.result (IsOver new places) (IsByRules f new [] e)
    (λ n over. unruled f lawful y e found new places
    (ap (universal_places f) (seen_as f y c.seen.result.now c.seen.ensures.set e found)) n over)
    c.node.ensures.node
