use Rattle.std.proofs.Common.{length, map, refl, sym, ◌∙◌, ap, subst, arith}
use Rattle.std.specs.List.{All}
use Rattle.dq_lits.specs.Literal.{variable_of}
use Rattle.aig_graph.specs.Graph.{IsEarlierNode}
use Rattle.circuit_cnf.specs.Leaves.{leaf_by}
use Rattle.circuit_cnf.proofs.TurnAnswers.{inputs_count}
use Rattle.circuit_cnf.proofs.ConeLiterals.{grew_in_all}
use Rattle.circuit_cnf.proofs.MarkedInputs.{marked_universals, all_over_universals}
use Rattle.circuit_cnf.proofs.OutputLeaves.{few_by_gates, cone_checker, cones_are_closed, are_leaves}
use Rattle.circuit_cnf.proofs.checkers.Checker.output_leaves.Goals as goal

pub cone_literals-requires-clause-few : goal.cone_literals-requires-clause-few
cone_literals-requires-clause-few g c = search (arith, few_by_gates)

pub invariant_of-cone-clause-closed : goal.invariant_of-cone-clause-closed
invariant_of-cone-clause-closed g c = cones_are_closed c.args.circuit.now.graph.now c.args.circuit.now.outputs.now
    c.cones.new.marks c.cones.ensures.marked

pub returns-in_err-literals-clause-checker : goal.returns-in_err-literals-clause-checker
returns-in_err-literals-clause-checker g c = search (arith, cone_checker)

pub returns-in_err-literals-clause-grew : goal.returns-in_err-literals-clause-grew
returns-in_err-literals-clause-grew g c = search (arith, grew_in_all)

pub returns-in_err-leaves-clause-checker : goal.returns-in_err-leaves-clause-checker
returns-in_err-leaves-clause-checker g c = search (arith, cone_checker)

pub returns-in_err-leaves-clause-grew : goal.returns-in_err-leaves-clause-grew
returns-in_err-leaves-clause-grew g c = search (arith, grew_in_all)

pub returns-clause-checker : goal.returns-clause-checker
returns-clause-checker g c = search (arith, cone_checker)

pub returns-clause-grew : goal.returns-clause-grew
returns-clause-grew g c = search (arith, grew_in_all)

pub returns-clause-leaves : goal.returns-clause-leaves
returns-clause-leaves g c =
    let graph = c.args.circuit.now.graph.now in
    let nodes = c.args.circuit.now.outputs.now in
    let inputs = c.args.self.now.inputs.items in
    let literals = c.in_ok-literals.literals.items in
    let earlier = subst (λ n. All (IsEarlierNode graph.inputs n) nodes)
    (sym c.in_ok-literals.ensures.count) c.requires.nodes in
    are_leaves c.args.circuit.now.f.now graph c.cone_literals.new.log.entries inputs literals c.cones.new.marks nodes
    c.in_ok-leaves.leaves.items
    (marked_universals c.args.circuit.now.f.now graph nodes c.cones.new.marks c.every_graph_is_lawful.ensures
    c.requires.nodes c.requires.read_universals c.cones.ensures.marked)
    (cone_checker c.args.circuit.now.f.now c.args.self.now (record c.args.self.now { gates = c.cone_literals.new.gates })
    (variable_of c.args.self.now.gates.group.selector) c.args.log.now c.cone_literals.new.log
    c.requires.checker refl c.cone_literals.ensures.grew c.cone_literals.ensures.bads c.cone_literals.ensures.known).inputs
    c.in_ok-literals.ensures.leaves c.cones.ensures.marked earlier
    (c.in_ok-leaves.ensures ∙ ap (λ xs. map (leaf_by xs c.deref-4.result.now) nodes) c.deref-3.ensures.value ∙ ap
    (λ ls. map (leaf_by inputs ls) nodes) c.deref-4.ensures.value)

pub invariant_of-cone-clause-universals : goal.invariant_of-cone-clause-universals
invariant_of-cone-clause-universals g c =
    marked_universals c.args.circuit.now.f.now c.args.circuit.now.graph.now c.args.circuit.now.outputs.now
    c.cones.new.marks c.every_graph_is_lawful.ensures c.requires.nodes c.requires.read_universals
    c.cones.ensures.marked

pub node_leaves-requires : goal.node_leaves-requires
node_leaves-requires g c =
    let graph = c.args.circuit.now.graph.now in
    let nodes = c.args.circuit.now.outputs.now in
    let marks = c.cones.new.marks in
    let inputs = c.args.self.now.inputs.items in
    let literals = c.in_ok-literals.literals.items in
    let low = marked_universals c.args.circuit.now.f.now graph nodes marks c.every_graph_is_lawful.ensures
    c.requires.nodes c.requires.read_universals c.cones.ensures.marked in
    let earlier = subst (λ n. All (IsEarlierNode graph.inputs n) nodes)
    (sym c.in_ok-literals.ensures.count) c.requires.nodes in
    let over = all_over_universals c.args.circuit.now.f.now graph nodes marks
    (length literals) low c.cones.ensures.marked earlier in
    let first = subst (λ n. All (IsEarlierNode n (length literals)) nodes)
    (sym (inputs_count c.args.log.now.entries c.args.circuit.now.f.now.universals inputs
    c.requires.checker.inputs)) over in
    let second = subst (λ ls. All (IsEarlierNode (length ls) (length literals)) nodes)
    (sym c.deref-3.ensures.value) first in
    subst (λ ls. All (IsEarlierNode (length c.deref-3.result.now) (length ls)) nodes)
    (sym c.deref-4.ensures.value) second

pub returns-in_err-mark_live-clause-checker : goal.returns-in_err-mark_live-clause-checker
returns-in_err-mark_live-clause-checker g c = search (arith, cone_checker)
