use Rattle.std.proofs.Common.{◌≡◌, arith}
use Rattle.log_laws.proofs.Kept.{named_stay}
use Rattle.definability.specs.Copies.{copies_of, group_variable}
use Rattle.definition_proofs.proofs.NodeLiterals.{sides_known, stopped, literal_more, known_found, node_known}
use Rattle.definition_proofs.proofs.KnownTerms.{no_formula, names_stay, few_still}
use Rattle.definition_proofs.proofs.terms.Terms.leaf.Goals as goal

pub gate_literal-requires-clause-few : goal.gate_literal-requires-clause-few
gate_literal-requires-clause-few g c =
    few_still no_formula (group_variable c.args.self.now.group) 0 c.args.log.now c.loop-at.log
    (c.loop-at.invariant.1.grew no_formula 0) c.requires.few

pub gate_literal-requires-clause-copies : goal.gate_literal-requires-clause-copies
gate_literal-requires-clause-copies g c =
    named_stay c.args.log.now.entries c.loop-at.log.entries
    (names_stay no_formula (group_variable c.args.self.now.group) 0 c.args.log.now c.loop-at.log
    (c.loop-at.invariant.1.grew no_formula 0)) (copies_of c.args.inputs.now.copy.now) _ c.requires.copies

pub gate_literal-requires-clause-sides : goal.gate_literal-requires-clause-sides
gate_literal-requires-clause-sides g c = sides_known c.args.inputs.now.f.now c.args.inputs.now.graph.now c.args.node c.in_ok-gates.gates.items
    c.args.self.now c.args.log.now c.loop-at.self c.loop-at.log c.loop-at.literals c.loop-at.at c.index-g.result.now
    c.every_graph_is_lawful.ensures c.in_ok-gates.ensures c.loop-at.invariant.1 c.loop-at-test.true c.index-g.ensures

pub returns-in_err-l-clause-grew : goal.returns-in_err-l-clause-grew
returns-in_err-l-clause-grew g c = stopped c.args.inputs.now.f.now c.args.inputs.now.graph.now c.args.node c.in_ok-gates.gates.items
    c.args.self.now c.args.log.now c.loop-at.self c.loop-at.log c.loop-at.literals c.loop-at.at c.index-g.result.now
    c.every_graph_is_lawful.ensures c.in_ok-gates.ensures c.loop-at.invariant.1 c.loop-at-test.true c.index-g.ensures
    c.gate_literal.new.self c.gate_literal.new.log c.gate_literal.ensures.grew

pub returns-in_err-insert-clause-grew : goal.returns-in_err-insert-clause-grew
returns-in_err-insert-clause-grew g c = stopped c.args.inputs.now.f.now c.args.inputs.now.graph.now c.args.node c.in_ok-gates.gates.items
    c.args.self.now c.args.log.now c.loop-at.self c.loop-at.log c.loop-at.literals c.loop-at.at c.index-g.result.now
    c.every_graph_is_lawful.ensures c.in_ok-gates.ensures c.loop-at.invariant.1 c.loop-at-test.true c.index-g.ensures
    c.gate_literal.new.self c.gate_literal.new.log c.gate_literal.ensures.grew

pub loop-at-preserved : goal.loop-at-preserved
loop-at-preserved g c = (
  c.gate_literal.ensures.fit,
  literal_more c.args.inputs.now.f.now c.args.inputs.now.graph.now c.args.node c.in_ok-gates.gates.items
      c.args.self.now c.args.log.now c.loop-at.self c.loop-at.log c.loop-at.literals c.loop-at.at c.index-g.result.now
      c.every_graph_is_lawful.ensures c.in_ok-gates.ensures c.loop-at.invariant.1 c.loop-at-test.true c.index-g.ensures
      c.gate_literal.new.self c.gate_literal.new.log c.gate_literal.ensures.grew c.in_ok-l.l c.in_ok-l.ensures.leaf
      c.insert.new.self c.in_ok-insert.ensures.updates,
)

pub leaf-requires-clause-found : goal.leaf-requires-clause-found
leaf-requires-clause-found g c =
    let f = c.args.inputs.now.f.now in
    let graph = c.args.inputs.now.graph.now in
    let gates = c.in_ok-gates.gates.items in
    let at = c.loop-at.at in
    let none : at ≡ 0 = let test = c.loop-at-test.false in omega (arith, test) in
    known_found f graph c.loop-at.log.entries c.loop-at.literals c.args.node
    (node_known f graph c.args.node gates c.args.self.now c.args.log.now c.loop-at.self c.loop-at.log c.loop-at.literals
    at none c.in_ok-gates.ensures c.loop-at.invariant.1)

pub returns-clause-leaf : goal.returns-clause-leaf
returns-clause-leaf g c =
    let f = c.args.inputs.now.f.now in
    let graph = c.args.inputs.now.graph.now in
    let gates = c.in_ok-gates.gates.items in
    let at = c.loop-at.at in
    let none : at ≡ 0 = let test = c.loop-at-test.false in omega (arith, test) in
    let es = c.loop-at.log.entries in
    record {
      grew = c.loop-at.invariant.1.grew;
      group = c.loop-at.invariant.1.group;
      terms = c.loop-at.invariant.1.terms_known;
      sides = c.loop-at.invariant.1.sides;
      leaf_is = c.leaf.ensures es
          (named_stay c.args.log.now.entries es
          (names_stay no_formula (group_variable c.args.self.now.group) 0 c.args.log.now c.loop-at.log
          (c.loop-at.invariant.1.grew no_formula 0)) (copies_of c.args.inputs.now.copy.now) _ c.requires.copies)
          (node_known f graph c.args.node gates c.args.self.now c.args.log.now c.loop-at.self c.loop-at.log
          c.loop-at.literals at none c.in_ok-gates.ensures c.loop-at.invariant.1);
    }
