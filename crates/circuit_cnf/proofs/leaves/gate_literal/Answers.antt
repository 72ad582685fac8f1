use Rattle.std.proofs.Common.{refl, arith}
use Rattle.dq_lits.specs.Literal.{variable_of}
use Rattle.hint_log.specs.declared.origins.Leaf.TheVariants.{Literal as LeafLiteral}
use Rattle.std.proofs.Common.{length, true}
use Rattle.log_laws.specs.Engines.{circuits}
use Rattle.log_laws.proofs.LargerLogs.{leaves_rest}
use Rattle.circuit_cnf.proofs.MarkedInputs.{sides_over_universals}
use Rattle.circuit_cnf.proofs.SideLeaves.{leaf_is_circuit, side_leaves, gate_leaf}
use Rattle.circuit_cnf.proofs.leaves.gate_literal.Goals as goal

pub variable-requires-clause-sides : goal.variable-requires-clause-sides
variable-requires-clause-sides g c =
    let es = c.args.log.now.entries in
    let s = side_leaves c.args.cone.now.f.now c.args.cone.now.graph.now es c.args.cone.now.inputs.now
    c.args.literals.now c.args.cone.now.marks.now c.args.cone.now.universals c.requires.inputs c.requires.leaves
    c.args.cone.now.closed c.requires.marked
    c.in-Gate.a c.in-Gate.b c.in-Gate.field-2 c.side_literal-a.result c.side_literal-b.result c.in-Gate.ensures
    c.side_literal-a.ensures c.side_literal-b.ensures in (
      leaf_is_circuit c.args.cone.now.f.now c.args.cone.now.graph.now es s.sides.left
          (LeafLiteral c.side_literal-a.result) s.left c.side_literal-a.result refl,
      leaf_is_circuit c.args.cone.now.f.now c.args.cone.now.graph.now es s.sides.right
          (LeafLiteral c.side_literal-b.result) s.right c.side_literal-b.result refl,
    )

pub returns-clause-leaf : goal.returns-clause-leaf
returns-clause-leaf g c =
    let es = c.args.log.now.entries in
    let s = side_leaves c.args.cone.now.f.now c.args.cone.now.graph.now es c.args.cone.now.inputs.now
    c.args.literals.now c.args.cone.now.marks.now c.args.cone.now.universals c.requires.inputs c.requires.leaves
    c.args.cone.now.closed c.requires.marked
    c.in-Gate.a c.in-Gate.b c.in-Gate.field-2 c.side_literal-a.result c.side_literal-b.result c.in-Gate.ensures
    c.side_literal-a.ensures c.side_literal-b.ensures in
    let stay = (leaves_rest c.args.cone.now.f.now circuits (variable_of c.args.gates.now.group.selector) true
    c.args.log.now c.variable.new.log (c.variable.ensures.grew c.args.cone.now.f.now es)).names in
    gate_leaf c.args.cone.now.f.now c.args.cone.now.graph.now es c.variable.new.log.entries
    (length c.args.literals.now) c.in_ok-v-in-Gate.v c.side_literal-a.result c.side_literal-b.result c.pos.result
    stay s c.in_ok-v-in-Gate.ensures.named c.pos.ensures

pub side_literal-a-requires-clause-earlier : goal.side_literal-a-requires-clause-earlier
side_literal-a-requires-clause-earlier g c =
    search (
      arith,
      (sides_over_universals c.args.cone.now.f.now c.args.cone.now.graph.now c.args.cone.now.marks.now (length c.args.literals.now) c.args.cone.now.universals c.args.cone.now.closed c.requires.marked c.in-Gate.a c.in-Gate.b c.in-Gate.field-2 c.in-Gate.ensures),
    )

pub side_literal-b-requires-clause-earlier : goal.side_literal-b-requires-clause-earlier
side_literal-b-requires-clause-earlier g c =
    search (
      arith,
      (sides_over_universals c.args.cone.now.f.now c.args.cone.now.graph.now c.args.cone.now.marks.now (length c.args.literals.now) c.args.cone.now.universals c.args.cone.now.closed c.requires.marked c.in-Gate.a c.in-Gate.b c.in-Gate.field-2 c.in-Gate.ensures),
    )
