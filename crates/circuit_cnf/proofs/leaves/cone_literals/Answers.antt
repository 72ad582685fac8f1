use Rattle.std.proofs.Common.{◌≡◌, ◌∙◌, ◌+◌, true, false, length, sym, subst}
use Rattle.dq_lits.specs.Row.{bit_of}
use Rattle.aig_graph.specs.declared.nodes.Node.TheVariants.{Gate}
use Rattle.hint_log.specs.declared.origins.Leaf.TheVariants.{Literal as LeafLiteral}
use Rattle.circuit_cnf.specs.Leaves.{HasLeaf}
use Rattle.circuit_cnf.proofs.ConeLiterals.{LiteralsSoFar, IsNextLiteral, stopped, literal_more}
use Rattle.circuit_cnf.proofs.leaves.cone_literals.Goals as goal

pub returns-in_err-l-clause-grew : goal.returns-in_err-l-clause-grew
returns-in_err-l-clause-grew g c =
    stopped c.args.cone.now.f.now c.args.cone.now.graph.now c.args.cone.now.inputs.now c.args.cone.now.marks.now
    c.args.gates.now c.args.log.now c.loop.gates c.loop.log c.next_literal.new.log c.loop.literals.items
    c.loop.counter c.loop.invariant.1 c.next_literal.ensures.grew

pub returns-in_err-push-clause-grew : goal.returns-in_err-push-clause-grew
returns-in_err-push-clause-grew g c =
    stopped c.args.cone.now.f.now c.args.cone.now.graph.now c.args.cone.now.inputs.now c.args.cone.now.marks.now
    c.args.gates.now c.args.log.now c.loop.gates c.loop.log c.next_literal.new.log c.loop.literals.items
    c.loop.counter c.loop.invariant.1 c.next_literal.ensures.grew

pub loop-preserved : goal.loop-preserved
loop-preserved g c =
    let l = c.in_ok-l.l in
    let next : IsNextLiteral c.args.cone.now.f.now c.args.cone.now.graph.now c.args.cone.now.marks.now c.loop.gates
    c.loop.log c.next_literal.new.gates c.next_literal.new.log l (length c.loop.literals.items) = record {
      grew = c.next_literal.ensures.grew;
      group = c.next_literal.ensures.group;
      earlier = c.next_literal.ensures.earlier;
      faults = c.next_literal.ensures.faults;
      bads = c.next_literal.ensures.bads;
      known = c.next_literal.ensures.known;
      ready = c.in_ok-l.ensures.ready;
      leaf = subst (λ xs. bit_of c.args.cone.now.marks.now (c.args.cone.now.graph.now.inputs + length xs) ≡ true →
          HasLeaf c.args.cone.now.f.now c.args.cone.now.graph.now c.next_literal.new.log.entries
          (Gate (length xs) false) (LeafLiteral l)) c.deref.ensures.value c.in_ok-l.ensures.leaf;
    } in
    let more = literal_more c.args.cone.now.f.now c.args.cone.now.graph.now c.args.cone.now.inputs.now
    c.args.cone.now.marks.now c.args.gates.now c.args.log.now c.loop.gates c.loop.log c.next_literal.new.gates
    c.next_literal.new.log c.loop.literals.items l c.loop.counter c.loop.invariant.1 next in (
      c.next_literal.ensures.fit,
      subst (λ xs. LiteralsSoFar c.args.cone.now.f.now c.args.cone.now.graph.now
          c.args.cone.now.inputs.now c.args.cone.now.marks.now c.args.gates.now c.args.log.now c.next_literal.new.gates
          c.next_literal.new.log xs (c.loop.counter + 1)) (sym c.in_ok-push.ensures.items) more,
    )

pub returns-in_err-l-clause-earlier : goal.returns-in_err-l-clause-earlier
returns-in_err-l-clause-earlier g c = c.next_literal.ensures.earlier ∙ c.loop.invariant.1.earlier

pub returns-in_err-push-clause-earlier : goal.returns-in_err-push-clause-earlier
returns-in_err-push-clause-earlier g c = c.next_literal.ensures.earlier ∙ c.loop.invariant.1.earlier

pub returns-clause-earlier : goal.returns-clause-earlier
returns-clause-earlier g c = c.loop.invariant.1.earlier
