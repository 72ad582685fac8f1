use Rattle.std.proofs.Common.{sym, ◌∙◌, subst, true, arith}
use Rattle.aig_graph.specs.declared.nodes.Node.TheVariants.{Constant}
use Rattle.interpolants.proofs.Sided.{on_a_by_selectors}
use Rattle.interpolants.specs.Interpolant.{IsReachedGiven}
use Rattle.interpolants.specs.Parts.{IsPartOf}
use Rattle.interpolants.specs.Splits.{partition_of, local_of}
use Rattle.interpolants.proofs.PartialInterpolants.{leaf_a, leaf_b}
use Rattle.interpolants.proofs.ResolvedHints.{part_of_clause}
use Rattle.interpolants.proofs.parts.part.Goals as goal

pub returns-then-is_on_side-clause-part : goal.returns-then-is_on_side-clause-part
returns-then-is_on_side-clause-part c =
    let q = partition_of c.args.split.now in
    let given : IsReachedGiven q c.args.at c.clause-clause.result.now = search arith in
    part_of_clause q (local_of c.args.split.now) c.shared_part.new.graph c.args.at c.clause-clause.result.now
    c.in_ok-node-2.node c.clause-clause.ensures
    (leaf_a q c.args.split.now.side.now.variables c.shared_part.new.graph c.args.at c.clause-clause.result.now
    c.in_ok-node-2.node c.requires.side.variables given
    (sym (on_a_by_selectors q c.args.split.now.side.now.selectors c.requires.side.selectors c.clause-clause.result.now)
    ∙ sym c.is_on_side.ensures ∙ c.if-is_on_side.true) c.in_ok-node-2.ensures.part)

pub returns-clause-part : goal.returns-clause-part
returns-clause-part c =
    let q = partition_of c.args.split.now in
    let local = local_of c.args.split.now in
    let given : IsReachedGiven q c.args.at c.clause-clause.result.now = search arith in
    subst (IsPartOf q local c.args.graph.now c.args.at) (sym c.constant.ensures)
    (part_of_clause q local c.args.graph.now c.args.at c.clause-clause.result.now
    (Constant true) c.clause-clause.ensures
    (leaf_b q c.args.split.now.side.now.variables c.args.graph.now c.args.at c.clause-clause.result.now
    c.requires.side.variables c.requires.shares given
    (sym (on_a_by_selectors q c.args.split.now.side.now.selectors c.requires.side.selectors c.clause-clause.result.now)
    ∙ sym c.is_on_side.ensures ∙ c.if-is_on_side.false)))
