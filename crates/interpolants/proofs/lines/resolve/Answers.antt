use Rattle.std.proofs.Common.{arith}
use Rattle.aig_graph.proofs.LargerGraphs.{grown_twice}
use Rattle.interpolants.specs.Splits.{partition_of, local_of}
use Rattle.interpolants.proofs.ResolvedHints.{is_noted, next_is_node, resolving_first, next_hinted, resolving_next, all_resolved}
use Rattle.interpolants.proofs.lines.resolve.Goals as goal

pub at-node-requires : goal.at-node-requires
at-node-requires c =
    is_noted (partition_of c.args.split.now) (local_of c.args.split.now) c.args.graph.now c.args.notes.now c.args.last
    (c.requires.replay.2 c.args.last c.requires.replay.3.last_hinted)

pub loop-link-init : goal.loop-link-init
loop-link-init c first hints parts replay = search (arith, resolving_first)

pub at-requires : goal.at-requires
at-requires c =
    is_noted (partition_of c.args.split.now) (local_of c.args.split.now) c.args.graph.now c.args.notes.now
    c.in-Some.link.hint
    (c.requires.replay.2 c.in-Some.link.hint (next_hinted c.requires.replay.1 c.loop-link.chain c.pop.new.self
    c.in-Some.link (c.loop-link.invariant c.requires.replay.0 c.requires.replay.1 c.requires.replay.2
    c.requires.replay.3).hinted c.in-Some.ensures.some))

pub returns-in_err-node-clause-extends : goal.returns-in_err-node-clause-extends
returns-in_err-node-clause-extends c = grown_twice c.args.graph.now c.loop-link.graph c.resolved.new.graph
    (c.loop-link.invariant c.requires.replay.0 c.requires.replay.1 c.requires.replay.2 c.requires.replay.3).extends
    c.resolved.ensures.extends

pub loop-link-preserved : goal.loop-link-preserved
loop-link-preserved c first hints parts replay =
    resolving_next (partition_of c.args.split.now) (local_of c.args.split.now) first
    hints c.args.notes.now c.args.graph.now c.loop-link.graph c.resolved.new.graph c.loop-link.chain c.pop.new.self
    c.in-Some.link
    c.loop-link.node c.at.result c.in_ok-node.node c.is_local-local.result c.requires.nodes parts
    (c.loop-link.invariant first hints parts replay)
    c.in-Some.ensures.some c.is_local-local.ensures c.at.ensures c.resolved.ensures.extends c.in_ok-node.ensures.or
    c.in_ok-node.ensures.and

pub resolved-requires-clause-r : goal.resolved-requires-clause-r
resolved-requires-clause-r c =
    next_is_node (partition_of c.args.split.now) (local_of c.args.split.now)
    c.requires.replay.0 c.requires.replay.1 c.args.notes.now c.args.graph.now c.loop-link.graph c.loop-link.chain
    c.pop.new.self c.in-Some.link c.loop-link.node c.at.result
    c.requires.replay.2 (c.loop-link.invariant c.requires.replay.0 c.requires.replay.1 c.requires.replay.2
    c.requires.replay.3) c.in-Some.ensures.some c.at.ensures

pub resolved-requires-clause-p : goal.resolved-requires-clause-p
resolved-requires-clause-p c = (c.loop-link.invariant c.requires.replay.0 c.requires.replay.1 c.requires.replay.2
    c.requires.replay.3).part.is_node

pub returns-clause-extends : goal.returns-clause-extends
returns-clause-extends c = (c.loop-link.invariant c.requires.replay.0 c.requires.replay.1 c.requires.replay.2
    c.requires.replay.3).extends

pub returns-clause-part : goal.returns-clause-part
returns-clause-part c first hints parts replay =
    all_resolved (partition_of c.args.split.now) (local_of c.args.split.now) first hints c.args.graph.now
    c.loop-link.graph c.loop-link.chain c.loop-link.node
    (c.loop-link.invariant first hints parts replay) (c.pop.ensures.none c.in_default.is)
