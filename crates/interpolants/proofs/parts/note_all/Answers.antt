use Rattle.std.proofs.Common.{get_or, arith}
use Rattle.aig_graph.proofs.LargerGraphs.{grown_twice}
use Rattle.interpolants.specs.Splits.{partition_of, local_of}
use Rattle.interpolants.proofs.Sided.{contains_place}
use Rattle.interpolants.proofs.NotedParts.{noted_before, noted_more, all_noted}
use Rattle.interpolants.proofs.parts.note_all.Goals as goal

pub part-requires-clause-id : goal.part-requires-clause-id
part-requires-clause-id c =
    let at = get_or c.args.ids.now c.loop-at.at-index 0 in
    c.reached_are_ids.ensures c.args.split.now.log.now.entries c.args.split.now.id at c.every_log_is_lawful.ensures
    c.requires.id
    (c.requires.ids.sound at (contains_place c.args.ids.now c.loop-at.at-index c.loop-at-test.true))

pub part-requires-clause-parts : goal.part-requires-clause-parts
part-requires-clause-parts c = search (arith, noted_before)

pub returns-in_err-node-clause-extends : goal.returns-in_err-node-clause-extends
returns-in_err-node-clause-extends c = search (arith, grown_twice)

pub loop-at-preserved : goal.loop-at-preserved
loop-at-preserved c =
    noted_more (partition_of c.args.split.now) (local_of c.args.split.now) c.args.graph.now
    c.loop-at.graph c.part.new.graph c.args.ids.now c.loop-at.at-index c.loop-at.notes c.put.new.self c.in_ok-node.node
    c.requires.ids
    c.requires.nodes c.loop-at-test.true c.loop-at.invariant c.part.ensures.extends c.in_ok-node.ensures.part
    c.in_ok-put.ensures

pub returns-clause-parts : goal.returns-clause-parts
returns-clause-parts c = search (arith, all_noted)

pub returns-in_err-put-clause-extends : goal.returns-in_err-put-clause-extends
returns-in_err-put-clause-extends c = search (arith, grown_twice)
