use Rattle.std.proofs.Common.{arith}
use Rattle.hint_log.specs.Reached.{itself}
use Rattle.aig_graph.proofs.LargerGraphs.{grown_twice}
use Rattle.interpolants.specs.Splits.{partition_of, local_of}
use Rattle.interpolants.proofs.PartialInterpolants.{nodes_after, answer_part}
use Rattle.interpolants.proofs.ResolvedHints.{is_noted, noted_part}
use Rattle.interpolants.proofs.reading.interpolant.Goals as goal

pub at-part-requires : goal.at-part-requires
at-part-requires c = is_noted (partition_of c.args.split.now)
    (local_of c.args.split.now) c.note_all.new.graph c.note_all.new.notes c.args.split.now.id
    (c.in_ok-note_all.ensures.parts c.args.split.now.id itself)

pub with_asked-requires-clause-node : goal.with_asked-requires-clause-node
with_asked-requires-clause-node c =
    let part =
    noted_part (partition_of c.args.split.now) (local_of c.args.split.now) c.note_all.new.graph c.note_all.new.notes
    c.args.split.now.id c.at-part.result (c.in_ok-note_all.ensures.parts c.args.split.now.id itself) c.at-part.ensures
    c.clause-clause.result.now c.clause-clause.ensures in
    part.is_node

pub with_asked-requires-clause-reads : goal.with_asked-requires-clause-reads
with_asked-requires-clause-reads c =
    let part =
    noted_part (partition_of c.args.split.now) (local_of c.args.split.now) c.note_all.new.graph c.note_all.new.notes
    c.args.split.now.id c.at-part.result (c.in_ok-note_all.ensures.parts c.args.split.now.id itself) c.at-part.ensures
    c.clause-clause.result.now c.clause-clause.ensures in
    part.reads

pub returns-in_err-node-clause-extends : goal.returns-in_err-node-clause-extends
returns-in_err-node-clause-extends c = search (arith, grown_twice)

pub returns-clause-extends : goal.returns-clause-extends
returns-clause-extends c = search (arith, grown_twice)

pub returns-clause-interpolant : goal.returns-clause-interpolant
returns-clause-interpolant c =
    let q = partition_of c.args.split.now in
    let part =
    noted_part (partition_of c.args.split.now) (local_of c.args.split.now) c.note_all.new.graph c.note_all.new.notes
    c.args.split.now.id c.at-part.result (c.in_ok-note_all.ensures.parts c.args.split.now.id itself) c.at-part.ensures
    c.clause-clause.result.now c.clause-clause.ensures in
    answer_part q c.args.split.now.side.now.variables c.note_all.new.graph c.with_asked.new.graph
    c.clause-clause.result.now c.at-part.result c.in_ok-node.node c.requires.side.variables c.requires.shares
    (nodes_after c.args.split.now.shared.now c.args.graph.now c.note_all.new.graph c.note_all.ensures.extends
    c.requires.nodes) c.with_asked.ensures.extends c.clause-clause.ensures part
    c.in_ok-node.ensures.asked
