use Rattle.std.proofs.Common.{map}
use Rattle.dq_lits.specs.Literal.{opposite}
use Rattle.hint_log.specs.Reached.{itself, by_hint}
use Rattle.interpolants.specs.Splits.{partition_of, local_of}
use Rattle.interpolants.proofs.ResolvedHints.{noted_hints, part_of_clause}
use Rattle.interpolants.proofs.lines.by_chain.Goals as goal

pub replay-requires-clause-ids : goal.replay-requires-clause-ids
replay-requires-clause-ids c = λ hint has.
    c.reached_are_ids.ensures c.args.split.now.log.now.entries c.args.at hint c.every_log_is_lawful.ensures
    c.requires.id
    (by_hint c.args.at hint c.hints-hints.result.now itself c.hints-hints.ensures.value has)

pub replay-requires-clause-derived : goal.replay-requires-clause-derived
replay-requires-clause-derived c =
    c.requires.derived c.args.at c.clause-clause.result.now c.hints-hints.result.now c.clause-clause.ensures
    c.requires.not_given c.hints-hints.ensures.value

pub resolve-requires-clause-replay : goal.resolve-requires-clause-replay
resolve-requires-clause-replay c = (
  map opposite c.clause-clause.result.now,
  c.hints-hints.result.now,
  noted_hints (partition_of c.args.split.now) (local_of c.args.split.now) c.args.graph.now c.args.notes.now c.args.at
      c.hints-hints.result.now c.requires.reached c.hints-hints.ensures.value
      c.hints-hints.ensures.earlier c.requires.parts,
  c.in_ok-last.ensures,
)

pub returns-clause-part : goal.returns-clause-part
returns-clause-part c =
    part_of_clause (partition_of c.args.split.now) (local_of c.args.split.now) c.resolve.new.graph c.args.at
    c.clause-clause.result.now c.in_ok-node.node c.clause-clause.ensures
    (c.in_ok-node.ensures.part (map opposite c.clause-clause.result.now) c.hints-hints.result.now
    (noted_hints (partition_of c.args.split.now) (local_of c.args.split.now) c.args.graph.now c.args.notes.now c.args.at
    c.hints-hints.result.now c.requires.reached c.hints-hints.ensures.value
    c.hints-hints.ensures.earlier c.requires.parts) c.in_ok-last.ensures)
