use Rattle.std.proofs.Common.{get_or, arith}
use Rattle.std.proofs.lemmas.List.{get_or_default}
use Rattle.lifted_proofs.specs.declared.turns.Turn.{Turn}
use Rattle.lifted_proofs.proofs.NamedGoals.{hints-first, turn-named, all-named}
use Rattle.lifted_proofs.proofs.lines.Written.name_all.Goals as goal

abbrev none : Turn
none = record { taken = 0; goal = 0 }

pub name-requires-clause-hints : goal.name-requires-clause-hints
name-requires-clause-hints c =
    let order = c.args.order.now in
    let i = c.loop-turn.turn-index in
    hints-first c.args.table.now c.args.plan.now c.loop-turn.self order i (get_or order i none)
    c.requires.plan c.requires.order c.loop-turn-test.true
    (get_or_default order i none (get_or order i none) c.loop-turn-test.true) c.loop-turn.invariant.1

pub loop-turn-preserved : goal.loop-turn-preserved
loop-turn-preserved c =
    let order = c.args.order.now in
    let i = c.loop-turn.turn-index in (
      c.in_ok-name.ensures.written,
      turn-named c.args.table.now c.args.plan.now c.loop-turn.self c.name.new.self order i (get_or order i none)
          c.loop-turn-test.true (get_or_default order i none (get_or order i none) c.loop-turn-test.true)
          c.loop-turn.invariant.1 c.in_ok-name.ensures.named c.in_ok-name.ensures.kept,
    )

pub returns-clause-named : goal.returns-clause-named
returns-clause-named c = search (arith, all-named)
