use Rattle.std.proofs.Common.{sym, subst}
use Rattle.engine_cases.proofs.UniversalInputs.{read_universals}
use Rattle.engine_cases.proofs.Rounds.{turn_failed}
use Rattle.engine_cases.proofs.circuits.Judging.judge.Goals as goal

pub returns-in_ok-round-in-Ok-Fails-clause-fit : goal.returns-in_ok-round-in-Ok-Fails-clause-fit
returns-in_ok-round-in-Ok-Fails-clause-fit g c = λ e.
    subst (g.O.Oracle.Fits c.turn.new.oracle) (sym c.in_ok-round-in-Ok-Fails.ensures.ok)
    (g.met.O.Oracle.round c.turn.new.oracle c.turn.new.log _ _ _ c.turn.ensures.fit)

pub returns-in_ok-round-in-Ok-Fails-clause-open : goal.returns-in_ok-round-in-Ok-Fails-clause-open
returns-in_ok-round-in-Ok-Fails-clause-open g c = λ e.
    turn_failed c.checkers_stay_with_rounds.ensures c.args.f.now c.args.self.now.graph c.turn.new.self c.turn.new.log
    c.round.new.self _ _ _
    c.requires.«open».inputs c.turn.ensures.turned.checker c.turn.ensures.turned.few
    c.in_ok-round-in-Ok-Fails.ensures.ok

pub turn-requires-clause-read_universals : goal.turn-requires-clause-read_universals
turn-requires-clause-read_universals g c =
    read_universals c.args.f.now c.args.self.now.graph c.requires.«open».inputs c.every_graph_is_lawful.ensures
    c.args.outputs.now c.requires.nodes
