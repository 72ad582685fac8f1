use Rattle.dq_session.specs.Giving.{IsGiving}
use Rattle.dq_session.proofs.LivePlaces.{AreGivenTo}
use Rattle.dq_session.proofs.databases.ClauseDatabase.give_live.Given as goal

abbrev pub invariant-loop-at : goal.invariant-loop-at
invariant-loop-at g l = (g.O.Oracle.Fits l.oracle l.log) × IsGiving l.fn.self l.fn.log l.self l.log
    × AreGivenTo l.self l.at
