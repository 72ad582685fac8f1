use Rattle.std.proofs.Common.{◌≡◌, ◌≤◌, length}
use Rattle.oracle.specs.declared.groups.Group.{Group}
use Rattle.dq_session.specs.Databases.{frame_at, given_at, HasGroup}
use Rattle.dq_session.specs.Giving.{IsGiving}
use Rattle.dq_session.proofs.databases.ClauseDatabase.give_clause.Given as goal

abbrev pub invariant-loop-k : goal.invariant-loop-k
invariant-loop-k g l = (g.O.Oracle.Fits l.oracle l.log) × IsGiving l.fn.self l.fn.log l.self l.log
    × (l.rows ≡ length l.self.table.rows) × (l.k ≤ l.rows) × (given_at l.self l.place ≡ l.k)
    × ((h : Group) × HasGroup l.self (frame_at l.self l.place) h)
