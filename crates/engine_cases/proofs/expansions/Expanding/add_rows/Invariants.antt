use Rattle.engine_cases.specs.Ready.{IsTableOfRounds}
use Rattle.engine_cases.proofs.expansions.Expanding.add_rows.Given as goal

abbrev pub invariant-loop-row : goal.invariant-loop-row
invariant-loop-row g l = g.O.Oracle.Fits l.self.oracle l.self.log × IsTableOfRounds l.f l.self.table l.self.log.entries
