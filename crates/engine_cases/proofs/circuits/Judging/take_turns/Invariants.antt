use Rattle.engine_cases.specs.Ready.{IsOpen}
use Rattle.engine_cases.proofs.circuits.Judging.take_turns.Given as goal

abbrev pub invariant-loop-turn : goal.invariant-loop-turn
invariant-loop-turn g l = g.O.Oracle.Fits l.self.oracle l.self.log × IsOpen l.f l.self.graph l.self.checker
    l.self.log.entries
