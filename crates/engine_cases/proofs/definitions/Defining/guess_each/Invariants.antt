use Rattle.engine_cases.specs.Ready.{IsLinked}
use Rattle.engine_cases.proofs.definitions.Defining.guess_each.Given as goal

abbrev pub invariant-loop-text : goal.invariant-loop-text
invariant-loop-text g l = g.O.Oracle.Fits l.self.oracle l.self.log × IsLinked l.f l.self.graph l.self.definability
    l.self.log.entries
