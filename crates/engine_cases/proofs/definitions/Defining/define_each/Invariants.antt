use Rattle.engine_cases.specs.Ready.{IsLinked}
use Rattle.engine_cases.proofs.definitions.Defining.define_each.Given as goal

abbrev pub invariant-loop-word : goal.invariant-loop-word
invariant-loop-word g l = g.O.Oracle.Fits l.self.oracle l.self.log × IsLinked l.f l.self.graph l.self.definability
    l.self.log.entries
