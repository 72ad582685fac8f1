use Rattle.lifted_proofs.specs.Liftings.{IsNaming}
use Rattle.lifted_proofs.proofs.liftings.Lifting.name_clause.Given as goal

abbrev pub invariant-loop-q : goal.invariant-loop-q
invariant-loop-q l = IsNaming l.self l.j l.found l.q l.named
