use Rattle.definition_export.proofs.ReadTerms.{IsReadTo}
use Rattle.definition_export.proofs.terms.TermOrder.read_on.Given as goal

abbrev pub invariant-loop-place : goal.invariant-loop-place
invariant-loop-place l = IsReadTo l.self l.log.entries l.place
