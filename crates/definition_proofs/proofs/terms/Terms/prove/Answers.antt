use Rattle.std.proofs.Common.{arith}
use Rattle.definition_proofs.proofs.KnownTerms.{own_growth, definability_still}
use Rattle.definition_proofs.proofs.ProvedDefinitions.{own_differs}
use Rattle.definition_proofs.proofs.terms.Terms.prove.Goals as goal

pub returns-in_err-proved-clause-grew : goal.returns-in_err-proved-clause-grew
returns-in_err-proved-clause-grew g c = search (arith, own_growth)

pub returns-in_err-proved-clause-definability : goal.returns-in_err-proved-clause-definability
returns-in_err-proved-clause-definability g c = search (arith, definability_still)

pub returns-in_err-proved-clause-differs : goal.returns-in_err-proved-clause-differs
returns-in_err-proved-clause-differs g c = search (arith, own_differs)

pub returns-clause-grew : goal.returns-clause-grew
returns-clause-grew g c = search (arith, own_growth)

pub returns-clause-definability : goal.returns-clause-definability
returns-clause-definability g c = c.in_ok-proved.ensures.proved.beside.definability

pub returns-clause-differs : goal.returns-clause-differs
returns-clause-differs g c = search (arith, own_differs)
