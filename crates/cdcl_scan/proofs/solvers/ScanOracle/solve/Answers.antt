use Rattle.std.proofs.Common.{◌∙◌, ap, Ok}
use Rattle.cdcl_scan.proofs.solvers.ScanOracle.solve.Goals as goal

pub returns-in-Unsat-clause-unsat : goal.returns-in-Unsat-clause-unsat
returns-in-Unsat-clause-unsat c = λ id is. c.in_ok-find.ensures.unsat id (ap (λ f. Ok f) c.in-Unsat.is ∙ is)
