use Rattle.std.proofs.Common.{sym, ◌∙◌, ap}
use Rattle.dq_lits.specs.Derivation.{status_of}
use Rattle.log_laws.proofs.SettledClauses.{settled}
use Rattle.log_laws.proofs.laws.closed_clauses_are_settled.Goals as goal

pub returns : goal.returns
returns c live trues closed id clause is = settled trues clause (ap (status_of trues) (sym is) ∙ closed id)
