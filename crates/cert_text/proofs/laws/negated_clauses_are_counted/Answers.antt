use Rattle.cert_text.proofs.NegatedClauses.{clauses_counted}
use Rattle.cert_text.proofs.laws.negated_clauses_are_counted.Goals as goal

pub returns : goal.returns
returns c f net circuit_literal = clauses_counted f net circuit_literal
