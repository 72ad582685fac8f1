use Rattle.proof_checker.proofs.NegatedClauses.{even_bit, gate_true, opposite_bit, without_true}
use Rattle.proof_checker.proofs.laws.circuit_clauses_hold.Goals as goal

pub returns-clause-variable : goal.returns-clause-variable
returns-clause-variable c e v = even_bit e v

pub returns-clause-opposite : goal.returns-clause-opposite
returns-clause-opposite c e l = opposite_bit e l

pub returns-clause-gate : goal.returns-clause-gate
returns-clause-gate c e g meets = gate_true e g meets

pub returns-clause-kept : goal.returns-clause-kept
returns-clause-kept c e literals clause constant is holds = without_true e constant literals clause is holds
