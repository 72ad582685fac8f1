use Rattle.circuit_plain.proofs.EvaluationLaws.{settled_defined, valuation_from_values}
use Rattle.circuit_plain.proofs.circuits.Circuit.eval.Goals as goal

pub returns-clause-value : goal.returns-clause-value
returns-clause-value c v defined =
    c.write_gates.ensures.value _ c.write_inputs.ensures.value v (settled_defined _ _ v c.requires.ordered defined)

pub returns-clause-valuation : goal.returns-clause-valuation
returns-clause-valuation c =
    valuation_from_values _ _ _ _ (rw c.self.view_is at c.self.invariant) c.requires.ordered
    (c.write_gates.ensures.value _ c.write_inputs.ensures.value)
