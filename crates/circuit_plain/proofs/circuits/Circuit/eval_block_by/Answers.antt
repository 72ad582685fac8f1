use Rattle.circuit_plain.proofs.EvaluationLaws.{settled_defined, valuation_from_values}
use Rattle.circuit_plain.proofs.circuits.Circuit.eval_block_by.Goals as goal

pub returns-clause-value : goal.returns-clause-value
returns-clause-value c l b v l_below b_below defined =
    c.write_gate_lanes.ensures.value l b l_below b_below _ (c.write_patterns.ensures.value l b l_below b_below) v
    (settled_defined _ _ v c.requires.ordered defined)

pub returns-clause-valuation : goal.returns-clause-valuation
returns-clause-valuation c l b l_below b_below =
    valuation_from_values _ _ _ _ (rw c.self.view_is at c.self.invariant) c.requires.ordered
    (c.write_gate_lanes.ensures.value l b l_below b_below _ (c.write_patterns.ensures.value l b l_below b_below))
