use Rattle.std.proofs.Common.{◌∙◌}
use Rattle.dq_lits.specs.Row.{bit_of}
use Rattle.circuit_cnf.proofs.OutputValues.{values_same}
use Rattle.circuit_cnf.proofs.circuits.Circuit.values_at.Goals as goal

pub returns : goal.returns
returns c = c.values.ensures.values ∙ values_same c.args.self.now.graph.now (bit_of c.in_ok-inputs.inputs)
    (bit_of c.args.row.now) c.in_ok-inputs.ensures.bits c.args.self.now.outputs.now
