use Rattle.std.proofs.Common.{◌≡◌, length, ap, arith}
use Rattle.circuit_plain.proofs.BlockLaws.{value_in_order, valuation_in_order}
use Rattle.circuit_plain.proofs.circuits.Circuit.eval_block.Goals as goal

pub returns-clause-value : goal.returns-clause-value
returns-clause-value c l b v l_below b_below defined =
    let counted : length c.inputs-inputs.result.now ≡ length c.args.self.now.inputs =
    ap length c.inputs-inputs.ensures in
    value_in_order c.args.self.now (length c.inputs-inputs.result.now) _
    (omega (arith, c.requires.few, counted)) counted v _
    (c.eval_block_by.ensures.value l b v l_below b_below defined)

pub returns-clause-valuation : goal.returns-clause-valuation
returns-clause-valuation c l b l_below b_below =
    let counted : length c.inputs-inputs.result.now ≡ length c.args.self.now.inputs =
    ap length c.inputs-inputs.ensures in
    valuation_in_order c.args.self.now (length c.inputs-inputs.result.now) _
    (omega (arith, c.requires.few, counted)) counted _
    (c.eval_block_by.ensures.valuation l b l_below b_below)
