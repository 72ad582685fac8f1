use Rattle.std.proofs.Common.{◌≡◌, length, ap, ◌∙◌, arith}
use Rattle.circuit_plain.proofs.BlockLaws.{patterns_give}
use Rattle.circuit_plain.specs.Netlist.{Netlist}
use Rattle.circuit_plain.proofs.circuits.Circuit.write_patterns.Goals as goal

pub returns-clause-value : goal.returns-clause-value
returns-clause-value c l b l_below b_below =
    let items : c.deref-variable-items.result.now ≡ c.args.self.now.inputs =
    c.deref-variable-items.ensures.value ∙ ap (λ (net : Netlist). net.inputs) c.self.view_is in
    patterns_give c.args.self.now c.args.places.now c.args.first c.args.values.now c.loop-i.values c.loop-i.i
    (omega (arith, ap length items)) c.loop-i.invariant l b l_below b_below
