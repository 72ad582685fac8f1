use Rattle.std.proofs.Common.{◌+◌, sym, ap, subst, arith}
use Rattle.circuit_plain.specs.Netlist.{Netlist}
use Rattle.aig_binary.specs.BareReading.{AreNumbered}
use Rattle.aig_binary.proofs.Numbered.{fresh_input, one_more_input}
use Rattle.aig_binary.proofs.bare.add_inputs.Goals as goal

pub add_input-requires-clause-undefined : goal.add_input-requires-clause-undefined
add_input-requires-clause-undefined c =
    let net = c.loop-i.circuit in
    let same = c.loop-i.invariant in
    fresh_input net c.args.count c.loop-i.i (ap (λ (n : Netlist). n.inputs) same)
    (subst (λ (n : Netlist). AreNumbered (c.args.count + 1) n.gates) (sym same) c.requires.numbered)
    (omega arith)

pub loop-i-preserved : goal.loop-i-preserved
loop-i-preserved c = search (arith, (one_more_input c.args.circuit.now c.loop-i.i))
