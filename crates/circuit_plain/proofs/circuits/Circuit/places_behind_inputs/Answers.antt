use Rattle.std.proofs.Common.{length, sym, ap, ◌∙◌, subst, arith}
use Rattle.circuit_plain.specs.Netlist.{Netlist}
use Rattle.circuit_plain.proofs.NumberedGates.{NumberedSoFar, all_stand, none_so_far, one_more}
use Rattle.circuit_plain.proofs.circuits.Circuit.places_behind_inputs.Goals as goal

pub loop-place-init : goal.loop-place-init
loop-place-init c =
    subst (λ ps. NumberedSoFar c.args.self.now ps 0) (sym c.new-places.ensures.items)
    (none_so_far c.args.self.now c.requires)

pub loop-place-preserved : goal.loop-place-preserved
loop-place-preserved c =
    let gates = ap (λ (net : Netlist). net.gates) (sym c.self.view_is) in
    let inputs = ap (λ (net : Netlist). length net.inputs) c.self.view_is in
    one_more c.args.self.now _ c.loop-place.places.items c.push.new.self.items c.index.result.now c.loop-place.place _
    gates (omega (arith, ap length gates)) c.index.ensures (omega (arith, inputs))
    c.loop-place.invariant (sym c.is_next.ensures ∙ c.if-not-is_next.false) c.in_ok-push.ensures.items

pub returns : goal.returns
returns c =
    let gates = ap (λ (net : Netlist). length net.gates) c.self.view_is in
    all_stand c.args.self.now c.loop-place.places.items c.loop-place.place (rw c.self.view_is at c.self.invariant)
    (omega (arith, gates)) c.loop-place.invariant
