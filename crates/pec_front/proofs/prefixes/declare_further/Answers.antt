use Rattle.std.proofs.Common.{ℕ, List, length, drop, sym, ◌∙◌, ap, subst}
use Rattle.std.specs.List.{All}
use Rattle.circuit_plain.specs.Netlist.{Netlist}
use Rattle.pec_front.specs.Boxes.{BlackBox, driven}
use Rattle.pec_front.specs.Copies.{IsKnownOut}
use Rattle.pec_front.proofs.DrivenInputs.{known-outs}
use Rattle.pec_front.proofs.prefixes.declare_further.Goals as goal

pub of-requires-clause-known : goal.of-requires-clause-known
of-requires-clause-known c =
    let d = c.args.design.now in
    let further = c.in_ok-further.further in
    subst (λ (bs : List BlackBox). All (IsKnownOut further) (driven bs)) (sym c.boxes-2.ensures)
    (known-outs d further c.every_design_is_lawful.ensures.boxes
    (c.in_ok-further.ensures
    ∙ ap (λ (n : Netlist). drop (length c.inputs.result.now) n.inputs) c.implementation-circuit.ensures
    ∙ ap (λ (xs : List ℕ). drop (length xs) d.implementation.inputs)
    (c.inputs.ensures ∙ ap (λ (n : Netlist). n.inputs) c.specification.ensures)))
