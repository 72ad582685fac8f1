use Rattle.std.proofs.Common.{ℕ, List, length, refl, ◌∙◌, ap}
use Rattle.circuit_plain.specs.Netlist.{Netlist}
use Rattle.pec_front.proofs.EncoderSteps.{specified-is, implemented-is}
use Rattle.pec_front.proofs.encoders.Encoder.of.Goals as goal

pub returns : goal.returns
returns c =
    let d = c.args.design.now in
    let l = c.args.layout in
    let shared = length c.inputs.result.now in
    let is-shared = ap (λ (xs : List ℕ). length xs)
    (c.inputs.ensures ∙ ap (λ (n : Netlist). n.inputs) c.specification.ensures) in
    record {
      design = refl;
      layout = c.requires.layout;
      signals = c.requires.signals;
      specified = specified-is d c.in_ok-specified.specified c.specification-2.result.now shared l.first_driven
          l.first_specified c.in_ok-specified.ensures c.specification-2.ensures is-shared
          c.requires.layout.specified;
      implemented = implemented-is d c.in_ok-implemented.implemented c.implementation.result.now shared
          l.first_driven l.first_implemented c.in_ok-implemented.ensures c.implementation.ensures is-shared
          c.requires.layout.driven c.requires.layout.implemented;
    }
