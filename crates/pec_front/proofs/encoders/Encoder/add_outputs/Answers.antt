use Rattle.std.proofs.Common.{ℕ, ◌+◌, ◌<◌, List, length, get_or, ap, ◌∙◌, subst}
use Rattle.circuit_plain.specs.Netlist.{Netlist}
use Rattle.dq_lits.specs.Formula.{Dqbf}
use Rattle.pec_front.specs.Encoding.{specified_variable, implemented_variable, on_number}
use Rattle.pec_front.proofs.EncoderSteps.{output-within, outputs-next}
use Rattle.pec_front.proofs.encoders.Encoder.add_outputs.Goals as goal

pub add_agreement-requires-clause-within : goal.add_agreement-requires-clause-within
add_agreement-requires-clause-within c =
    let e = c.args.self.now in
    let d = e.design.now in
    let o = c.loop-o.o in
    let ks = c.outputs-specified-items.result.now in
    let ls = c.outputs-implemented.result.now in
    let are-ks = c.outputs-specified-items.ensures ∙ ap (λ (n : Netlist). n.outputs) c.specification.ensures in
    let are-ls = c.outputs-implemented.ensures ∙ ap (λ (n : Netlist). n.outputs) c.implementation.ensures in
    output-within d c.every_design_is_lawful.ensures.is_design c.loop-o.f.variables o (e.layout.first_agree + o)
    c.number-a.result c.number-b.result
    (ap (λ (f : Dqbf). f.variables) c.loop-o.invariant.clauses ∙ c.requires.room.variables)
    (subst (λ (xs : List ℕ). o < length xs) are-ks c.loop-o-test.true)
    (ap (λ n. n + o) c.requires.encoder.layout.agree)
    (c.number-a.ensures.value
    ∙ ap (λ (f : ℕ → ℕ). on_number f (get_or ks o 0)) c.requires.encoder.specified.numbered
    ∙ ap (λ (xs : List ℕ). on_number (specified_variable d) (get_or xs o 0)) are-ks)
    (c.number-b.ensures.value
    ∙ ap (λ (f : ℕ → ℕ). on_number f (get_or ls o 0)) c.requires.encoder.implemented.numbered
    ∙ ap (λ (xs : List ℕ). on_number (implemented_variable d) (get_or xs o 0)) are-ls)

pub loop-o-preserved : goal.loop-o-preserved
loop-o-preserved c =
    let e = c.args.self.now in
    let d = e.design.now in
    let o = c.loop-o.o in
    let ks = c.outputs-specified-items.result.now in
    let ls = c.outputs-implemented.result.now in
    let are-ks = c.outputs-specified-items.ensures ∙ ap (λ (n : Netlist). n.outputs) c.specification.ensures in
    let are-ls = c.outputs-implemented.ensures ∙ ap (λ (n : Netlist). n.outputs) c.implementation.ensures in
    outputs-next d c.args.f.now c.loop-o.f c.add_agreement.new.f o (e.layout.first_agree + o)
    c.number-a.result c.number-b.result
    (subst (λ (xs : List ℕ). o < length xs) are-ks c.loop-o-test.true)
    (ap (λ n. n + o) c.requires.encoder.layout.agree)
    (c.number-a.ensures.value
    ∙ ap (λ (f : ℕ → ℕ). on_number f (get_or ks o 0)) c.requires.encoder.specified.numbered
    ∙ ap (λ (xs : List ℕ). on_number (specified_variable d) (get_or xs o 0)) are-ks)
    (c.number-b.ensures.value
    ∙ ap (λ (f : ℕ → ℕ). on_number f (get_or ls o 0)) c.requires.encoder.implemented.numbered
    ∙ ap (λ (xs : List ℕ). on_number (implemented_variable d) (get_or xs o 0)) are-ls)
    c.loop-o.invariant c.in_ok-add_agreement.ensures.clauses c.in_ok-add_agreement.ensures.few
