use Rattle.std.proofs.Common.{ℕ, ◌+◌, ◌*◌, ◌<◌, List, length, get_or, ap, ◌∙◌, subst}
use Rattle.dq_lits.specs.Formula.{Dqbf}
use Rattle.pec_front.specs.Encoding.{implemented_variable, on_number}
use Rattle.pec_front.proofs.EncoderSteps.{copy-within, copies-next}
use Rattle.pec_front.proofs.encoders.Encoder.add_copies.Goals as goal

pub add_agreement-requires-clause-within : goal.add_agreement-requires-clause-within
add_agreement-requires-clause-within c =
    let e = c.args.self.now in
    let d = e.design.now in
    let i = c.loop-i.i in
    let ss = c.deref-signal-items.result.now in
    let are = c.deref-signal-items.ensures.value ∙ c.requires.encoder.signals in
    copy-within d c.every_design_is_lawful.ensures.is_design c.loop-i.f.variables i (e.layout.first_same + i)
    (2 * (e.layout.first_copy + i)) c.number.result
    (ap (λ (f : Dqbf). f.variables) c.loop-i.invariant.clauses ∙ c.requires.room.variables)
    (subst (λ (xs : List ℕ). i < length xs) are c.loop-i-test.true)
    (ap (λ n. n + i) c.requires.encoder.layout.same)
    (ap (λ n. 2 * (n + i)) c.requires.encoder.layout.copy)
    (c.number.ensures.value
    ∙ ap (λ (f : ℕ → ℕ). on_number f (get_or ss i 0)) c.requires.encoder.implemented.numbered
    ∙ ap (λ (xs : List ℕ). on_number (implemented_variable d) (get_or xs i 0)) are)

pub loop-i-preserved : goal.loop-i-preserved
loop-i-preserved c =
    let e = c.args.self.now in
    let d = e.design.now in
    let i = c.loop-i.i in
    let ss = c.deref-signal-items.result.now in
    let value = c.deref-signal-items.ensures.value in
    copies-next d c.args.f.now c.loop-i.f c.add_agreement.new.f e.signals.items i (e.layout.first_same + i)
    (2 * (e.layout.first_copy + i)) c.number.result c.requires.encoder.signals
    (subst (λ (xs : List ℕ). i < length xs) value c.loop-i-test.true)
    (ap (λ n. n + i) c.requires.encoder.layout.same)
    (ap (λ n. 2 * (n + i)) c.requires.encoder.layout.copy)
    (c.number.ensures.value
    ∙ ap (λ (f : ℕ → ℕ). on_number f (get_or ss i 0)) c.requires.encoder.implemented.numbered
    ∙ ap (λ (xs : List ℕ). on_number (implemented_variable d) (get_or xs i 0)) value)
    c.loop-i.invariant c.in_ok-add_agreement.ensures.clauses c.in_ok-add_agreement.ensures.few
