use Rattle.std.proofs.Common.{◌≡◌, ℕ, ◌+◌, ◌-◌, ◌≤◌, length, ap, ◌∙◌, subst, arith, List}
use Rattle.circuit_plain.specs.Netlist.{Netlist}
use Rattle.dq_formula.specs.Dependencies.{listed_universals}
use Rattle.dq_lits.specs.Formula.{Dqbf}
use Rattle.pec_front.specs.Boxes.{inputs_of}
use Rattle.pec_front.specs.Copies.{span_in}
use Rattle.pec_front.specs.Encoding.{driven_of, first_driven, design_universals}
use Rattle.pec_front.proofs.DrivenInputs.{driven-part, span-seen, copies-small, copies-universal, seen-in-order, driven-more, driven-new}
use Rattle.pec_front.proofs.prefixes.declare_driven.Goals as goal

pub write_numbers-requires : goal.write_numbers-requires
write_numbers-requires c =
    let d = c.args.design.now in
    let i = c.loop-i.i in
    let many = c.requires.variables in
    let value = c.vars.ensures.value in
    let few = c.vars.ensures.few in
    copies-small d i c.span.result (omega (arith, many, value, few))
    (span-seen d (span_in c.args.copies.now) c.inputs-inputs.result.now i c.span.result c.requires.copies c.span.ensures
    (c.inputs-inputs.ensures ∙ ap (λ (n : Netlist). n.inputs) c.implementation.ensures))

pub add_listed-requires-clause-undeclared : goal.add_listed-requires-clause-undeclared
add_listed-requires-clause-undeclared c = search (arith, driven-new)

pub add_listed-requires-clause-listed : goal.add_listed-requires-clause-listed
add_listed-requires-clause-listed c =
    let d = c.args.design.now in
    let i = c.loop-i.i in
    copies-universal d i c.loop-i.f c.deref.result.now
    (ap (λ (f : Dqbf). f.universals) c.loop-i.invariant ∙ c.requires.universals)
    (c.deref.ensures.value ∙ c.in_ok-write_numbers.ensures
    ∙ span-seen d (span_in c.args.copies.now) c.inputs-inputs.result.now i c.span.result c.requires.copies
    c.span.ensures (c.inputs-inputs.ensures ∙ ap (λ (n : Netlist). n.inputs) c.implementation.ensures))

pub loop-i-preserved : goal.loop-i-preserved
loop-i-preserved c =
    let d = c.args.design.now in
    let i = c.loop-i.i in
    let first = c.requires.first in
    let shared : length c.inputs-shared.result.now ≡ inputs_of d =
    ap (λ (xs : List ℕ). length xs)
    (c.inputs-shared.ensures ∙ ap (λ (n : Netlist). n.inputs) c.specification.ensures) in
    let from = c.loop-i.auto.i in
    let low : inputs_of d ≤ i = omega (arith, shared, from) in
    let seen = span-seen d (span_in c.args.copies.now) c.inputs-inputs.result.now i c.span.result c.requires.copies
    c.span.ensures (c.inputs-inputs.ensures ∙ ap (λ (n : Netlist). n.inputs) c.implementation.ensures) in
    subst (λ n. c.add_listed.new.self ≡ record c.args.f.now { existentials = driven-part d n })
    (let e : i - inputs_of d + 1 ≡ i + 1 - inputs_of d = omega (arith, low) in e)
    (driven-more d c.args.f.now c.loop-i.f c.add_listed.new.self i (i - inputs_of d) c.deref.result.now
    (c.args.first + (i - length c.inputs-shared.result.now))
    (let e : i ≡ inputs_of d + (i - inputs_of d) = omega (arith, low) in e)
    (ap (λ n. n + (i - length c.inputs-shared.result.now)) first ∙ ap (λ n. first_driven d + (i - n)) shared)
    c.requires.universals c.loop-i.invariant
    (ap (listed_universals (design_universals d)) (c.deref.ensures.value ∙ c.in_ok-write_numbers.ensures)
    ∙ seen-in-order d i c.span.result seen)
    c.in_ok-add_listed.ensures.ok)

pub returns : goal.returns
returns c =
    let d = c.args.design.now in
    let i = c.loop-i.i in
    let shared : length c.inputs-shared.result.now ≡ inputs_of d =
    ap (λ (xs : List ℕ). length xs)
    (c.inputs-shared.ensures ∙ ap (λ (n : Netlist). n.inputs) c.specification.ensures) in
    let all : length c.inputs-inputs.result.now ≡ length d.implementation.inputs =
    ap (λ (xs : List ℕ). length xs)
    (c.inputs-inputs.ensures ∙ ap (λ (n : Netlist). n.inputs) c.implementation.ensures) in
    let within = c.every_design_is_lawful.ensures.is_design.inputs in
    let least = c.loop-i-test.false in
    let most = c.loop-i.auto.i-end (omega (arith, shared, all, within)) in
    c.loop-i.invariant
    ∙ ap (λ n. record c.args.f.now { existentials = driven-part d n })
    (let e : i - inputs_of d ≡ driven_of d = omega (arith, all, least, most) in e)
