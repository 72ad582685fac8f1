use Rattle.std.proofs.Common.{◌∙◌, sym}
use Rattle.std.proofs.lemmas.List.{length-map}
use Rattle.dq_formula.specs.Prefix.{existential_variables}
use Rattle.defined_checker.proofs.ValuationBits.{behind, nowhere, not_some, there}
use Rattle.defined_checker.proofs.pairs.bit.Goals as goal

pub returns-in-Some : goal.returns-in-Some
returns-in-Some c =
    let f = c.args.f.now in
    let v = c.args.v.now in
    c.get.ensures
    ∙ sym (there f.universals v.row v.values (existential_variables f) c.args.variable c.in-Some.place c.requires.row
    (sym c.universal_place.ensures ∙ c.in-Some.is))

pub returns-in-Some-existential_place : goal.returns-in-Some-existential_place
returns-in-Some-existential_place c =
    let f = c.args.f.now in
    let v = c.args.v.now in
    c.get-in-Some-existential_place.ensures
    ∙ sym (behind f.universals v.row v.values (existential_variables f) c.args.variable c.in-Some-existential_place.place
    c.requires.row (c.requires.values ∙ sym (length-map f.existentials (λ y. y.variable)))
    (sym c.universal_place.ensures ∙ not_some _ c.in_default.not-Some)
    (sym c.existential_place.ensures ∙ c.in-Some-existential_place.is))

pub returns-in-None : goal.returns-in-None
returns-in-None c =
    let f = c.args.f.now in
    let v = c.args.v.now in
    sym (nowhere f.universals v.row v.values (existential_variables f) c.args.variable
    c.requires.row (c.requires.values ∙ sym (length-map f.existentials (λ y. y.variable)))
    (sym c.universal_place.ensures ∙ not_some _ c.in_default.not-Some)
    (sym c.existential_place.ensures ∙ c.in-None.is))
