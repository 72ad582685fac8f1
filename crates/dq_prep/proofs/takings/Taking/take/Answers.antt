use Rattle.std.proofs.Common.{◌≡◌, ◌<◌, ◌==◌, Some, None, ◌∷◌, not, cond, length, sym, ◌∙◌, subst, ap, arith}
use Rattle.std.specs.Prelude.{slice_set}
use Rattle.std.specs.List.{position}
use Rattle.std.proofs.lemmas.List.{length-set, length-map}
use Rattle.std.proofs.lemmas.List.Quantifiers.{position-Some}
use Rattle.dq_lits.specs.Literal.{variable_of}
use Rattle.dq_formula.specs.Prefix.{existential_variables}
use Rattle.dq_formula.proofs.Subsets.{none_contained}
use Rattle.dq_lits.specs.declared.truth_values.TruthValue.TheVariants.{True, False}
use Rattle.dq_prep.specs.Units.{taken_literals, AreUnits}
use Rattle.dq_prep.specs.Takings.{ValuesTell, unit_at}
use Rattle.dq_prep.proofs.ToldValues.{unit-existential, unit-fresh, values-told, value_of}
use Rattle.dq_prep.proofs.takings.Taking.take.Goals as goal

pub unreachable-requires : goal.unreachable-requires
unreachable-requires c =
    let f = c.args.self.now.formula.now in
    let u = unit_at c.args.place c.args.literal in
    none_contained (existential_variables f) (variable_of c.args.literal)
    (subst (λ n. position (λ v. v == n) (existential_variables f) ≡ None) c.var.ensures.value
    (sym c.existential_place.ensures ∙ c.in_default.is))
    (unit-existential f c.args.self.now.trace u c.requires.right.well c.requires.is_unit)

pub returns-clause-right : goal.returns-clause-right
returns-clause-right c =
    let f = c.args.self.now.formula.now in
    let right = c.requires.right in
    let l = c.args.literal in
    let u = unit_at c.args.place l in
    let old = c.args.self.now.trace in
    let trues = taken_literals old in
    let values = c.args.self.now.values.items in
    let found : position (λ v. v == variable_of l) (existential_variables f) ≡ Some c.in-Some.at =
    subst (λ n. position (λ v. v == n) (existential_variables f) ≡ Some c.in-Some.at) c.var.ensures.value
    (sym c.existential_place.ensures ∙ c.in-Some.is) in
    let at = position-Some (λ v. v == variable_of l) (existential_variables f) c.in-Some.at 0 found in
    let below : c.in-Some.at < length values =
    omega (arith, at.0, right.many, length-map f.existentials (λ y. y.variable)) in
    let told = values-told f trues values l c.in-Some.at right.values found below
    (unit-fresh f old u c.requires.is_unit) in
    let value : c.truth_value.result ≡ value_of l = c.truth_value.ensures ∙ ap (λ b. cond (not b) True False) c.is_neg.ensures in
    let trace : c.push.new.self ≡ u ∷ old = c.in_ok-push.ensures.ok in
    record {
      well = right.well;
      lawful = right.lawful;
      tautologies = right.tautologies;
      units = subst (AreUnits f) (sym trace) (c.requires.is_unit, right.units);
      many = length-set values c.in-Some.at c.truth_value.result ∙ right.many;
      values = subst (λ us. ValuesTell f (taken_literals us) (slice_set values c.in-Some.at c.truth_value.result))
          (sym trace)
          (subst (λ x. ValuesTell f (l ∷ trues) (slice_set values c.in-Some.at x)) (sym value) told);
    }
