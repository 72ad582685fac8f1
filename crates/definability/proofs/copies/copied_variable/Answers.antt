use Rattle.std.proofs.Common.{◌<◌, inl, inr, sym, ◌∙◌, subst}
use Rattle.std.proofs.lemmas.List.{length-map}
use Rattle.std.proofs.lemmas.List.Elements.{Contains-append_cases}
use Rattle.list_laws.proofs.Elements.{kept_there, found_at}
use Rattle.list_laws.proofs.Folds.{place_holds, placed_below}
use Rattle.dq_lits.specs.Formula.{Existential}
use Rattle.dq_formula.specs.Prefix.{existential_variables}
use Rattle.definability.proofs.CopiedVariables.{copy_at}
use Rattle.definability.proofs.copies.copied_variable.Goals as goal
use Rattle.dq_formula.proofs.Subsets.{none_contained}

pub unreachable-requires : goal.unreachable-requires
unreachable-requires c =
    let f = c.args.f.now in
    elim (Contains-append_cases f.universals (existential_variables f) c.args.v c.requires.bound) [
      | inl universal ↦ none_contained f.universals c.args.v
          (sym c.universal_place.ensures ∙ c.in-None-None.is-0) universal
      | inr existential ↦ none_contained (existential_variables f) c.args.v
          (sym c.existential_place.ensures ∙ c.in-None-None.is-1) existential
    ]

pub returns-in-Some-default : goal.returns-in-Some-default
returns-in-Some-default c = λ entries side flags us es copied.
    let f = c.args.f.now in
    let i = c.in-Some-default.i in
    let found = sym c.universal_place.ensures ∙ c.in-Some-default.is-0 in
    let lt = subst (λ n. i < n) (sym c.requires.universals) (placed_below f.universals c.args.v i found) in
    let there = place_holds f.universals c.args.v i found in
    us.named i c.args.v c.index.result.now
    (copied i (kept_there f.universals (existential_variables f) i c.args.v there)) there (found_at c.args.copy.now.universals.items i c.index.result.now lt
    c.index.ensures)

pub returns-in-None-Some : goal.returns-in-None-Some
returns-in-None-Some c = λ entries side flags us es copied.
    let f = c.args.f.now in
    let k = c.in-None-Some.k in
    let found = sym c.existential_place.ensures ∙ c.in-None-Some.is-1 in
    let many = length-map f.existentials (λ (y : Existential). y.variable) in
    let lt = subst (λ n. k < n) (many ∙ sym c.requires.existentials)
    (placed_below (existential_variables f) c.args.v k found) in
    copy_at entries side (existential_variables f) c.args.copy.now.existentials.items k c.args.v
    c.index-in-None-Some.result.now es
    (place_holds (existential_variables f) c.args.v k found)
    (found_at c.args.copy.now.existentials.items k c.index-in-None-Some.result.now lt c.index-in-None-Some.ensures)
