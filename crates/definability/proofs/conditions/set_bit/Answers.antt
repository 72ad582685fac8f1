use Rattle.std.proofs.Common.{Some, not, refl, sym, ◌∙◌, ap, subst}
use Rattle.std.specs.List.{Contains}
use Rattle.list_laws.proofs.Folds.{place_holds}
use Rattle.definability.proofs.MetConditions.{bit_kept, bit_set}
use Rattle.definability.proofs.conditions.set_bit.Goals as goal
use Rattle.dq_formula.proofs.Subsets.{none_contained}

pub returns-in-Some : goal.returns-in-Some
returns-in-Some c =
    let f = c.args.f.now in
    let place = c.in-Some.place in
    let found = sym c.universal_place.ensures ∙ c.in-Some.is in
    bit_set f c.every_formula_is_lawful.ensures c.args.l place (not c.is_neg.result) c.args.row.now c.set.new.self
    c.requires (place_holds f.universals c.var.result place found ∙ ap Some c.var.ensures.value)
    (ap not c.is_neg.ensures) c.set.ensures

pub returns-in_default : goal.returns-in_default
returns-in_default c =
    let us = c.args.f.now.universals in
    bit_kept c.args.f.now c.args.l c.args.row.now c.args.row.now refl (λ among.
    none_contained us c.var.result (sym c.universal_place.ensures ∙ c.in_default.is)
    (subst (Contains us) (sym c.var.ensures.value) among))
