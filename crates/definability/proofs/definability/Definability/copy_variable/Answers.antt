use Rattle.std.proofs.Common.{refl, sym, ◌∙◌, arith}
use Rattle.list_laws.proofs.Folds.{place_holds, placed_below}
use Rattle.definability.specs.Store.{store_of}
use Rattle.definability.proofs.DeclaredPlaces.{declared_long}
use Rattle.definability.proofs.FollowedClauses.{flags_long, more_none, universal_copied}
use Rattle.definability.proofs.FlagSteps.{other_marked}
use Rattle.definability.proofs.definability.Definability.copy_variable.Goals as goal
use Rattle.dq_formula.proofs.Subsets.{none_contained}

pub copy_place-requires-clause-place : goal.copy_place-requires-clause-place
copy_place-requires-clause-place g c = search (arith, placed_below, declared_long)

pub returns-in_ok-copy_place-in-Some-clause-covered : goal.returns-in_ok-copy_place-in-Some-clause-covered
returns-in_ok-copy_place-in-Some-clause-covered g c =
    let f = c.args.f.now in
    universal_copied f c.every_formula_is_lawful.ensures.prefix c.copy_place.new.self.copied.items c.args.v
    c.in-Some.place (place_holds f.universals c.args.v c.in-Some.place (sym c.universal_place.ensures ∙ c.in-Some.is))
    c.in_ok-copy_place-in-Some.ensures.copied

pub returns-in-None-clause-more : goal.returns-in-None-clause-more
returns-in-None-clause-more g c = more_none c.args.f.now c.args.self.now c.args.log.now c.args.log.now refl

pub returns-in-None-clause-covered : goal.returns-in-None-clause-covered
returns-in-None-clause-covered g c =
    let f = c.args.f.now in
    other_marked f c.args.self.now.copied.items c.args.v
    (flags_long c.requires.standing.0 c.requires.standing.1 f (store_of c.args.self.now) c.args.log.now.entries
    c.requires.standing.2)
    (λ among. none_contained f.universals c.args.v (sym c.universal_place.ensures ∙ c.in-None.is) among)
