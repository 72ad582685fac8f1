use Rattle.std.proofs.Common.{◌<◌, sym, subst, length, arith}
use Rattle.std.specs.List.{All}
use Rattle.std.proofs.lemmas.List.Elements.{Contains-get_or}
use Rattle.known_functions.proofs.Asked.{nothing_asked, asked_then}
use Rattle.known_functions.proofs.definitions.Definitions.find_and_guess.Goals as goal

pub returns-in_err-places-clause-asked : goal.returns-in_err-places-clause-asked
returns-in_err-places-clause-asked g c = nothing_asked _ _ _ _ c.requires.may

pub returns-in_err-set_order-clause-asked : goal.returns-in_err-set_order-clause-asked
returns-in_err-set_order-clause-asked g c = nothing_asked _ _ _ _ c.requires.may

pub find_all-requires-clause-known : goal.find_all-requires-clause-known
find_all-requires-clause-known g c = c.requires.known

pub find_all-requires-clause-places : goal.find_all-requires-clause-places
find_all-requires-clause-places g c =
    let order = c.in_ok-places.ensures in
    let each : All (λ p. p < length c.args.f.now.existentials) c.in_ok-places.places.items =
    λ k d below. (order.each _).0 (Contains-get_or c.in_ok-places.places.items k d below) in
    subst (All (λ p. p < length c.args.f.now.existentials)) (sym c.deref-3.ensures.value) each

pub guess_all-requires-clause-may : goal.guess_all-requires-clause-may
guess_all-requires-clause-may g c = c.find_all.ensures.asked.may

pub returns-clause-asked : goal.returns-clause-asked
returns-clause-asked g c = search (arith, asked_then)
