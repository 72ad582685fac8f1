-- There are no more units than clauses.
use Rattle.std.proofs.Common.{◌≡◌, ◌≢◌, ℕ, zero, suc, ◌<◌, ◌≤◌, eqb, true, List, [], ◌∷◌, map, length, get_or, refl, sym, ◌∙◌, ap, arith}
use Rattle.std.specs.List.{AllPairs, list_any}
use Rattle.std.proofs.lemmas.Bool.Decides.{Decides-eqb}
use Rattle.std.proofs.lemmas.Bool.{or_cases, eqb-true}
use Rattle.std.proofs.lemmas.List.{length-map}
use Rattle.std.proofs.lemmas.Map.Made.{IsDistinct-from_AllPairs}
use Rattle.std.proofs.lemmas.Map.Steps.{length-le_from_distinct_below}
use Rattle.dq_lits.specs.Formula.{Dqbf}
use Rattle.dq_prep.specs.declared.traces.Taken.{Taken}
use Rattle.dq_prep.specs.Units.{AreUnits}
use Rattle.dq_prep.proofs.Units.{get-at, unit-apart}

place-of : (units : List Taken) (k d : ℕ) → k < length units
    → (u : Taken) × (get_or units k u ≡ u) × (get_or (map (λ q. q.place) units) k d ≡ u.place)
place-of [] k d below = absurd (omega arith)
place-of (u ∷ us) zero d below = (u, refl, refl)
place-of (u ∷ us) (suc k) d below = place-of us k d (omega arith)

places-apart : (f : Dqbf) (units : List Taken) → AreUnits f units → AllPairs (λ x y. x ≢ y) (map (λ q. q.place) units)
places-apart f [] are i j d before within = absurd (omega arith)
places-apart f (u ∷ us) are zero zero d before within = absurd (omega arith)
places-apart f (u ∷ us) are (suc i) zero d before within = absurd (omega arith)
places-apart f (u ∷ us) are zero (suc j) d before within =
    let inside : j < length us = omega (arith, within, length-map us (λ q. q.place)) in
    let r = place-of us j d inside in
    λ e. unit-apart f u us j r.0 are inside (e ∙ r.2 ∙ ap (λ q. q.place) (sym r.1))
places-apart f (u ∷ us) are (suc i) (suc j) d before within = search (arith, (places-apart f us are.1 i j d))

place-within : (f : Dqbf) (units : List Taken) (q : ℕ) → AreUnits f units
    → list_any (eqb q) (map (λ u. u.place) units) ≡ true → q < length f.matrix
place-within f [] q are h = cc
place-within f (u ∷ us) q are h = search (arith, or_cases, get-at, eqb-true, (place-within f us q are.1))

pub few-units : (f : Dqbf) (units : List Taken) → AreUnits f units → length units ≤ length f.matrix
few-units f units are =
    let few = length-le_from_distinct_below (map (λ u. u.place) units) (length f.matrix)
    (IsDistinct-from_AllPairs Decides-eqb (map (λ u. u.place) units) (places-apart f units are))
    (λ q h. place-within f units q are h) in
    omega (arith, few, length-map units (λ u. u.place))
