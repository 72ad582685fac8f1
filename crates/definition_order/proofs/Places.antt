-- Existentials by their places.
use Rattle.std.proofs.Common.{◌≡◌, ◌<◌, ℕ, List, [], length, get_or, slice_get, Some}
use Rattle.std.proofs.lemmas.Option.{slice_get-get_or}
use Rattle.dq_lits.specs.Formula.{Dqbf, Existential, existential_of}
use Rattle.dq_formula.specs.Prefix.{IsLawful, existential_variables}
use Rattle.definition_order.proofs.Declared.{known_at}

-- the existential at a place
pub existential_there : (f : Dqbf) → IsLawful f → (vs : List ℕ) → vs ≡ existential_variables f → (p : ℕ) →
    p < length f.existentials
    → (y : Existential) × (slice_get f.existentials p ≡ Some y) × (existential_of f (get_or vs p 0) ≡ Some y)
existential_there f lawful vs are p below =
    let none : Existential = record { variable = 0; sees = [] } in
    let y = get_or f.existentials p none in
    let at = slice_get-get_or f.existentials p none below in
    (y, at, known_at f lawful vs p y are at)
