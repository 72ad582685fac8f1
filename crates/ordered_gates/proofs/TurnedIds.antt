-- Only ids of gates' clauses are turned.
use Rattle.std.proofs.Common.{◌≡◌, ◌==◌, ◌*◌, ◌<◌, ◌≤◌, ◌⊎◌, ℕ, zero, suc, false, inl, List, [], ◌∷◌, length, refl, arith}
use Rattle.std.specs.List.{AllByRecursion}
use Rattle.std.proofs.lemmas.Bool.{ne_eqb}
use Rattle.circuit_plain.specs.declared.circuits.Gate.{Gate}
use Rattle.rup_core.specs.Items.{is_among}
use Rattle.ordered_gates.specs.Circuits.{turned_place, turned_id}

-- the place stays, or both are places of gates' clauses
abbrev pub IsTurned : ℕ → ℕ → ℕ → Type 0
IsTurned end place turned = (turned ≡ place) ⊎ ((place < end) × (turned < end))

pub place_turned : (gates : List Gate) (place : ℕ) →
    IsTurned (3 * length gates) place (turned_place gates place)
place_turned [] place = inl refl
place_turned (g ∷ gates) zero = search arith
place_turned (g ∷ gates) (suc zero) = search arith
place_turned (g ∷ gates) (suc (suc zero)) = inl refl
place_turned (g ∷ gates) (suc (suc (suc place))) = search (arith, (place_turned gates place))

-- the id stays, or both are ids of gates' clauses
abbrev pub IsTurnedId : ℕ → ℕ → ℕ → Type 0
IsTurnedId last id turned = (turned ≡ id) ⊎ ((1 ≤ id) × (id ≤ last) × (1 ≤ turned) × (turned ≤ last))

pub id_turned : (gates : List Gate) (id : ℕ) → IsTurnedId (3 * length gates) id (turned_id gates id)
id_turned gates zero = inl refl
id_turned gates (suc place) = search (arith, place_turned)

-- the id is turned to this one, of a line, if it is this one
pub turned_same : (gates : List Gate) (id line : ℕ) → 3 * length gates < line →
    (turned_id gates id == line) ≡ (id == line)
turned_same gates id line behind = search (arith, id_turned, ne_eqb)

-- ids of lines
abbrev pub AreBehind : ℕ → List ℕ → Type 0
AreBehind last ids = AllByRecursion (λ id. last < id) ids

among_none : (last : ℕ) (ids : List ℕ) (id : ℕ) → AreBehind last ids → id ≤ last → is_among ids id ≡ false
among_none last [] id behind less = refl
among_none last (i ∷ ids) id (here, behind) less = search (arith, ne_eqb, (among_none last ids id behind less))

pub among_same : (gates : List Gate) (ids : List ℕ) (id : ℕ) → AreBehind (3 * length gates) ids →
    is_among ids (turned_id gates id) ≡ is_among ids id
among_same gates ids id behind = search (arith, id_turned, among_none)
