-- Turned ids by division: the gate of a clause, and which of its three clauses it is.
use Rattle.std.proofs.Common.{◌≡◌, ◌-◌, ◌*◌, ◌/◌, ◌%◌, ◌<◌, ◌≤◌, ℕ, zero, suc, Bool, true, false, List, [], ◌∷◌, length, get_or, refl, ap, arith}
use Rattle.std.proofs.lemmas.Bool.{lt-ltb, cases_Bool, ltb-true}
use Rattle.circuit_plain.specs.Netlist.{Netlist, gate_at}
use Rattle.circuit_plain.specs.declared.circuits.Gate.{Gate}
use Rattle.ordered_gates.specs.Circuits.{is_turned, turned_place, turned_id}

pub place_past : (gates : List Gate) (place : ℕ) → 3 * length gates ≤ place → turned_place gates place ≡ place
place_past [] place past = refl
place_past (g ∷ gates) zero past = absurd (omega (arith, past))
place_past (g ∷ gates) (suc zero) past = absurd (omega (arith, past))
place_past (g ∷ gates) (suc (suc zero)) past = refl
place_past (g ∷ gates) (suc (suc (suc place))) past = search (arith, (place_past gates place))

-- where a clause of a gate goes, by its place among the gate's
abbrev moved : Bool → ℕ → ℕ → ℕ
moved false which place = place
moved true zero place = suc place
moved true (suc zero) place = place - 1
moved true (suc (suc which)) place = place

moved_on : (b : Bool) (which place : ℕ) → which ≤ place →
    suc (suc (suc (moved b which place))) ≡ moved b which (suc (suc (suc place)))
moved_on false which place less = refl
moved_on true zero place less = refl
moved_on true (suc zero) place less = omega (arith, less)
moved_on true (suc (suc which)) place less = refl

place_moved : (gates : List Gate) (place : ℕ) (d : Gate) → place < 3 * length gates →
    turned_place gates place ≡ moved (is_turned (get_or gates (place / 3) d)) (place % 3) place
place_moved [] place d below = absurd (omega (arith, below))
place_moved (g ∷ gates) zero d below = search arith
place_moved (g ∷ gates) (suc zero) d below = search arith
place_moved (g ∷ gates) (suc (suc zero)) d below = search arith
place_moved (g ∷ gates) (suc (suc (suc place))) d below = search (arith, (place_moved gates place d))

-- ---- ids

from_place : (gates : List Gate) (id : ℕ) → 1 ≤ id → turned_id gates id ≡ suc (turned_place gates (id - 1))
from_place gates zero some = absurd (omega (arith, some))
from_place gates (suc place) some = ap (λ p. suc (turned_place gates p)) (omega arith)

pub id_past : (gates : List Gate) (id : ℕ) → 1 ≤ id → length gates ≤ (id - 1) / 3 → id ≡ turned_id gates id
id_past gates id some past = search (arith, from_place, place_past)

id_moved : (net : Netlist) (id : ℕ) → 1 ≤ id → (id - 1) / 3 < length net.gates →
    turned_id net.gates id ≡ suc (moved (is_turned (gate_at net ((id - 1) / 3))) ((id - 1) % 3) (id - 1))
id_moved net id some below = search (arith, from_place, place_moved)

pub id_straight : (net : Netlist) (id : ℕ) → 1 ≤ id → (id - 1) / 3 < length net.gates →
    (gate_at net ((id - 1) / 3)).right ≤ (gate_at net ((id - 1) / 3)).left → id ≡ turned_id net.gates id
id_straight net id some below greater = search (arith, cases_Bool, ltb-true, id_moved)

pub id_turned_by : (net : Netlist) (id : ℕ) → 1 ≤ id → (id - 1) / 3 < length net.gates →
    (gate_at net ((id - 1) / 3)).left < (gate_at net ((id - 1) / 3)).right →
    (which : ℕ) → (id - 1) % 3 ≡ which → turned_id net.gates id ≡ suc (moved true which (id - 1))
id_turned_by net id some below lesser which is = search (arith, id_moved, lt-ltb)
