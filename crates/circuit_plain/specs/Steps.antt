-- Words of private contracts: how far an evaluation, a walk and a sort have come. No public
-- contract cites them.
use Rattle.std.specs.Prelude.{◌≡◌, ◌≢◌, ℕ, ◌<◌, ◌⊎◌, ◌↔◌, ◌==◌, ◌&&◌, ◌||◌, Bool, List, IsTrue, take, length, slice_index, All, AllPairs}
use Rattle.circuit_plain.specs.declared.walks.Task.{Task}
use Rattle.circuit_plain.specs.declared.walks.Task.TheVariants.{Visit, Leave}
use Rattle.circuit_plain.specs.Netlist.{Netlist, gate_at}
use Rattle.circuit_plain.specs.Order.{IsSettled, AreSidesSettled}
use Rattle.circuit_plain.specs.Reach.{Reaches}
use Rattle.circuit_plain.specs.Value.{HasValue}

-- the map gives the constant, the inputs and the gates at these places their values
abbrev pub GivesValues : Netlist → (ℕ → Bool) → (ℕ → Bool) → List ℕ → Type 0
GivesValues net bits m places = (v : ℕ) → IsSettled net places v → HasValue net bits v (m v)

-- the new marks stand at what the marked variables reach
abbrev pub MarksReach : Netlist → (ℕ → Bool) → (ℕ → Bool) → Type 0
MarksReach net old new = (v : ℕ) → IsTrue (new v) ↔ ((u : ℕ) × IsTrue (old u) × Reaches net u v)

-- where a variable is marked, so are two others as well; nothing else changes
abbrev pub IsSpread : (ℕ → Bool) → (ℕ → Bool) → ℕ → ℕ → ℕ → Type 0
IsSpread old new from left right =
    (v : ℕ) → new v ≡ (old v || (old from && ((left == v) || (right == v))))

-- the beginning of an order
pub record IsPartialOrder (net : Netlist) (places : List ℕ) : Type 0 where
  pub in_range : All (λ p. p < length net.gates) places
  pub each_once : AllPairs (λ p q. p ≢ q) places
  pub follows : (k : ℕ) → k < length places
      → AreSidesSettled net (take k places) (gate_at net (slice_index places k))

-- the beginning of an order, with the set of what it settles
pub record IsDraft (net : Netlist) (places : List ℕ) (settled : ℕ → Bool) : Type 0 where
  pub partial : IsPartialOrder net places
  pub exact : (v : ℕ) → IsTrue (settled v) ↔ IsSettled net places v

-- the gate at a place is put already, or cannot be put
abbrev pub IsPassed : Netlist → List ℕ → ℕ → Type 0
IsPassed net places p =
    IsSettled net places (gate_at net p).variable ⊎ (¬ AreSidesSettled net places (gate_at net p))

-- no further gate can be put
abbrev pub IsClosed : Netlist → List ℕ → Type 0
IsClosed net places = (p : ℕ) → p < length net.gates → IsPassed net places p

-- the gate that a task of a walk is at
abbrev pub task_place : Task → ℕ
task_place (Visit place) = place
task_place (Leave place) = place
