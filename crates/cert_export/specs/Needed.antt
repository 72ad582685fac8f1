-- The gates that an exported circuit and its proof rest on.
use Rattle.std.specs.Prelude.{◌≡◌, ◌≢◌, ◌⊎◌, ℕ, ◌≤◌, ◌<◌, Bool, true, false, List, length, slice_get, slice_index, Some, Contains}
use Rattle.std.specs.List.{All, AllPairs}
use Rattle.dq_lits.specs.Literal.{Literal, variable_of}
use Rattle.hint_log.specs.Entries.{Entry, count, name_of, names_of, origin_at}
use Rattle.hint_log.specs.Pending.{is_pending}
use Rattle.hint_log.specs.declared.names.Name.{Name}
use Rattle.hint_log.specs.declared.names.Name.TheVariants.{And}
use Rattle.hint_log.specs.declared.origins.Leaf.{Leaf}
use Rattle.hint_log.specs.declared.origins.Leaf.TheVariants.{Constant, Literal as LeafLiteral}
use Rattle.hint_log.specs.declared.origins.Origin.TheVariants.{Gate}
use Rattle.hint_log.specs.declared.pending.Pending.{Pending}
use Rattle.cert_export.specs.CircuitPart.{AreGatesInOrder}
use Rattle.cert_export.specs.ExportedCircuit.{is_gate_name}

abbrev pub is_and : Name → Bool
is_and (And a b) = true
is_and _ = false

-- at this place among the names, this variable was named as a gate
abbrev pub HasGate : List Entry → ℕ → ℕ → Type 0
HasGate entries v place =
    (name : Name) × (slice_get (names_of entries) place ≡ Some (v, name)) × (is_and name ≡ true)

abbrev pub IsGatePlace : List Entry → ℕ → Type 0
IsGatePlace entries place = (v : ℕ) × HasGate entries v place

-- where the variable is a gate, its place is among those that are to be looked at
abbrev pub IsWanted : List Entry → Pending → ℕ → Type 0
IsWanted entries pending v =
    (a b : Literal) → name_of entries v ≡ Some (And a b)
    → (place : ℕ) × HasGate entries v place × (is_pending pending place ≡ true)

-- what is added to the places that are to be looked at: where it is a gate, a variable's place
pub record Wants (entries : List Entry) (v : ℕ) (old new : Pending) : Type 0 where
  pub kept : (p : ℕ) → is_pending old p ≡ true → is_pending new p ≡ true
  pub there : IsWanted entries new v
  pub only : (p : ℕ) → is_pending new p ≡ true
      → (is_pending old p ≡ true) ⊎ HasGate entries v p

-- any gates' places
pub record WantsGates (entries : List Entry) (old new : Pending) : Type 0 where
  pub kept : (p : ℕ) → is_pending old p ≡ true → is_pending new p ≡ true
  pub only : (p : ℕ) → is_pending new p ≡ true
      → (is_pending old p ≡ true) ⊎ IsGatePlace entries p

-- the places of the sides of the gate at a place, which come before it
pub record WantsSides (entries : List Entry) (place : ℕ) (old new : Pending) : Type 0 where
  pub kept : (p : ℕ) → is_pending old p ≡ true → is_pending new p ≡ true
  pub there : (v : ℕ) (a b : Literal) → slice_get (names_of entries) place ≡ Some (v, And a b)
      → IsWanted entries new (variable_of a) × IsWanted entries new (variable_of b)
  pub only : (p : ℕ) → is_pending new p ≡ true
      → (is_pending old p ≡ true) ⊎ (IsGatePlace entries p × (p < place))

abbrev pub IsLeafWanted : List Entry → Pending → Leaf → Type 0
IsLeafWanted entries pending (Constant b) = Unit {0}
IsLeafWanted entries pending (LeafLiteral l) = IsWanted entries pending (variable_of l)

-- where the id is that of a gate's clause, the gate is wanted
abbrev pub IsIdWanted : List Entry → Pending → ℕ → Type 0
IsIdWanted entries pending id =
    (v i : ℕ) → origin_at entries id ≡ Some (Gate v i) → IsWanted entries pending v

-- the places of the gates of the leaves, and of those whose clauses have these ids
pub record HasRoots (entries : List Entry) (ids : List ℕ) (leaves : List Leaf)
    (pending : Pending) : Type 0 where
  pub leaves_wanted : All (IsLeafWanted entries pending) leaves
  pub ids_wanted : All (IsIdWanted entries pending) ids
  pub gates : (p : ℕ) → is_pending pending p ≡ true → IsGatePlace entries p

-- where the variable is a gate, it has a place in the list
abbrev pub IsListed : List Entry → List ℕ → ℕ → Type 0
IsListed entries places v =
    (a b : Literal) → name_of entries v ≡ Some (And a b)
    → (place : ℕ) × HasGate entries v place × Contains places place

-- places of gates, descending: the roots are there, and with a gate its sides that are gates
pub record AreGatePlaces (entries : List Entry) (roots : Pending) (places : List ℕ) : Type 0 where
  pub descending : AllPairs (λ p q. q < p) places
  pub gates : All (IsGatePlace entries) places
  pub roots_there : (p : ℕ) → is_pending roots p ≡ true → Contains places p
  pub closed : (p v : ℕ) (a b : Literal) → Contains places p
      → slice_get (names_of entries) p ≡ Some (v, And a b)
      → IsListed entries places (variable_of a) × IsListed entries places (variable_of b)

-- the variables that were named at these places
pub record AreVariablesAt (entries : List Entry) (places variables : List ℕ) : Type 0 where
  pub long : length variables ≡ length places
  pub at : (k : ℕ) → k < length places → (name : Name)
      × (slice_get (names_of entries) (slice_index places k) ≡ Some (slice_index variables k, name))

-- where the variable is a gate, it is in the list
abbrev pub IsGateAmong : List Entry → List ℕ → ℕ → Type 0
IsGateAmong entries gates v =
    (a b : Literal) → name_of entries v ≡ Some (And a b) → Contains gates v

abbrev pub IsLeafAmongGates : List Entry → List ℕ → Leaf → Type 0
IsLeafAmongGates entries gates (Constant b) = Unit {0}
IsLeafAmongGates entries gates (LeafLiteral l) = IsGateAmong entries gates (variable_of l)

-- gates of the log, each once and behind its sides, with those of the leaves and those whose
-- clauses have these ids
pub record AreNeededGates (entries : List Entry) (ids : List ℕ) (leaves : List Leaf)
    (gates : List ℕ) : Type 0 where
  pub named : (v : ℕ) → Contains gates v
      → (a : Literal) × (b : Literal) × (name_of entries v ≡ Some (And a b))
  pub distinct : AllPairs (λ v w. v ≢ w) gates
  pub few : length gates ≤ count is_gate_name entries
  pub sides : (v : ℕ) (a b : Literal) → Contains gates v → name_of entries v ≡ Some (And a b)
      → IsGateAmong entries gates (variable_of a) × IsGateAmong entries gates (variable_of b)
  pub order : AreGatesInOrder entries gates
  pub leaves_there : All (IsLeafAmongGates entries gates) leaves
  pub ids_there : All (λ id. (v i : ℕ) → origin_at entries id ≡ Some (Gate v i)
      → IsGateAmong entries gates v) ids
