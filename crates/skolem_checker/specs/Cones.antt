-- Words of private contracts: how far the universals reach that a variable reads, and walks through
-- cones of influence one by one.
use Rattle.std.specs.Prelude.{◌≡◌, ℕ, ◌+◌, ◌<◌, ◌≤◌, ◌⊎◌, ◌/◌, ◌%◌, true, false, List, length, slice_index, Some, IsSome, Contains}
use Rattle.dq_lits.specs.Formula.{Existential, Dqbf, existential_of}
use Rattle.circuit_plain.specs.declared.circuits.Gate.{Gate}
use Rattle.circuit_plain.specs.Netlist.{Netlist, literal_variable, left_variable, right_variable}
use Rattle.circuit_plain.specs.Reach.{Reaches}
use Rattle.circuit_plain.specs.Words.{marked}
use Rattle.skolem_checker.specs.Reads.{has_bit, root_of, IsAt}
use Rattle.std.specs.List.{All}
use Rattle.circuit_plain.specs.Order.{IsOrder}
use Rattle.skolem_checker.specs.Tables.{HasLiteral}
use Rattle.skolem_checker.specs.declared.cones.Cone.{Cone}
use Rattle.skolem_checker.specs.declared.tested.Tested.{Tested}

-- the variable of a universal's circuit literal
abbrev pub circuit_variable : List ℕ → ℕ → ℕ
circuit_variable literals x = literal_variable (slice_index literals x)

-- each variable's number is above the place of each universal that it reaches
abbrev pub AreEnds : Netlist → List ℕ → List ℕ → List ℕ → Type 0
AreEnds net literals universals ends =
    (q v : ℕ) → q < length universals
    → Reaches net v (circuit_variable literals (slice_index universals q)) → q < slice_index ends v

-- no gate reads a variable whose number is above its own
abbrev pub AreClosed : Netlist → List ℕ → Type 0
AreClosed net ends =
    (g : Gate) → Contains net.gates g → (slice_index ends (left_variable g)
    ≤ slice_index ends g.variable)
    × (slice_index ends (right_variable g) ≤ slice_index ends g.variable)

-- from a variable on, universals of this set alone are reached
abbrev pub ReachesAlone : Netlist → List ℕ → List ℕ → ℕ → List ℕ → Type 0
ReachesAlone net literals universals root sees =
    (q : ℕ) → q < length universals
    → Reaches net root (circuit_variable literals (slice_index universals q))
    → Contains sees (slice_index universals q)

-- each universal has an input, for which the list has the universal
abbrev pub AreInputs : Netlist → List ℕ → List ℕ → List ℕ → Type 0
AreInputs net literals universals by_input =
    (x : ℕ) → Contains universals x → (i : ℕ) × (i < length net.inputs)
    × (slice_index net.inputs i ≡ circuit_variable literals x) × (slice_index by_input i ≡ x)

-- the constant, or the input for a universal of the set
abbrev pub IsSeen : Netlist → List ℕ → List ℕ → ℕ → Type 0
IsSeen net by_input sees v =
    (v ≡ 0) ⊎ ((i : ℕ) × (i < length net.inputs) × (slice_index net.inputs i ≡ v)
    × Contains sees (slice_index by_input i))

-- what stands by mapping and order: gates in an order, an input for each universal
pub record IsTested (t : Tested) : Type 0 where
  pub ordered : IsOrder t.circuit.now t.order.now
  pub universals_fit : All (HasLiteral t.literals.now (t.circuit.now.max_var + 1)) t.formula.now.universals
  pub a_universal_an_input : length t.by_input.now ≡ length t.circuit.now.inputs
  pub inputs : AreInputs t.circuit.now t.literals.now t.formula.now.universals t.by_input.now

-- a walk's members lie within its room
pub record IsBegun (cone : Cone) : Type 0 where
  pub ordered : cone.start ≤ cone.end
  pub room : cone.end ≤ length cone.members.items

-- a walk came to the variable: the variable's slot holds its place among the walk's members
pub record IsMember (slots : List ℕ) (cone : Cone) (v : ℕ) : Type 0 where
  pub since : cone.start ≤ slice_index slots v
  pub before : slice_index slots v < cone.end
  pub is : slice_index cone.members.items (slice_index slots v) ≡ v

-- what the variable reads next was come to as well, and as an input it stands for a universal of
-- the set
pub record Passes (net : Netlist) (literals universals sees slots : List ℕ) (cone : Cone)
    (v : ℕ) : Type 0 where
  pub sides : (g : Gate) → Contains net.gates g → g.variable ≡ v
      → IsMember slots cone (left_variable g) × IsMember slots cone (right_variable g)
  pub seen : (x : ℕ) → Contains universals x → circuit_variable literals x ≡ v → Contains sees x

-- so for the members up to this place
abbrev pub IsClean : Netlist → List ℕ → List ℕ → List ℕ → List ℕ → Cone → ℕ → Type 0
IsClean net literals universals sees slots cone done =
    (k : ℕ) → cone.start ≤ k → k < done
    → Passes net literals universals sees slots cone (slice_index cone.members.items k)

-- all members pass, for the set of the last existential
pub record IsCone (f : Dqbf) (net : Netlist) (literals slots : List ℕ) (cone : Cone) : Type 0 where
  pub ordered : cone.start ≤ cone.end
  pub room : cone.end ≤ length cone.members.items
  pub declared : cone.start < cone.end → IsSome (existential_of f cone.last)
  pub clean : (e : Existential) → existential_of f cone.last ≡ Some e
      → IsClean net literals f.universals e.sees slots cone cone.end

-- a walk that went on: what it had come to before stays
pub record Grows (slots slots' : List ℕ) (cone cone' : Cone) : Type 0 where
  pub same_length : length slots' ≡ length slots
  pub start : cone'.start ≡ cone.start
  pub last : cone'.last ≡ cone.last
  pub same_room : length cone'.members.items ≡ length cone.members.items
  pub end : cone.end ≤ cone'.end
  pub room : cone'.end ≤ length cone'.members.items
  pub same : (k : ℕ) → k < cone.end
      → slice_index cone'.members.items k ≡ slice_index cone.members.items k
  pub keeps : (v : ℕ) → IsMember slots cone v → IsMember slots' cone' v

-- of the existentials that have a bit in these words, 64 in each, the outputs read declared
-- universals alone
abbrev pub AreSettled : Netlist → List ℕ → List ℕ → Dqbf → List ℕ → List ℕ → ℕ → Type 0
AreSettled net literals places f ys settled end =
    (p : ℕ) (e : Existential) → p < end → marked settled (p % 64) (p / 64) ≡ true
    → existential_of f (slice_index ys p) ≡ Some e
    → ReachesAlone net literals f.universals (root_of net places (slice_index ys p)) e.sees

-- so for a batch of existentials, but for those that have a bit
abbrev pub AreAlone : Netlist → List ℕ → List ℕ → Dqbf → List ℕ → ℕ → ℕ → Type 0
AreAlone net literals places f ys settled end =
    (i : ℕ) (e : Existential) → i < end → IsAt f ys i e → has_bit settled i ≡ false
    → ReachesAlone net literals f.universals (root_of net places (slice_index ys i)) e.sees

-- so for those of a batch that have a bit
abbrev pub AreKnown : Netlist → List ℕ → List ℕ → Dqbf → List ℕ → ℕ → Type 0
AreKnown net literals places f ys settled =
    (i : ℕ) (e : Existential) → IsAt f ys i e → has_bit settled i ≡ true
    → ReachesAlone net literals f.universals (root_of net places (slice_index ys i)) e.sees
