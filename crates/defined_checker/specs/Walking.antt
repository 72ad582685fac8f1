-- Words of private contracts: a walk from the last gate to the first, with what is in the output's
-- cone.
use Rattle.std.specs.Prelude.{◌≡◌, ℕ, ◌+◌, ◌-◌, ◌≤◌, ◌<◌, ◌⊎◌, true, length, Some, slice_get}
use Rattle.dq_lits.specs.Formula.{Dqbf}
use Rattle.dq_lits.specs.Row.{bit_of}
use Rattle.circuit_plain.specs.Netlist.{literal_variable, left_variable, right_variable}
use Rattle.circuit_plain.specs.Reach.{Reaches}
use Rattle.circuit_plain.specs.declared.circuits.Gate.{Gate}
use Rattle.number_tables.specs.Numbers.{has_number}
use Rattle.cert_text.specs.DefinitionBlocks.{Definition}
use Rattle.defined_checker.specs.DefinitionReads.{IsRead, definition_netlist}
use Rattle.defined_checker.specs.declared.leaves.Cone.{Cone}

-- behind the formula's last variable the gates have theirs, by place
abbrev pub IsMarked : ℕ → Cone → ℕ → Type 0
IsMarked last cone v = (last < v) × (bit_of cone.gates (v - last - 1) ≡ true)

-- the variable is the constant's, a leaf that was found, or that of a gate that was found
abbrev pub Noted : ℕ → Cone → ℕ → Type 0
Noted last cone v =
    (v ≡ 0) ⊎ (((1 ≤ v) × ((v ≤ last) × (has_number cone.leaves v ≡ true))) ⊎ IsMarked last cone v)

-- what was noted stays so, and nothing else is noted besides this variable
pub record Keeps (last : ℕ) (old new : Cone) (variable : ℕ) : Type 0 where
  pub as_many : length new.gates ≡ length old.gates
  pub leaves_stay : (v : ℕ) → has_number old.leaves v ≡ true → has_number new.leaves v ≡ true
  pub gates_stay : (k : ℕ) → bit_of old.gates k ≡ true → bit_of new.gates k ≡ true
  pub leaves_new : (v : ℕ) → has_number new.leaves v ≡ true
      → (has_number old.leaves v ≡ true) ⊎ ((v ≡ variable) × ((1 ≤ v) × (v ≤ last)))
  pub gates_new : (k : ℕ) → bit_of new.gates k ≡ true
      → (bit_of old.gates k ≡ true) ⊎ (variable ≡ last + 1 + k)

-- what was found is in the cone, the output is found, and so is what the gates that were found read,
-- from a place on
pub record IsWalked (f : Dqbf) (d : Definition) (from : ℕ) (cone : Cone) : Type 0 where
  pub as_many : length cone.gates ≡ length d.gates
  pub leaves : (v : ℕ) → has_number cone.leaves v ≡ true → IsRead f d v
  pub gates : (k : ℕ) → bit_of cone.gates k ≡ true
      → Reaches (definition_netlist f d) (literal_variable d.output) (f.variables + 1 + k)
  pub output : Noted f.variables cone (literal_variable d.output)
  pub sides : (k : ℕ) (g : Gate) → from ≤ k → slice_get d.gates k ≡ Some g
      → bit_of cone.gates k ≡ true
      → Noted f.variables cone (left_variable g) × Noted f.variables cone (right_variable g)
