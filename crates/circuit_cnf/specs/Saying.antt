-- What a group is to say.
use Rattle.std.specs.Prelude.{◌≡◌, ◌&&◌, ◌||◌, ℕ, Bool, not, List, length, Some}
use Rattle.std.specs.List.{All, Contains}
use Rattle.dq_lits.specs.Literal.{variable_of}
use Rattle.dq_lits.specs.Formula.{Dqbf, declared}
use Rattle.dq_lits.specs.Row.{bit_of}
use Rattle.hint_log.specs.Entries.{Entry, name_of}
use Rattle.hint_log.specs.declared.names.Name.TheVariants.{Bad}
use Rattle.hint_log.specs.declared.origins.Leaf.{Leaf}
use Rattle.hint_log.specs.Origins.{IsLeafOf}
use Rattle.oracle.specs.Calls.{IsMade}
use Rattle.circuit_cnf.specs.Faults.{leaf_of, AreFewWith, HaveOneLeaf}
use Rattle.circuit_cnf.specs.declared.fault_clauses.Faults.{Faults}
use Rattle.circuit_cnf.specs.declared.fault_clauses.ClauseSelection.{ClauseSelection}

-- the variable of the group
abbrev pub selector_in : Faults → ℕ
selector_in faults = variable_of faults.group.now.selector

-- the leaf of a variable
abbrev pub leaf_in : Faults → ℕ → Leaf
leaf_in faults = leaf_of faults.f.now faults.inputs.now faults.outputs.now

-- which clauses have their faults before a part of the clauses gets them, and behind it: a part of
-- the marked clauses comes first, and the others then
abbrev pub given_before : ClauseSelection → ℕ → Bool
given_before part = λ j. not part.are_set && bit_of part.marks.now j

abbrev pub given_after : ClauseSelection → ℕ → Bool
given_after part = λ j. not part.are_set || bit_of part.marks.now j

-- each declared variable has this leaf
abbrev pub AreLeaves : Dqbf → (ℕ → Leaf) → List Entry → Type 0
AreLeaves f leaf entries = (v : ℕ) → Contains (declared f) v → IsLeafOf f entries v (leaf v)

-- the prefix declares the variables of the matrix
abbrev pub AreBound : Dqbf → Type 0
AreBound f = All (All (λ l. Contains (declared f) (variable_of l))) f.matrix

-- no variable says of a clause that it is false in the group
abbrev pub HasNoBads : ℕ → List Entry → Type 0
HasNoBads group entries = (v j : ℕ) → name_of entries v ≡ Some (Bad group j) → ⊥

-- the group is there, a leaf stands for each variable of the formula, and what the group has of it
-- already goes with these leaves
pub record MaySay (faults : Faults) (entries : List Entry) : Type 0 where
  pub made : IsMade entries faults.group.now
  pub inputs : length faults.inputs.now ≡ length faults.f.now.universals
  pub outputs : length faults.outputs.now ≡ length faults.f.now.existentials
  pub leaves : AreLeaves faults.f.now (leaf_in faults) entries
  pub bound : AreBound faults.f.now
  pub few : AreFewWith (selector_in faults) entries
  pub one_leaf : HaveOneLeaf faults.f.now (selector_in faults) (leaf_in faults) entries
