-- Faults that are given to a group.
use Rattle.std.specs.Prelude.{◌≡◌, ◌⊎◌, ◌+◌, ◌≤◌, ◌<◌, ◌==◌, ℕ, Bool, true, false, not, List, [], ◌∷◌, map, length, Option, Some, None, position, slice_get, slice_index_or}
use Rattle.std.specs.List.{Contains, range_with_len}
use Rattle.std.specs.Option.{option_map}
use Rattle.dq_lits.specs.Literal.{Literal, positive, negative, variable_of, is_negative}
use Rattle.dq_lits.specs.Formula.{Dqbf}
use Rattle.hint_log.specs.Entries.{Entry, Given, ProofLog, name_of}
use Rattle.hint_log.specs.declared.origins.Leaf.{Leaf}
use Rattle.hint_log.specs.declared.origins.Leaf.TheVariants.{Constant, Literal as LeafLiteral}
use Rattle.hint_log.specs.declared.origins.Origin.TheVariants.{Fault}
use Rattle.hint_log.specs.declared.names.Name.{Name}
use Rattle.hint_log.specs.declared.names.Name.TheVariants.{Bad}
use Rattle.hint_log.specs.declared.origins.Origin.{Origin}
use Rattle.hint_log.specs.Growth.{Grew}
use Rattle.hint_log.specs.Naming.{named_literal, AreNamedAs}
use Rattle.hint_log.specs.ProductiveLog.{fault_groups, fault_room}
use Rattle.hint_log.specs.Origins.{leaf_with_sign, leaf_clause, matrix_literal}
use Rattle.log_laws.specs.Engines.{circuits, IsAddedBy}

-- the faults in the group have these leaves
abbrev pub HaveOneLeaf : Dqbf → ℕ → (ℕ → Leaf) → List Entry → Type 0
HaveOneLeaf f group leaf entries =
    (j i v : ℕ) (out : Leaf) (rest : List Literal)
    → Contains entries (Given (Fault j i out) (negative group ∷ rest))
    → option_map variable_of (matrix_literal f j i) ≡ Some v → out ≡ leaf v

-- where the clause is false, so is its literal under the leaf: given, unless that is true anyway
abbrev pub HasFault : ℕ → ℕ → ℕ → ℕ → Literal → Leaf → List Entry → Type 0
HasFault group bad j i literal leaf entries =
    (leaf_clause (leaf_with_sign (not (is_negative literal)) leaf) ≡ None)
    ⊎ ((tail : List Literal)
    × (leaf_clause (leaf_with_sign (not (is_negative literal)) leaf) ≡ Some tail)
    × Contains entries (Given (Fault j i leaf) (negative group ∷ negative bad ∷ tail)))

-- the leaf of a variable: a universal's input, or its existential's output
abbrev pub leaf_by_place : List Literal → List Leaf → Option ℕ → Option ℕ → Leaf
leaf_by_place inputs outputs (Some i) _ = LeafLiteral (slice_index_or inputs i (positive 0))
leaf_by_place inputs outputs None (Some k) = slice_index_or outputs k (Constant false)
leaf_by_place inputs outputs None None = Constant false

abbrev pub leaf_of : Dqbf → List Literal → List Leaf → ℕ → Leaf
leaf_of f inputs outputs v =
    leaf_by_place inputs outputs (position (λ u. u == v) f.universals)
    (position (λ y. y == v) (map (λ y. y.variable) f.existentials))

-- a fault more in the group leaves the groups that were given faults few
abbrev pub AreFewWith : ℕ → List Entry → Type 0
AreFewWith group entries =
    (j i : ℕ) (out : Leaf) (rest : List Literal)
    → length (fault_groups (Given (Fault j i out) (negative group ∷ rest) ∷ entries))
    ≤ fault_room entries

-- each of the first literals of a clause has its fault
abbrev pub HaveFaults : Dqbf → ℕ → ℕ → ℕ → (ℕ → Leaf) → List Literal → ℕ → List Entry → Type 0
HaveFaults f group bad j leaf clause count entries =
    (i : ℕ) (l : Literal) → i < count → slice_get clause i ≡ Some l
    → HasFault group bad j (i + 1) l (leaf (variable_of l)) entries

-- the literal at a place says that this clause is false in the group
pub record IsBadAt (group j : ℕ) (bads : List Literal) (entries : List Entry) : Type 0 where
  pub named : name_of entries (variable_of (slice_index_or bads j (positive 0)))
      ≡ Some (Bad group (j + 1))
  pub positive_literal : is_negative (slice_index_or bads j (positive 0)) ≡ false

-- the variable is said to be false, so that the clause that it stands for is never false
abbrev pub IsNeverBad : ℕ → ℕ → List Entry → Type 0
IsNeverBad group bad entries =
    (origin : Origin) × Contains entries (Given origin (negative group ∷ negative bad ∷ []))

-- each literal of the clause has its fault, or one that is true anyway says that it is never false
abbrev pub IsFaulted : Dqbf → ℕ → ℕ → ℕ → (ℕ → Leaf) → List Literal → List Entry → Type 0
IsFaulted f group bad j leaf clause entries =
    HaveFaults f group bad j leaf clause (length clause) entries ⊎ IsNeverBad group bad entries

-- the clause of this number, from 0 on, has its faults
abbrev pub HasItsFaults : Dqbf → ℕ → List Literal → (ℕ → Leaf) → ℕ → List Entry → Type 0
HasItsFaults f group bads leaf j entries =
    IsFaulted f group (variable_of (slice_index_or bads j (positive 0))) (j + 1) leaf
    (slice_index_or f.matrix j []) entries

-- each of the chosen clauses has its faults
abbrev pub HaveChosenFaults : Dqbf → ℕ → List Literal → (ℕ → Leaf) → (ℕ → Bool) → List Entry
    → Type 0
HaveChosenFaults f group bads leaf chosen entries =
    (j : ℕ) → j < length f.matrix → chosen j ≡ true → HasItsFaults f group bads leaf j entries

-- how a log grows by a group's clauses: whatever stood before the group, they go into a group that
-- was made since
abbrev pub GrewByGroup : Dqbf → ℕ → ProofLog → ProofLog → Type 0
GrewByGroup f group old new =
    (standing : ℕ) (start : List Entry) → name_of start group ≡ None
    → Grew (IsAddedBy f circuits standing true start) old new

-- each clause's variable, by its number, is named for it in the group
abbrev pub AreBads : Dqbf → ℕ → List Literal → List Entry → Type 0
AreBads f group bads entries =
    AreNamedAs entries bads
    (map (λ j. named_literal (Bad group j) false) (range_with_len 1 (length f.matrix)))

-- names that are added say of the group's clauses alone that they are false
abbrev pub NamesBadsAlone : ℕ → List Entry → List Entry → Type 0
NamesBadsAlone group old new =
    (v : ℕ) (name : Name) → name_of new v ≡ Some name
    → (name_of old v ≡ Some name) ⊎ ((j : ℕ) × (name ≡ Bad group j))

-- such names, and nothing is given
pub record IsNamingBads (group : ℕ) (old new : List Entry) : Type 0 where
  pub names : NamesBadsAlone group old new
  pub givens : (origin : Origin) (c : List Literal) → Contains new (Given origin c)
      → Contains old (Given origin c)

-- what the group says: which clauses are false where, and that one is
pub record AreGiven (f : Dqbf) (group : ℕ) (leaf : ℕ → Leaf) (entries : List Entry) : Type 0 where
  pub bads : List Literal
  pub count : length bads ≡ length f.matrix
  pub bads_are : (j : ℕ) → j < length f.matrix → IsBadAt group j bads entries
  pub some : Contains entries (Given (Fault 0 0 (Constant false)) (negative group ∷ bads))
  pub all : HaveChosenFaults f group bads leaf (λ j. true) entries

-- what is left by clauses that a group gets: how the log grew, names, few groups with faults, and
-- one leaf for a variable
pub record AreSaid (f : Dqbf) (group : ℕ) (leaf : ℕ → Leaf) (old new : ProofLog) : Type 0 where
  pub grew : GrewByGroup f group old new
  pub names : (v : ℕ) → name_of new.entries v ≡ name_of old.entries v
  pub few : AreFewWith group new.entries
  pub one_leaf : HaveOneLeaf f group leaf new.entries

-- the same where the variables that say which clauses are false are named too
pub record AreNamedAndSaid (f : Dqbf) (group : ℕ) (leaf : ℕ → Leaf)
    (old new : ProofLog) : Type 0 where
  pub grew : GrewByGroup f group old new
  pub stay : (v : ℕ) (name : Name) → name_of old.entries v ≡ Some name
      → name_of new.entries v ≡ Some name
  pub names : NamesBadsAlone group old.entries new.entries
  pub few : AreFewWith group new.entries
  pub one_leaf : HaveOneLeaf f group leaf new.entries

-- the chosen clauses have their faults, and some clause is said to be false
pub record AreChosenGiven (f : Dqbf) (group : ℕ) (leaf : ℕ → Leaf) (bads : List Literal)
    (chosen : ℕ → Bool) (entries : List Entry) : Type 0 where
  pub some : Contains entries (Given (Fault 0 0 (Constant false)) (negative group ∷ bads))
  pub all : HaveChosenFaults f group bads leaf chosen entries
