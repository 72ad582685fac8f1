-- Words of private contracts: trees that find rows by their bits on a dependency set.
use Rattle.std.specs.Prelude.{◌≡◌, ◌≢◌, ℕ, zero, suc, ◌+◌, ◌<◌, Bool, true, List, [], length, Option, None, Some, slice_index_or, if◌then◌else◌}
use Rattle.dq_lits.specs.Formula.{Existential, Dqbf, existential_of}
use Rattle.dq_lits.specs.Row.{bit_of}
use Rattle.refutation_checker.specs.Rows.{agree_over, row_of}
use Rattle.refutation_checker.specs.declared.row_trees.Node.{Node}
use Rattle.refutation_checker.specs.declared.row_trees.Node.TheVariants.{Leaf, Test}
use Rattle.refutation_checker.specs.declared.row_trees.LeafMatch.{LeafMatch}
use Rattle.refutation_checker.specs.declared.row_trees.LeafMatch.TheVariants.{Numbered, Differs}

abbrev pub sees_in : Option Existential → List ℕ
sees_in None = []
sees_in (Some y) = y.sees

-- the dependency set of an existential
abbrev pub sees_of : Dqbf → ℕ → List ℕ
sees_of f y = sees_in (existential_of f y)

abbrev pub node_at : List Node → ℕ → Node
node_at nodes k = slice_index_or nodes k (Test 0 0)

-- the node that comes next for a row; none behind a leaf
abbrev pub next_of : List Bool → Node → Option ℕ
next_of row (Leaf _ _) = None
next_of row (Test place without) = Some (if bit_of row place then without + 1 else without)

abbrev pub walk_by : Option ℕ → ℕ → (ℕ → ℕ) → ℕ
walk_by None k onward = k
walk_by (Some next) k onward = onward next

-- where a row comes to from the node at k in n steps
abbrev pub walk : (ℕ → Node) → List Bool → ℕ → ℕ → ℕ
walk at row zero k = k
walk at row (suc n) k = walk_by (next_of row (at k)) k (walk at row n)

-- the leaf that a row comes to
abbrev pub reached : List Node → List Bool → ℕ
reached nodes row = walk (node_at nodes) row (length nodes) 0

-- the number that a leaf gives to a row, where the leaf's row agrees with it
abbrev pub number_by : Dqbf → List (List Bool) → List ℕ → List Bool → Node → Option ℕ
number_by f rows sees row (Leaf k number) =
    if agree_over f sees (row_of rows k) row then Some number else None
number_by f rows sees row (Test _ _) = None

-- the number of the rows that agree with a row, if they have one
abbrev pub found : Dqbf → List (List Bool) → List ℕ → List Node → List Bool → Option ℕ
found f rows sees nodes row = number_by f rows sees row (node_at nodes (reached nodes row))

-- rows that agree on the set have one bit at this place
abbrev pub IsSeenPlace : Dqbf → List ℕ → ℕ → Type 0
IsSeenPlace f sees place =
    (r s : List Bool) → length r ≡ length f.universals → length s ≡ length f.universals
    → agree_over f sees r s ≡ true → bit_of r place ≡ bit_of s place

-- two rows differ at a place that is seen
pub record Differ (f : Dqbf) (sees : List ℕ) (r s : List Bool) (place : ℕ) : Type 0 where
  pub apart : bit_of r place ≢ bit_of s place
  pub seen : IsSeenPlace f sees place
  pub within : place < length f.universals

-- a node stands before those that it leads to
abbrev pub IsOrderedNode : ℕ → ℕ → Node → Type 0
IsOrderedNode count k (Leaf _ _) = Unit {0}
IsOrderedNode count k (Test _ without) = (k < without) × (without + 1 < count)

abbrev pub IsOrdered : List Node → Type 0
IsOrdered nodes =
    (k : ℕ) → k < length nodes → IsOrderedNode (length nodes) k (node_at nodes k)

-- leaves have rows that there are, and tests places that are seen
abbrev pub IsKeyNode : Dqbf → List (List Bool) → List ℕ → Node → Type 0
IsKeyNode f rows sees (Leaf k _) = k < length rows
IsKeyNode f rows sees (Test place _) = IsSeenPlace f sees place

pub record IsTree (f : Dqbf) (rows : List (List Bool)) (sees : List ℕ) (nodes : List Node)
    : Type 0 where
  pub ordered : IsOrdered nodes
  pub keyed : (k : ℕ) → k < length nodes → IsKeyNode f rows sees (node_at nodes k)

-- the node at a place leads to two more
pub record IsNodeSplit (old new : List Node) (at place : ℕ) (without with_it : Node) : Type 0 where
  pub count : length new ≡ length old + 2
  pub here : node_at new at ≡ Test place (length old)
  pub others : (k : ℕ) → k < length old → k ≢ at → node_at new k ≡ node_at old k
  pub first : node_at new (length old) ≡ without
  pub second : node_at new (length old + 1) ≡ with_it

-- the rows that agree with this one have a number, and other rows the one that they had
abbrev pub AreNumbered : Dqbf → List (List Bool) → List ℕ → List Node → List Node → List Bool → ℕ
    → Type 0
AreNumbered f rows sees old new row number =
    (r : List Bool) → length r ≡ length f.universals
    → found f rows sees new r
    ≡ (if agree_over f sees row r then Some number else found f rows sees old r)

abbrev pub number_or : Option ℕ → ℕ → ℕ
number_or None other = other
number_or (Some number) other = number

-- a row has the number of the leaf that it comes to, or differs from its row
abbrev pub IsLeafMatch : Dqbf → List (List Bool) → List ℕ → List Node → ℕ → List Bool → LeafMatch
    → Type 0
IsLeafMatch f rows sees nodes at row (Numbered number) = found f rows sees nodes row ≡ Some number
IsLeafMatch f rows sees nodes at row (Differs place) =
    (k : ℕ) × ((number : ℕ) × ((node_at nodes at ≡ Leaf k number) × (k < length rows)
    × Differ f sees (row_of rows k) row place))
