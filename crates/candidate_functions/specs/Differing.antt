-- Words of private contracts: what is known of nodes at the rows of a table, and the pairs at which
-- they are patched.
use Rattle.std.specs.Prelude.{◌≡◌, ℕ, ◌+◌, ◌-◌, ◌<◌, ◌⊎◌, Bool, true, List, length, [], map, Some, slice_get, slice_index_or, take}
use Rattle.std.specs.List.{All, Contains}
use Rattle.dq_lits.specs.Row.{bit_of}
use Rattle.aig_graph.specs.Graph.{AigGraph, node_value}
use Rattle.aig_graph.specs.Words.{word_bit}
use Rattle.aig_graph.specs.declared.nodes.Node.{Node}
use Rattle.expansion.specs.Table.{PointBits}
use Rattle.candidate_functions.specs.Pairs.{IsPair}
use Rattle.row_pairs.specs.Pairs.{agrees}
use Rattle.candidate_functions.specs.declared.cubes.Pair.{Pair}

-- the values of nodes under a row
abbrev pub values_under : AigGraph → List Node → List Bool → List Bool
values_under graph nodes row = map (node_value graph (bit_of row)) nodes

-- the values of nodes under the first rows
abbrev pub AreValues : List (List Bool) → AigGraph → List Node → List (List Bool) → Type 0
AreValues rows graph nodes values =
    values ≡ map (values_under graph nodes) (take (length values) rows)

-- the values of nodes under 64 rows from a place on, side by side: no row has all bits false
abbrev pub AreWordsFrom : List (List Bool) → AigGraph → List Node → ℕ → List ℕ → Type 0
AreWordsFrom rows graph nodes first words =
    (b : ℕ) → b < 64
    → map (word_bit b) words ≡ values_under graph nodes (slice_index_or rows (first + b) [])

-- the row has a bit at a place, which is this one
pub record HasBitAt (row : List Bool) (place : ℕ) (bit : Bool) : Type 0 where
  pub within : place < length row
  pub same : bit_of row place ≡ bit

-- the value in a round of the node at a place is known, and it is the existential's point
pub record HasKnownPoint (values : List (List Bool)) (points : PointBits) (y place round : ℕ)
    : Type 0 where
  pub row : List Bool
  pub at : slice_get values (round - 1) ≡ Some row
  pub has : HasBitAt row place (points round y)

-- at a round's row a node has the existential's point
abbrev pub HasOwnPoint : List (List Bool) → PointBits → AigGraph → ℕ → Node → ℕ → Type 0
HasOwnPoint rows points graph y node round =
    (row : List Bool) → slice_get rows (round - 1) ≡ Some row
    → node_value graph (bit_of row) node ≡ points round y

-- what is known of a node is right
abbrev pub IsKnownRightly : List (List Bool) → PointBits → AigGraph → ℕ → ℕ → Node
    → List (List Bool) → Type 0
IsKnownRightly rows points graph y place node values =
    (round : ℕ) → HasKnownPoint values points y place round
    → HasOwnPoint rows points graph y node round

-- one of the pairs is that of a round
pub record HasPairOf (pairs : List Pair) (round : ℕ) : Type 0 where
  pub pair : Pair
  pub among : Contains pairs pair
  pub is : pair.round ≡ round

-- pairs of some of the rounds: in all others the existential's point is known of the node
pub record ArePatches (rows values : List (List Bool)) (points : PointBits) (graph : AigGraph)
    (places : List ℕ) (y place : ℕ) (rounds : List ℕ) (pairs : List Pair) : Type 0 where
  pub each : All (IsPair rows graph places) pairs
  pub others : (round : ℕ) → Contains rounds round
      → HasPairOf pairs round ⊎ HasKnownPoint values points y place round

-- an earlier row with the same bits has a pair, or the node has the existential's point there
pub record IsCovered (rows : List (List Bool)) (points : PointBits) (graph : AigGraph)
    (places : List ℕ) (y : ℕ) (node : Node) (pairs : List Pair) (row : List Bool) : Type 0 where
  pub place : ℕ
  pub first : List Bool
  pub at : slice_get rows place ≡ Some first
  pub same : agrees places first (bit_of row) ≡ true
  pub state : HasPairOf pairs (place + 1) ⊎ HasOwnPoint rows points graph y node (place + 1)
