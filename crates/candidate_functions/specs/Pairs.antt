-- Words of private contracts: the pairs of existentials with one dependency set, as nodes.
use Rattle.std.specs.Prelude.{◌≡◌, ℕ, ◌+◌, ◌<◌, ◌≤◌, ◌-◌, ◌==◌, ◌⊎◌, Bool, true, false, not, ◌&&◌, ◌||◌, List, length, map, Option, None, Some, slice_get, slice_index, slice_index_or}
use Rattle.std.specs.List.{All, Contains, list_any, position_or_len}
use Rattle.std.specs.Option.{option_map}
use Rattle.dq_lits.specs.Formula.{Existential, Dqbf, existential_of}
use Rattle.dq_lits.specs.Henkin.{same_bit}
use Rattle.dq_lits.specs.Literal.{Assignment, Literal, variable_of, is_negative}
use Rattle.dq_lits.specs.Row.{bit_of}
use Rattle.dq_formula.specs.Rules.{cube_true, first_bit}
use Rattle.dq_formula.specs.declared.rules.Rule.{Rule}
use Rattle.aig_graph.specs.Graph.{AigGraph, IsNode, node_value, node_support}
use Rattle.aig_graph.specs.Outputs.{node_output}
use Rattle.aig_graph.specs.declared.nodes.Node.{Node}
use Rattle.aig_graph.specs.declared.nodes.Node.TheVariants.{Constant, Input}
use Rattle.expansion.specs.Table.{PointBits}
use Rattle.row_pairs.specs.Pairs.{agrees, ArePairRounds}
use Rattle.candidate_functions.specs.Candidates.{AgreesAtPairs, FollowsRules}
use Rattle.candidate_functions.specs.declared.classes.Class.{Class}
use Rattle.candidate_functions.specs.declared.cubes.Pair.{Pair}

-- a node that is true where the inputs have the row's bits at these places, and reads no others
pub record IsRowCube (graph : AigGraph) (places : List ℕ) (row : List Bool)
    (node : Node) : Type 0 where
  pub is_node : IsNode graph node
  pub value : (inputs : ℕ → Bool) → node_value graph inputs node ≡ agrees places row inputs
  pub reads : (i : ℕ) → Contains (node_support graph node) i → Contains places i

-- the input, or its negation, that is true where the input has the row's bit
abbrev pub row_literal : List Bool → ℕ → Node
row_literal row p = Input p (not (bit_of row p))

-- a pair of the row at a place; rounds are counted from 1
pub record IsPair (rows : List (List Bool)) (graph : AigGraph) (places : List ℕ)
    (pair : Pair) : Type 0 where
  pub place : ℕ
  pub row : List Bool
  pub round : pair.round ≡ place + 1
  pub at : slice_get rows place ≡ Some row
  pub cube : IsRowCube graph places row pair.cube

abbrev pub AreRounds : ℕ → List Pair → Type 0
AreRounds count pairs = All (λ p. (1 ≤ p.round) × (p.round ≤ count)) pairs

-- where universals stand among all of them
abbrev pub universal_places : Dqbf → List ℕ → List ℕ
universal_places f xs = map (λ x. position_or_len (λ u. u == x) f.universals) xs

-- a pair's cube reads it
pub record IsReadByPair (graph : AigGraph) (pairs : List Pair) (i : ℕ) : Type 0 where
  pub pair : Pair
  pub among : Contains pairs pair
  pub reads : Contains (node_support graph pair.cube) i

-- the inputs are at a pair of a round with such a bit
abbrev pub at_pair : AigGraph → (ℕ → Bool) → List Pair → (ℕ → Bool) → Bool
at_pair graph bits pairs inputs =
    list_any (λ p. bits p.round && node_value graph inputs p.cube) pairs

-- a node that is true where the first is, and where the second is if the bit is true
pub record IsWith (old new : AigGraph) (made : Node) (bit : Bool) (cube node : Node) : Type 0 where
  pub is_node : IsNode new node
  pub value : (inputs : ℕ → Bool)
      → node_value new inputs node
      ≡ (node_value old inputs made || (bit && node_value old inputs cube))
  pub reads : (i : ℕ) → Contains (node_support new node) i
      → Contains (node_support old made) i ⊎ Contains (node_support old cube) i

pub record IsAtPair (old new : AigGraph) (bits : ℕ → Bool) (pairs : List Pair)
    (node : Node) : Type 0 where
  pub is_node : IsNode new node
  pub value : (inputs : ℕ → Bool) → node_value new inputs node ≡ at_pair old bits pairs inputs
  pub reads : (i : ℕ) → Contains (node_support new node) i → IsReadByPair old pairs i

-- whether an existential's point in a round has this bit
abbrev pub has_bit : Bool → PointBits → ℕ → ℕ → Bool
has_bit bit points y round = same_bit bit (points round y)

-- it has the value of another one, except where the inputs are at a pair with such a bit: there it
-- is false
pub record IsMasked (old new : AigGraph) (bits : ℕ → Bool) (pairs : List Pair)
    (other node : Node) : Type 0 where
  pub is_node : IsNode new node
  pub value : (inputs : ℕ → Bool)
      → node_value new inputs node
      ≡ (node_value old inputs other && not (at_pair old bits pairs inputs))
  pub reads : (i : ℕ) → Contains (node_support new node) i
      → Contains (node_support old other) i ⊎ IsReadByPair old pairs i

-- a node with the points' bits at the pairs, and the value of another one elsewhere
pub record IsPatched (old new : AigGraph) (points : PointBits) (y : ℕ) (pairs : List Pair)
    (other node : Node) : Type 0 where
  pub is_node : IsNode new node
  pub value : (inputs : ℕ → Bool) → node_value new inputs node
      ≡ (at_pair old (has_bit true points y) pairs inputs
      || (node_value old inputs other
      && not (at_pair old (has_bit false points y) pairs inputs)))
  pub reads : (i : ℕ) → Contains (node_support new node) i
      → Contains (node_support old other) i ⊎ IsReadByPair old pairs i

-- a node with the bit of an existential's first rule whose cube is true, where there is one
pub record IsByRules (f : Dqbf) (graph : AigGraph) (rules : List Rule) (y : Existential)
    (node : Node) : Type 0 where
  pub is_node : IsNode graph node
  pub value : (m : Assignment) (bit : Bool) → first_bit rules y.variable m ≡ Some bit
      → (node_output f graph node).value m ≡ bit
  pub reads : All (Contains y.sees) (node_output f graph node).support

-- the universal's input, or its negation
abbrev pub input_literal : Dqbf → Literal → Node
input_literal f l = Input (position_or_len (λ u. u == variable_of l) f.universals) (is_negative l)

-- a node that is true where the cube is, and reads its variables alone
pub record IsCubeNode (f : Dqbf) (graph : AigGraph) (cube : List Literal)
    (node : Node) : Type 0 where
  pub is_node : IsNode graph node
  pub value : (m : Assignment) → (node_output f graph node).value m ≡ cube_true m cube
  pub reads : (sees : List ℕ) → All (λ l. Contains sees (variable_of l)) cube
      → All (Contains sees) (node_output f graph node).support

-- a node by the rules for each existential
pub record AreByRules (f : Dqbf) (graph : AigGraph) (rules : List Rule)
    (nodes : List Node) : Type 0 where
  pub one_each : length nodes ≡ length f.existentials
  pub each : (p : ℕ) (y : Existential) → slice_get f.existentials p ≡ Some y
      → IsByRules f graph rules y (slice_index_or nodes p (Constant false))

-- the output of an existential without a definition
pub record IsCandidate (f : Dqbf) (rows : List (List Bool)) (points : PointBits) (rules : List Rule)
    (graph : AigGraph) (y : Existential)
    (node : Node) : Type 0 where
  pub is_node : IsNode graph node
  pub reads : All (Contains y.sees) (node_output f graph node).support
  pub at_pairs : AgreesAtPairs f rows points y (node_output f graph node)
  pub by_rules : FollowsRules f rows rules y (node_output f graph node)

-- what stands at an existential's place before definitions are put in
pub record IsFirstOutput (f : Dqbf) (rows : List (List Bool)) (points : PointBits)
    (rules : List Rule) (graph : AigGraph) (y : Existential)
    (definition : Option Node) (node : Node) : Type 0 where
  pub is_node : IsNode graph node
  pub undefined : definition ≡ None → IsCandidate f rows points rules graph y node

-- the dependency set of an existential
abbrev pub set_of : Dqbf → ℕ → Option (List ℕ)
set_of f y = option_map (λ (e : Existential). e.sees) (existential_of f y)

-- at this place there is the class of an existential with the same dependency set
pub record HasClassLike (f : Dqbf) (classes : List Class) (place y : ℕ) : Type 0 where
  pub class : Class
  pub at : slice_get classes place ≡ Some class
  pub alike : set_of f class.y ≡ set_of f y

-- the rounds of all pairs of a class whose existentials see the inputs at these places, and cubes of
-- some of them
pub record IsPlacedClass (rows : List (List Bool)) (graph : AigGraph) (places : List ℕ)
    (class : Class) : Type 0 where
  pub rounds : ArePairRounds rows places (length rows) class.rounds.items
  pub one_each : length class.cubes.items ≡ length class.rounds.items
  pub cubes : (i : ℕ) (cube : Node) (row : List Bool)
      → slice_get class.cubes.items i ≡ Some (Some cube)
      → slice_get rows (slice_index class.rounds.items i - 1) ≡ Some row
      → IsRowCube graph places row cube

-- each class is that of its existential's dependency set
abbrev pub IsClass : Dqbf → List (List Bool) → AigGraph → Class → Type 0
IsClass f rows graph class =
    (y : Existential) → existential_of f class.y ≡ Some y
    → IsPlacedClass rows graph (universal_places f y.sees) class

-- at this place there is the class of an existential's dependency set
pub record HasClass (f : Dqbf) (rows : List (List Bool)) (graph : AigGraph) (classes : List Class)
    (place y : ℕ) : Type 0 where
  pub class : Class
  pub at : slice_get classes place ≡ Some class
  pub is_class : (e : Existential) → existential_of f y ≡ Some e
      → IsPlacedClass rows graph (universal_places f e.sees) class
  pub alike : set_of f class.y ≡ set_of f y

-- what stands at the places of the first existentials
pub record AreFirstOutputs (f : Dqbf) (rows : List (List Bool)) (points : PointBits)
    (rules : List Rule) (definitions : List (Option Node))
    (graph : AigGraph) (count : ℕ) (nodes : List Node) : Type 0 where
  pub one_each : length nodes ≡ count
  pub each : (p : ℕ) (y : Existential) → p < count → slice_get f.existentials p ≡ Some y
      → IsFirstOutput f rows points rules graph y (slice_index_or definitions p None)
      (slice_index_or nodes p (Constant false))
