-- The literals over first copies that stand for nodes of a graph.
use Rattle.std.specs.Prelude.{◌≡◌, ◌<◌, ℕ, Bool, true, false, List, length, Some, IsSome}
use Rattle.std.specs.BTreeMap.{BTreeMap, get}
use Rattle.std.specs.Ordering.{nat_cmp}
use Rattle.dq_lits.specs.Literal.{Literal, positive, opposite}
use Rattle.dq_lits.specs.Formula.{Dqbf, declared}
use Rattle.aig_graph.specs.Graph.{AigGraph, AreSides, gate_at}
use Rattle.aig_graph.specs.Putting.{gate_of}
use Rattle.aig_graph.specs.declared.nodes.Node.{Node}
use Rattle.aig_graph.specs.declared.nodes.Node.TheVariants.{Constant, Input, Gate}
use Rattle.aig_graph.specs.declared.nodes.Sides.{Sides}
use Rattle.defining_nodes.specs.Definitions.{input_variable}
use Rattle.hint_log.specs.Entries.{Entry, name_of}
use Rattle.hint_log.specs.Naming.{named_literal, name_literal}
use Rattle.hint_log.specs.declared.names.Name.TheVariants.{Copy as CopyOf, Term}
use Rattle.hint_log.specs.declared.origins.Leaf.{Leaf}
use Rattle.hint_log.specs.declared.origins.Leaf.TheVariants.{Constant as LeafConstant, Literal as LeafLiteral}

-- a literal that stands for a node: the first copy of an input's variable, or a gate over the
-- literals of its sides; or the negation of such a one
pub data StandsFor (f : Dqbf) (graph : AigGraph)
    (entries : List Entry) : Node → Literal → Type 0 where
  input : (i : ℕ) (l : Literal) → i < length (declared f)
      → name_literal entries l ≡ Some (named_literal (CopyOf 1 (input_variable f i)) false)
      → StandsFor f graph entries (Input i false) l
  gate : (g v : ℕ) (sides : Sides) (a b : Literal) → gate_at graph.gates g ≡ Some sides
      → AreSides graph.inputs g sides → StandsFor f graph entries sides.left a
      → StandsFor f graph entries sides.right b → name_of entries v ≡ Some (Term a b)
      → StandsFor f graph entries (Gate g false) (positive v)
  not_input : (i : ℕ) (l : Literal) → StandsFor f graph entries (Input i false) l
      → StandsFor f graph entries (Input i true) (opposite l)
  not_gate : (g : ℕ) (l : Literal) → StandsFor f graph entries (Gate g false) l
      → StandsFor f graph entries (Gate g true) (opposite l)

-- a leaf that stands for a node
abbrev pub IsLeafFor : Dqbf → AigGraph → List Entry → Node → Leaf → Type 0
IsLeafFor f graph entries (Constant b) leaf = leaf ≡ LeafConstant b
IsLeafFor f graph entries node leaf =
    (l : Literal) × (leaf ≡ LeafLiteral l) × StandsFor f graph entries node l

-- if the node is a gate, its literal is known
pub record HasLiteral (f : Dqbf) (graph : AigGraph) (entries : List Entry)
    (literals : BTreeMap ℕ Literal) (g : ℕ) : Type 0 where
  pub literal : Literal
  pub found : get nat_cmp literals g ≡ Some literal
  pub stands : StandsFor f graph entries (Gate g false) literal

abbrev pub IsKnown : Dqbf → AigGraph → List Entry → BTreeMap ℕ Literal → Node → Type 0
IsKnown f graph entries literals node =
    (g : ℕ) → gate_of node ≡ Some g → HasLiteral f graph entries literals g

-- the gates among a gate's sides are known
abbrev pub AreSidesKnown : Dqbf → AigGraph → List Entry → BTreeMap ℕ Literal → ℕ → Type 0
AreSidesKnown f graph entries literals g =
    (sides : Sides) → gate_at graph.gates g ≡ Some sides
    → IsKnown f graph entries literals sides.left × IsKnown f graph entries literals sides.right

-- if the node is a gate, the map has a literal for it
abbrev pub HasGate : BTreeMap ℕ Literal → Node → Type 0
HasGate literals node = (g : ℕ) → gate_of node ≡ Some g → IsSome (get nat_cmp literals g)

abbrev pub negated_by : Bool → Literal → Literal
negated_by false l = l
negated_by true l = opposite l
