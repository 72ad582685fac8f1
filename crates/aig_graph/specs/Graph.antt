-- And-inverter graphs: a node's value and which inputs it reads (A. Kuehlmann, V. Paruthi, F.
-- Krohm, M. Ganai, "Robust Boolean reasoning for equivalence checking and functional property
-- verification", 2002).
use Rattle.std.specs.Prelude.{◌≡◌, ◌≢◌, ℕ, ◌+◌, ◌==◌, ◌<◌, ◌^◌, Bool, true, false, not, ◌&&◌, List, [], ◌∷◌, ◌++◌, length, Option, None, Some, if◌then◌else◌}
use Rattle.aig_graph.specs.declared.nodes.Node.{Node}
use Rattle.aig_graph.specs.declared.nodes.Node.TheVariants.{Constant, Input, Gate}
use Rattle.aig_graph.specs.declared.nodes.Look.{Look}
use Rattle.aig_graph.specs.declared.nodes.Look.TheVariants.{Constant as LookConstant, Input as LookInput, Gate as LookGate}
use Rattle.aig_graph.specs.declared.nodes.Sides.{Sides}

-- gates newest first; a gate's number is how many came before it
pub record AigGraph : Type 0 where
  pub inputs : ℕ
  pub gates : List Sides

abbrev pub with_sign : Bool → Bool → Bool
with_sign false b = b
with_sign true b = not b

abbrev pub value_by : (ℕ → Bool) → (ℕ → Bool) → Node → Bool
value_by inputs gates (Constant b) = b
value_by inputs gates (Input i negated) = with_sign negated (inputs i)
value_by inputs gates (Gate g negated) = with_sign negated (gates g)

-- a gate is true where both sides are
abbrev pub gate_value : (ℕ → Bool) → List Sides → ℕ → Bool
gate_value inputs [] g = false
gate_value inputs (sides ∷ earlier) g =
    if g == length earlier
    then value_by inputs (gate_value inputs earlier) sides.left
    && value_by inputs (gate_value inputs earlier) sides.right
    else gate_value inputs earlier g

abbrev pub node_value : AigGraph → (ℕ → Bool) → Node → Bool
node_value graph inputs node = value_by inputs (gate_value inputs graph.gates) node

abbrev pub support_by : (ℕ → List ℕ) → Node → List ℕ
support_by gates (Constant b) = []
support_by gates (Input i negated) = i ∷ []
support_by gates (Gate g negated) = gates g

abbrev pub gate_support : List Sides → ℕ → List ℕ
gate_support [] g = []
gate_support (sides ∷ earlier) g =
    if g == length earlier
    then support_by (gate_support earlier) sides.left
    ++ support_by (gate_support earlier) sides.right
    else gate_support earlier g

-- the inputs in a node's cone
abbrev pub node_support : AigGraph → Node → List ℕ
node_support graph node = support_by (gate_support graph.gates) node

-- how many gates there are up to this node
abbrev pub gate_count : Node → ℕ
gate_count (Constant b) = 0
gate_count (Input i negated) = 0
gate_count (Gate g negated) = g + 1

-- a node over so many inputs and gates
abbrev pub IsEarlierNode : ℕ → ℕ → Node → Type 0
IsEarlierNode inputs gates (Constant b) = Unit {0}
IsEarlierNode inputs gates (Input i negated) = i < inputs
IsEarlierNode inputs gates (Gate g negated) = g < gates

abbrev pub IsNode : AigGraph → Node → Type 0
IsNode graph node = IsEarlierNode graph.inputs (length graph.gates) node

-- a node's place: inputs stand first, then gates; constants have none
abbrev pub place_of : ℕ → Node → Option ℕ
place_of inputs (Constant b) = None
place_of inputs (Input i negated) = Some i
place_of inputs (Gate g negated) = Some (inputs + g)

abbrev pub size_of : AigGraph → ℕ
size_of graph = graph.inputs + length graph.gates

-- the sides of a gate are earlier nodes on two different places, none constant
pub record AreSides (inputs gates : ℕ) (sides : Sides) : Type 0 where
  pub left : IsEarlierNode inputs gates sides.left
  pub right : IsEarlierNode inputs gates sides.right
  pub left_inner : place_of inputs sides.left ≢ None
  pub right_inner : place_of inputs sides.right ≢ None
  pub apart : place_of inputs sides.left ≢ place_of inputs sides.right

abbrev pub gate_at : List Sides → ℕ → Option Sides
gate_at [] g = None
gate_at (sides ∷ earlier) g = if g == length earlier then Some sides else gate_at earlier g

-- what stands inside of a gate
pub record IsGateLook (graph : AigGraph) (g : ℕ) (negated : Bool) (look : Look) : Type 0 where
  pub sides : Sides
  pub at : gate_at graph.gates g ≡ Some sides
  pub are_sides : AreSides graph.inputs g sides
  pub look_is : look ≡ LookGate sides.left sides.right negated

abbrev pub IsLook : AigGraph → Node → Look → Type 0
IsLook graph (Constant b) look = look ≡ LookConstant b
IsLook graph (Input i negated) look = look ≡ LookInput i negated
IsLook graph (Gate g negated) look = IsGateLook graph g negated look

-- every gate's sides are such nodes
abbrev pub AreGates : ℕ → List Sides → Type 0
AreGates inputs [] = Unit {0}
AreGates inputs (sides ∷ earlier) = AreSides inputs (length earlier) sides × AreGates inputs earlier

pub record IsGraph (graph : AigGraph) : Type 0 where
  pub few_inputs : graph.inputs < 2 ^ 62
  pub gates : AreGates graph.inputs graph.gates
