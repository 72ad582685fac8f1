-- Partial interpolants: of the clause whose literals' negations are these.
use Rattle.std.specs.Prelude.{◌≡◌, ℕ, ◌<◌, Bool, true, false, not, ◌&&◌, ◌||◌, List, map, Some}
use Rattle.std.specs.List.{Contains, list_any, list_all}
use Rattle.std.specs.Option.{is_some}
use Rattle.dq_lits.specs.Literal.{Assignment, Literal, variable_of, opposite, literal_true}
use Rattle.dq_lits.specs.Derivation.{holds}
use Rattle.hint_log.specs.Entries.{clause_at}
use Rattle.hint_log.specs.Reached.{Reaches}
use Rattle.aig_graph.specs.Graph.{AigGraph, node_value, IsNode}
use Rattle.aig_graph.specs.declared.nodes.Node.{Node}
use Rattle.interpolants.specs.Interpolant.{Partition, node_of, SideHolds, Agrees, ReadsShared}

-- the literals on local variables, where `side` is true, or on the others are true
abbrev pub AreTrueOn : (ℕ → Bool) → Bool → Assignment → List Literal → Type 0
AreTrueOn local side m trues =
    (l : Literal) → holds trues l ≡ true → local (variable_of l) ≡ side → literal_true m l ≡ true

-- true where the A side holds and the local literals are true, and in contradiction to the B side
-- where the others are
pub record IsPart (q : Partition) (local : ℕ → Bool) (graph : AigGraph) (trues : List Literal)
    (node : Node) : Type 0 where
  pub is_node : IsNode graph node
  pub follows : (inputs : ℕ → Bool) (m : Assignment) → Agrees q.shared graph inputs m
      → SideHolds q true m → AreTrueOn local true m trues →
      node_value graph inputs node ≡ true
  pub contradicts : (inputs : ℕ → Bool) (m : Assignment) → Agrees q.shared graph inputs m
      → SideHolds q false m → AreTrueOn local false m trues →
      node_value graph inputs node ≡ true → ⊥
  pub reads : ReadsShared q.shared graph node

-- the partial interpolant of an id's clause
abbrev pub IsPartOf : Partition → (ℕ → Bool) → AigGraph → ℕ → Node → Type 0
IsPartOf q local graph id node =
    (clause : List Literal) → clause_at q.entries id ≡ Some clause
    → IsPart q local graph (map opposite clause) node

-- a literal on a shared variable that is true
abbrev pub is_true_shared : List (ℕ × Node) → Assignment → Literal → Bool
is_true_shared shared m l = is_some (node_of shared (variable_of l)) && literal_true m l

-- the node is true where a literal of the clause on a shared variable is
pub record IsSharedPart (shared : List (ℕ × Node)) (graph : AigGraph) (clause : List Literal)
    (node : Node) : Type 0 where
  pub is_node : IsNode graph node
  pub value : (inputs : ℕ → Bool) (m : Assignment) → Agrees shared graph inputs m
      → node_value graph inputs node ≡ list_any (is_true_shared shared m) clause
  pub reads : ReadsShared shared graph node

-- where the literal negates a shared literal of the A side, that one is true
abbrev pub is_asked_true : List (ℕ × Node) → List Literal → Assignment → Literal → Bool
is_asked_true shared a_side m l =
    not (holds a_side (opposite l) && is_some (node_of shared (variable_of l)))
    || literal_true m (opposite l)

-- the node is true where another is, and the shared literals of the A side that the clause negates
-- are
pub record IsAsked (shared : List (ℕ × Node)) (a_side clause : List Literal) (old new : AigGraph)
    (p node : Node) : Type 0 where
  pub is_node : IsNode new node
  pub value : (inputs : ℕ → Bool) (m : Assignment) → Agrees shared new inputs m →
      node_value new inputs node
      ≡ (node_value old inputs p && list_all (is_asked_true shared a_side m) clause)
  pub reads : ReadsShared shared new node

-- a partial interpolant was noted for an id
pub record HasPart (q : Partition) (local : ℕ → Bool) (graph : AigGraph) (notes : List (ℕ × Node))
    (at : ℕ) : Type 0 where
  pub node : Node
  pub noted : node_of notes at ≡ Some node
  pub part : IsPartOf q local graph at node

-- for each of these
abbrev pub HaveParts : Partition → (ℕ → Bool) → AigGraph → List (ℕ × Node) → List ℕ → Type 0
HaveParts q local graph notes ids = (id : ℕ) → Contains ids id → HasPart q local graph notes id

-- for each id below one that the answer reaches
abbrev pub AreNoted : Partition → (ℕ → Bool) → AigGraph → List (ℕ × Node) → ℕ → Type 0
AreNoted q local graph notes bound =
    (at : ℕ) → Reaches q.entries q.id at → at < bound → HasPart q local graph notes at
