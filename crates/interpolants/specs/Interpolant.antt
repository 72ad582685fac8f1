-- Craig interpolants of an answer of a log, between the given clauses of two sides (W. Craig, 1957;
-- K. McMillan, "Interpolation and SAT-based model checking", 2003).
use Rattle.std.specs.Prelude.{◌≡◌, ℕ, ◌==◌, ◌⊎◌, Bool, true, false, ◌&&◌, List, Option, Some, IsSome}
use Rattle.std.specs.List.{Contains, list_any}
use Rattle.std.specs.Map.{lookup}
use Rattle.dq_lits.specs.Literal.{Assignment, Literal, variable_of, opposite, literal_true, clause_true}
use Rattle.dq_lits.specs.Derivation.{holds}
use Rattle.hint_log.specs.Entries.{Entry}
use Rattle.hint_log.specs.Entries.{clause_at, origin_at}
use Rattle.hint_log.specs.Naming.{is_selector}
use Rattle.hint_log.specs.Reached.{Reaches}
use Rattle.aig_graph.specs.Graph.{AigGraph, node_value, node_support, IsNode}
use Rattle.aig_graph.specs.declared.nodes.Node.{Node}

-- an answer of a log, the assumptions of the A side, and the nodes of shared variables
pub record Partition : Type 0 where
  pub entries : List Entry
  pub id : ℕ
  pub a_side : List Literal
  pub shared : List (ℕ × Node)

abbrev pub partition : List Entry → ℕ → List Literal → List (ℕ × Node) → Partition
partition entries id a_side shared =
    record { entries = entries; id = id; a_side = a_side; shared = shared }

-- the node of a variable: the first that is listed
abbrev pub node_of : List (ℕ × Node) → ℕ → Option Node
node_of pairs v = lookup (λ w. v == w) pairs

-- a clause is on the A side where it negates a selector that is assumed there
abbrev pub is_on_a : Partition → List Literal → Bool
is_on_a q clause =
    list_any (λ l. holds q.a_side (opposite l) && is_selector q.entries (variable_of l)) clause

-- a given clause that the answer reaches
pub record IsReachedGiven (q : Partition) (at : ℕ) (clause : List Literal) : Type 0 where
  pub reached : Reaches q.entries q.id at
  pub given : IsSome (origin_at q.entries at)
  pub clause_is : clause_at q.entries at ≡ Some clause

-- the given clauses of a side, A where `side` is true, are true
abbrev pub SideHolds : Partition → Bool → Assignment → Type 0
SideHolds q side m =
    (at : ℕ) (clause : List Literal) → IsReachedGiven q at clause → is_on_a q clause ≡ side
    → clause_true m clause ≡ true

-- an assumption of the B side: one that the answer's clause negates and that isn't of the A side
pub record IsOther (q : Partition) (l : Literal) : Type 0 where
  pub clause : List Literal
  pub clause_is : clause_at q.entries q.id ≡ Some clause
  pub negated : holds clause (opposite l) ≡ true
  pub not_a : holds q.a_side l ≡ false

abbrev pub stands_on : List Literal → ℕ → Bool
stands_on literals v = list_any (λ l. variable_of l == v) literals

-- the variable stands in a given clause of a side
pub record IsInSide (q : Partition) (side : Bool) (v : ℕ) : Type 0 where
  pub at : ℕ
  pub clause : List Literal
  pub given : IsReachedGiven q at clause
  pub on_side : is_on_a q clause ≡ side
  pub stands : stands_on clause v ≡ true

abbrev pub IsOfA : Partition → ℕ → Type 0
IsOfA q v = (stands_on q.a_side v ≡ true) ⊎ IsInSide q true v

abbrev pub IsOfB : Partition → ℕ → Type 0
IsOfB q v = ((l : Literal) × IsOther q l × (variable_of l ≡ v)) ⊎ IsInSide q false v

-- every variable of both sides is shared
abbrev pub SharesAll : Partition → Type 0
SharesAll q = (v : ℕ) → IsOfA q v → IsOfB q v → IsSome (node_of q.shared v)

abbrev pub AreNodes : List (ℕ × Node) → AigGraph → Type 0
AreNodes shared graph = (v : ℕ) (n : Node) → node_of shared v ≡ Some n → IsNode graph n

-- shared variables have the values of their nodes
abbrev pub Agrees : List (ℕ × Node) → AigGraph → (ℕ → Bool) → Assignment → Type 0
Agrees shared graph inputs m =
    (v : ℕ) (n : Node) → node_of shared v ≡ Some n → node_value graph inputs n ≡ m v

-- an input that the node of a shared variable reads
pub record IsSharedInput (shared : List (ℕ × Node)) (graph : AigGraph) (i : ℕ) : Type 0 where
  pub variable : ℕ
  pub node : Node
  pub node_is : node_of shared variable ≡ Some node
  pub reads : Contains (node_support graph node) i

abbrev pub ReadsShared : List (ℕ × Node) → AigGraph → Node → Type 0
ReadsShared shared graph node =
    (i : ℕ) → Contains (node_support graph node) i → IsSharedInput shared graph i

-- the node is true wherever the A side is, it contradicts the B side, and it reads what the nodes
-- of shared variables read alone
pub record IsInterpolant (q : Partition) (graph : AigGraph) (node : Node) : Type 0 where
  pub is_node : IsNode graph node
  pub follows : (inputs : ℕ → Bool) (m : Assignment) → Agrees q.shared graph inputs m
      → SideHolds q true m →
      ((l : Literal) → holds q.a_side l ≡ true → literal_true m l ≡ true)
      → node_value graph inputs node ≡ true
  pub contradicts : (inputs : ℕ → Bool) (m : Assignment) → Agrees q.shared graph inputs m
      → SideHolds q false m →
      ((l : Literal) → IsOther q l → literal_true m l ≡ true) → node_value graph inputs node ≡ true
      → ⊥
  pub reads : ReadsShared q.shared graph node
