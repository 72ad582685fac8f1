-- The A side, as it is collected.
use Rattle.std.specs.Prelude.{◌≡◌, ℕ, Bool, true, not, ◌&&◌, List}
use Rattle.std.specs.List.{Contains}
use Rattle.std.specs.Option.{is_some}
use Rattle.dq_lits.specs.Literal.{Literal, positive, variable_of}
use Rattle.dq_lits.specs.Derivation.{holds}
use Rattle.hint_log.specs.Entries.{Entry}
use Rattle.hint_log.specs.Naming.{is_selector}
use Rattle.aig_graph.specs.declared.nodes.Node.{Node}
use Rattle.interpolants.specs.Interpolant.{Partition, partition, node_of, is_on_a, IsReachedGiven, stands_on, IsOfA}
use Rattle.interpolants.specs.declared.sides.Side.{Side}

-- the selectors among these literals
abbrev pub AreSelectors : List Entry → List Literal → List Literal → Type 0
AreSelectors entries literals selectors =
    (l : Literal) → holds selectors l ≡ (holds literals l && is_selector entries (variable_of l))

-- exactly the variables of the A side
pub record AreOfA (q : Partition) (variables : List Literal) : Type 0 where
  pub sound : (v : ℕ) → holds variables (positive v) ≡ true → IsOfA q v
  pub complete : (v : ℕ) → IsOfA q v → holds variables (positive v) ≡ true

-- those of the assumptions, and of the given clauses among these ids
pub record AreOfSome (q : Partition) (ids : List ℕ) (variables : List Literal) : Type 0 where
  pub sound : (v : ℕ) → holds variables (positive v) ≡ true → IsOfA q v
  pub assumed : (v : ℕ) → stands_on q.a_side v ≡ true → holds variables (positive v) ≡ true
  pub given : (at : ℕ) → Contains ids at → (clause : List Literal) → IsReachedGiven q at clause
      → is_on_a q clause ≡ true →
      (v : ℕ) → stands_on clause v ≡ true → holds variables (positive v) ≡ true

-- the side of a partition, with its selectors and its variables
pub record IsSide (q : Partition) (side : Side) : Type 0 where
  pub selectors : AreSelectors q.entries q.a_side side.selectors
  pub variables : AreOfA q side.variables

-- a variable of the A side that isn't shared, where these are the variables of the A side
abbrev pub is_local : List (ℕ × Node) → List Literal → ℕ → Bool
is_local shared variables v = holds variables (positive v) && not (is_some (node_of shared v))

-- a partition as it is kept, and its local variables
abbrev pub split : List Entry → ℕ → Side → List (ℕ × Node) → Partition
split entries id side shared = partition entries id side.assumed shared

abbrev pub locals : Side → List (ℕ × Node) → ℕ → Bool
locals side shared = is_local shared side.variables
