-- The leaves that variables have in the faults among some ids, and the group of these faults.
use Rattle.std.specs.Prelude.{◌≡◌, ℕ, ◌≤◌, false, List, ◌∷◌, Option, None, Some, IsSome, slice_index_or}
use Rattle.std.specs.List.{Contains}
use Rattle.std.specs.Option.{option_map}
use Rattle.dq_lits.specs.Formula.{Dqbf, Existential}
use Rattle.dq_lits.specs.Literal.{Literal, negative, variable_of}
use Rattle.hint_log.specs.Entries.{Entry, origin_at, clause_at}
use Rattle.hint_log.specs.Origins.{matrix_literal}
use Rattle.hint_log.specs.declared.origins.Leaf.{Leaf}
use Rattle.hint_log.specs.declared.origins.Leaf.TheVariants.{Constant}
use Rattle.hint_log.specs.declared.origins.Origin.TheVariants.{Fault}
use Rattle.number_tables.specs.Numbers.{place_of}

-- variables, and for each its leaf
pub record LeafTable : Type 0 where
  pub variables : List ℕ
  pub leaves : List Leaf

abbrev pub leaf_of : LeafTable → ℕ → Option Leaf
leaf_of t v =
    option_map (λ place. slice_index_or t.leaves place (Constant false)) (place_of t.variables v)

abbrev pub or_false : Option Leaf → Leaf
or_false None = Constant false
or_false (Some leaf) = leaf

-- an existential's leaf, and constant false where it has none
abbrev pub output_leaf : LeafTable → Existential → Leaf
output_leaf t y = or_false (leaf_of t y.variable)

-- the id is that of a fault of a literal on the variable
pub record IsLeafAt (f : Dqbf) (entries : List Entry) (id v : ℕ) (out : Leaf) : Type 0 where
  pub j : ℕ
  pub i : ℕ
  pub is_fault : origin_at entries id ≡ Some (Fault j i out)
  pub own : option_map variable_of (matrix_literal f j i) ≡ Some v

pub record IsLeafAmong (f : Dqbf) (entries : List Entry) (ids : List ℕ) (v : ℕ)
    (out : Leaf) : Type 0 where
  pub id : ℕ
  pub among : Contains ids id
  pub at : IsLeafAt f entries id v out

-- each leaf is that of a fault among these ids
abbrev pub AreLeavesAmong : Dqbf → List Entry → List ℕ → LeafTable → Type 0
AreLeavesAmong f entries ids t =
    (v : ℕ) (out : Leaf) → leaf_of t v ≡ Some out → IsLeafAmong f entries ids v out

-- each variable that has a leaf there has one in the table
abbrev pub HasLeavesAmong : Dqbf → List Entry → List ℕ → LeafTable → Type 0
HasLeavesAmong f entries ids t =
    (v : ℕ) (out : Leaf) → IsLeafAmong f entries ids v out → IsSome (leaf_of t v)

-- a fault of a clause is that of a literal of the matrix
abbrev pub HasLiteral : Dqbf → List Entry → ℕ → Type 0
HasLiteral f entries id =
    (j i : ℕ) (out : Leaf) → 1 ≤ j → origin_at entries id ≡ Some (Fault j i out)
    → IsSome (matrix_literal f j i)

abbrev pub HaveLiterals : Dqbf → List Entry → List ℕ → Type 0
HaveLiterals f entries ids = (id : ℕ) → Contains ids id → HasLiteral f entries id

-- the clause begins with the negated selector of the group
abbrev pub BeginsGroup : List Entry → ℕ → ℕ → Type 0
BeginsGroup entries id group =
    (rest : List Literal) × (clause_at entries id ≡ Some (negative group ∷ rest))

-- a fault of the group
pub record IsFaultOfGroup (entries : List Entry) (id group : ℕ) : Type 0 where
  pub j : ℕ
  pub i : ℕ
  pub out : Leaf
  pub is_fault : origin_at entries id ≡ Some (Fault j i out)
  pub begins : BeginsGroup entries id group

-- the faults among these ids are the group's
abbrev pub AreOfGroup : List Entry → List ℕ → ℕ → Type 0
AreOfGroup entries ids group =
    (id j i : ℕ) (out : Leaf) → Contains ids id → origin_at entries id ≡ Some (Fault j i out)
    → BeginsGroup entries id group
