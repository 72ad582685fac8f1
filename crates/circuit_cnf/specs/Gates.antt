-- How the gates of the checked circuits stand in the log.
use Rattle.std.specs.Prelude.{◌≡◌, ◌⊎◌, ◌≤◌, ◌<◌, ℕ, true, List, ◌∷◌, Option, None, Some, IsSome}
use Rattle.std.specs.List.{Contains}
use Rattle.std.specs.BTreeMap.{get}
use Rattle.std.specs.declared.cmp.Ordering.{Ordering}
use Rattle.std.specs.Ordering.{nat_cmp, ordering_then}
use Rattle.dq_lits.specs.Literal.{Literal, negative, variable_of, literal_code}
use Rattle.dq_lits.specs.Formula.{Dqbf}
use Rattle.hint_log.specs.Entries.{Entry, Named, Given, ProofLog, with_entry, name_of}
use Rattle.hint_log.specs.declared.names.Name.TheVariants.{And, Bad, Selector}
use Rattle.hint_log.specs.declared.origins.Origin.{Origin}
use Rattle.hint_log.specs.declared.origins.Origin.TheVariants.{Gate}
use Rattle.hint_log.specs.Growth.{Each, Grew}
use Rattle.hint_log.specs.Origins.{gate_rest, IsOriginsClause}
use Rattle.log_laws.specs.Engines.{circuits, IsInGroup, IsAddedBy}
use Rattle.oracle.specs.Calls.{IsMade}
use Rattle.oracle.specs.declared.groups.Group.{Group}
use Rattle.circuit_cnf.specs.declared.gates.Gates.{Gates}
use Rattle.circuit_cnf.specs.declared.gates.Unfinished.{Unfinished}

abbrev pub pair_cmp : ℕ × ℕ → ℕ × ℕ → Ordering
pair_cmp p q = ordering_then (nat_cmp p.0 q.0) (nat_cmp p.1 q.1)

-- the clauses of the gate up to this part stand in the log
abbrev pub HasGateClauses : List Entry → ℕ → ℕ → Literal → Literal → ℕ → Type 0
HasGateClauses entries group v a b parts =
    (i : ℕ) (rest : List Literal) → i ≤ parts → gate_rest v a b i ≡ Some rest
    → Contains entries (Given (Gate v i) (negative group ∷ rest))

-- a clause of a gate, as its origin says
abbrev pub IsGateClause : List Entry → Origin → List Literal → Type 0
IsGateClause earlier (Gate v i) clause = (f : Dqbf) → IsOriginsClause f earlier (Gate v i) clause
IsGateClause earlier _ clause = ⊥

-- the groups that were made for gates
abbrev pub groups_of : Gates → List Group
groups_of gates = gates.group ∷ gates.earlier.items

-- a gate has all its clauses in one of the groups
abbrev pub HasClauses : List Entry → List Group → ℕ → Literal → Literal → Type 0
HasClauses entries groups v a b =
    (group : Group) × Contains groups group
    × HasGateClauses entries (variable_of group.selector) v a b 3

-- each given clause of the group is a gate's
abbrev pub IsGateGiven : ℕ → List Entry → Entry → Type 0
IsGateGiven group earlier (Given origin clause) =
    IsInGroup group clause → IsGateClause earlier origin clause
IsGateGiven group earlier _ = Unit {0}

-- a gate has its name and its first clauses; the others wait for memory
pub record IsUnfinished (gates : Gates) (entries : List Entry) (gate : Unfinished) : Type 0 where
  pub named : name_of entries gate.variable ≡ Some (And gate.left gate.right)
  pub few : gate.parts ≤ 3
  pub given : HasGateClauses entries (variable_of gates.group.selector) gate.variable gate.left
      gate.right gate.parts
  pub missing : (i : ℕ) (c : List Literal) → gate.parts < i
      → Contains entries (Given (Gate gate.variable i) c) → ⊥
  pub unknown : get pair_cmp gates.variables (literal_code gate.left, literal_code gate.right)
      ≡ None

abbrev pub IsNamedLast : Option Unfinished → ℕ → Type 0
IsNamedLast unfinished v = (gate : Unfinished) × (unfinished ≡ Some gate) × (gate.variable ≡ v)

-- what was given is known: every gate's name by its sides, but for one that may be unfinished, and
-- each of these has its clauses in one of the groups, which have nothing else
pub record AreKnown (gates : Gates) (entries : List Entry) : Type 0 where
  pub made : (group : Group) → Contains (groups_of gates) group → IsMade entries group
  pub known : (a b : Literal) (v : ℕ) → name_of entries v ≡ Some (And a b)
      → (get pair_cmp gates.variables (literal_code a, literal_code b) ≡ Some v)
      ⊎ IsNamedLast gates.unfinished v
  pub sound : (a b : Literal) (v : ℕ)
      → get pair_cmp gates.variables (literal_code a, literal_code b) ≡ Some v
      → name_of entries v ≡ Some (And a b)
  pub clauses : (a b : Literal) (v : ℕ)
      → get pair_cmp gates.variables (literal_code a, literal_code b) ≡ Some v
      → HasClauses entries (groups_of gates) v a b
  pub origins : (v i : ℕ) (c : List Literal) → Contains entries (Given (Gate v i) c)
      → IsSome (name_of entries v)
  pub own : (group : Group) → Contains (groups_of gates) group
      → Each (IsGateGiven (variable_of group.selector)) entries
  pub last : (gate : Unfinished) → gates.unfinished ≡ Some gate → IsUnfinished gates entries gate

-- gates go to a new group: the log has its name more, or is as it was
pub record HasBegunGroup (before after : Gates) (old new : ProofLog) : Type 0 where
  pub known : AreKnown after new.entries
  pub ready : after.unfinished ≡ None
  pub kept : (g : Group) → Contains (groups_of before) g → Contains (groups_of after) g
  pub fresh : (g : Group) → Contains (groups_of after) g
      → Contains (groups_of before) g ⊎ (name_of old.entries (variable_of g.selector) ≡ None)
  pub group : (after.group ≡ before.group)
      ⊎ (name_of old.entries (variable_of after.group.selector) ≡ None)
  pub log : (new ≡ old)
      ⊎ ((v : ℕ) × (name_of old.entries v ≡ None) × (new ≡ with_entry old (Named v (Selector v))))

-- the clause of a gate with this number
pub record IsPartGiven (old new : ProofLog) (group part : ℕ) (gate : Unfinished) : Type 0 where
  pub rest : List Literal
  pub rest_is : gate_rest gate.variable gate.left gate.right part ≡ Some rest
  pub added : new ≡ with_entry old (Given (Gate gate.variable part) (negative group ∷ rest))

-- no variable more says that a clause is false
abbrev pub AreBadsStill : List Entry → List Entry → Type 0
AreBadsStill old new =
    (v group j : ℕ) → name_of new v ≡ Some (Bad group j) → name_of old v ≡ Some (Bad group j)

-- how a log grows by the gates' group, whatever the formula is and whatever stood before
abbrev pub GrewByGates : ℕ → ProofLog → ProofLog → Type 0
GrewByGates group old new =
    (f : Dqbf) (start : List Entry) → Grew (IsAddedBy f circuits group true start) old new
