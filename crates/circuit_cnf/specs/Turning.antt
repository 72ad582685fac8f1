-- How a turn's search ends, for private contracts.
use Rattle.std.specs.Prelude.{◌≡◌, ◌⊎◌, ◌≤◌, ◌<◌, ◌&&◌, ℕ, Bool, true, false, List, [], ◌∷◌, length, map, Option, None, Some, Result, Ok, slice_get, slice_index_or}
use Rattle.std.specs.List.{Contains}
use Rattle.dq_lits.specs.Literal.{Assignment, Literal, variable_of, literal_true, clause_true}
use Rattle.dq_lits.specs.Formula.{Dqbf, Existential}
use Rattle.aig_graph.specs.declared.nodes.Node.{Node}
use Rattle.aig_graph.specs.Graph.{AigGraph}
use Rattle.hint_log.specs.Conditions.{AreLogged}
use Rattle.hint_log.specs.Entries.{Entry, Named, Answer, ProofLog, name_of, last_id, with_entry}
use Rattle.hint_log.specs.Growth.{Each, Grew}
use Rattle.hint_log.specs.ProductiveLog.{fault_groups, fault_room}
use Rattle.hint_log.specs.declared.names.Name.{Name}
use Rattle.hint_log.specs.declared.names.Name.TheVariants.{And, Selector}
use Rattle.hint_log.specs.declared.origins.Leaf.{Leaf}
use Rattle.hint_log.specs.declared.stops.Stop.{Stop}
use Rattle.hint_log.specs.Deciding.{RestsOnCircuit, IsFaultLeaf}
use Rattle.log_laws.specs.Circuits.{leaf_value}
use Rattle.log_laws.specs.Engines.{circuits, IsAddedBy, IsOwnGiven}
use Rattle.log_laws.specs.Meaning.{IsSoundAnswer}
use Rattle.oracle.specs.Calls.{IsMade}
use Rattle.oracle.specs.Limits.{IsAtLimit}
use Rattle.oracle.specs.Searched.{IsGivenToGroup}
use Rattle.oracle.specs.declared.groups.Group.{Group}
use Rattle.circuit_cnf.specs.Checking.{group_of, gate_groups, IsChecker}
use Rattle.circuit_cnf.specs.Failing.{is_silent}
use Rattle.circuit_cnf.specs.declared.turns.Turn.{Turn}
use Rattle.circuit_cnf.specs.Faults.{AreBads, AreNamedAndSaid, HaveChosenFaults, HaveOneLeaf}
use Rattle.circuit_cnf.specs.Saying.{MaySay, leaf_in, selector_in}
use Rattle.circuit_cnf.specs.Gates.{IsGateGiven}
use Rattle.circuit_cnf.specs.Leaves.{HasLeaf}
use Rattle.circuit_cnf.specs.declared.checkers.Checker.{Checker}
use Rattle.circuit_cnf.specs.declared.fault_clauses.Faults.{Faults}

-- each node has its leaf
pub record AreLeavesOf (f : Dqbf) (graph : AigGraph) (entries : List Entry) (nodes : List Node)
    (leaves : List Leaf) : Type 0 where
  pub count : length leaves ≡ length nodes
  pub each : (k : ℕ) (node : Node) (leaf : Leaf) → slice_get nodes k ≡ Some node
      → slice_get leaves k ≡ Some leaf → HasLeaf f graph entries node leaf

-- names stay
abbrev pub NamesAreKept : List Entry → List Entry → Type 0
NamesAreKept old new = (v : ℕ) (name : Name) → name_of old v ≡ Some name → name_of new v ≡ Some name

-- the last entry is an answer that rests on the gates and on faults with these leaves, in a group
-- that was made since
pub record IsHeldBy (f : Dqbf) (leaf : ℕ → Leaf) (old entries : List Entry) (id : ℕ) : Type 0 where
  pub clause : List Literal
  pub hints : List ℕ
  pub earlier : List Entry
  pub answered : entries ≡ Answer clause hints ∷ earlier
  pub last : id ≡ last_id entries
  pub names : NamesAreKept old earlier
  pub rests : RestsOnCircuit earlier clause hints
  pub fresh : name_of old rests.group ≡ None
  pub outs : (y : Existential) (out : Leaf) → IsFaultLeaf f earlier hints y out
      → out ≡ leaf y.variable
  pub sound : IsSoundAnswer f earlier clause hints

-- these values are those of a circuit under which a clause is false
pub record AreFailing (f : Dqbf) (leaf : ℕ → Leaf) (old : List Entry)
    (values : Assignment) : Type 0 where
  pub gates : (v : ℕ) (a b : Literal) → name_of old v ≡ Some (And a b)
      → values v ≡ (literal_true values a && literal_true values b)
  pub j : ℕ
  pub among : j < length f.matrix
  pub is_false : clause_true (λ v. leaf_value values (leaf v)) (slice_index_or f.matrix j [])
      ≡ false

-- after a turn's step: the checker is one as before, its groups are those of before and such as
-- were made since, the log grew by its entries, and few groups have faults
pub record HasTurned (f : Dqbf) (before after : Checker) (silent : Bool)
    (old new : ProofLog) : Type 0 where
  pub checker : IsChecker f after new.entries
  pub kept : (g : Group) → Contains (gate_groups before) g → Contains (gate_groups after) g
  pub fresh : (g : Group) → Contains (gate_groups after) g
      → Contains (gate_groups before) g ⊎ (name_of old.entries (variable_of g.selector) ≡ None)
  pub group : (group_of after ≡ group_of before) ⊎ (name_of old.entries (group_of after) ≡ None)
  pub grew : Grew (IsAddedBy f circuits (group_of before) silent old.entries) old new
  pub few : length (fault_groups new.entries) ≤ fault_room new.entries

-- groups of gates, and one of faults that was made since
pub record AreTurnGroups (f : Dqbf) (leaf : ℕ → Leaf) (gates : List Group) (faults : ℕ)
    (old entries : List Entry) : Type 0 where
  pub gates_made : (g : Group) → Contains gates g → IsMade entries g
  pub faults_named : name_of entries faults ≡ Some (Selector faults)
  pub faults_new : name_of old faults ≡ None
  pub names : NamesAreKept old entries
  pub gates_own : (g : Group) → Contains gates g
      → Each (IsGateGiven (variable_of g.selector)) entries
  pub faults_own : Each (IsOwnGiven f circuits faults) entries
  pub one_leaf : HaveOneLeaf f faults leaf entries

-- groups of a checker's gates, or such as were made since
abbrev pub AreOfTurn : Checker → List Entry → List Group → Type 0
AreOfTurn checker old groups =
    (g : Group) → Contains groups g
    → Contains (gate_groups checker) g ⊎ (name_of old (variable_of g.selector) ≡ None)

-- no step is left, and one could be taken where such groups are active
abbrev pub IsAtTurnLimit : Checker → List Entry → ProofLog → Type 0
IsAtTurnLimit checker old log =
    (active : List Group) × AreOfTurn checker old active
    × IsAtLimit log (map (λ g. g.selector) active)

-- the groups that a search has: some of the checker's gates', all of them where so many are asked
-- for, and that of the faults
pub record AreActive (checker : Checker) (faults : Group) (are_all : Bool)
    (active : List Group) : Type 0 where
  pub each : (g : Group) → Contains active g → Contains (gate_groups checker) g ⊎ (g ≡ faults)
  pub all : are_all ≡ true → (g : Group) → Contains (gate_groups checker) g → Contains active g
  pub with_faults : Contains active faults

-- a group was made for the turn of a checker whose gates are all given
pub record IsGroupMade (f : Dqbf) (checker : Checker) (old log : ProofLog) (group : Group) : Type 0 where
  pub before : IsChecker f checker old.entries
  pub ready : checker.gates.unfinished ≡ None
  pub unnamed : name_of old.entries (variable_of group.selector) ≡ None
  pub made : IsMade log.entries group
  pub is : log
      ≡ with_entry old (Named (variable_of group.selector) (Selector (variable_of group.selector)))
  pub logged : AreLogged old.entries
  pub grouped : Each IsGivenToGroup old.entries
  pub few : length (fault_groups old.entries) < fault_room old.entries

-- since then the group said of the chosen clauses which are false, searches learned, and it may say
-- more
pub record IsSaying (checker : Checker) (faults : Faults) (bads : List Literal) (chosen : ℕ → Bool)
    (old log : ProofLog) : Type 0 where
  pub first : ProofLog
  pub group_made : IsGroupMade faults.f.now checker old first faults.group.now
  pub said : AreNamedAndSaid faults.f.now (selector_in faults) (leaf_in faults) first log
  pub may : MaySay faults log.entries
  pub named : AreBads faults.f.now (selector_in faults) bads log.entries
  pub given : HaveChosenFaults faults.f.now (selector_in faults) bads (leaf_in faults) chosen
      log.entries

-- a search that answers an id may decide
abbrev pub is_silent_search : Result (Option ℕ) Stop → Bool
is_silent_search (Ok (Some _)) = false
is_silent_search _ = true

-- an attempt that answers that the outputs hold may decide
abbrev pub is_silent_attempt : Result (Option Turn) Stop → Bool
is_silent_attempt (Ok (Some turn)) = is_silent (Ok turn)
is_silent_attempt _ = true

-- before a turn's gates are named: whatever the formula is, a turn's step that gives no fault, and
-- leaves the inputs as they are
pub record IsPrepared (before after : Checker) (old new : ProofLog) : Type 0 where
  pub turned : (f : Dqbf) → IsChecker f before old.entries → HasTurned f before after true old new
  pub faults : fault_groups new.entries ≡ fault_groups old.entries
