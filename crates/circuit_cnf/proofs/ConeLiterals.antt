-- Literals of gates, one after the other.
use Rattle.std.proofs.Common.{◌≡◌, ℕ, ◌+◌, ◌≤◌, ◌<◌, Bool, true, false, inl, inr, ◌⊎◌, List, [], ◌∷◌, ◌++◌, map, length, get_or, None, sym, ◌∙◌, ap, subst, arith}
use Rattle.std.proofs.lemmas.List.{length-append, get_or_append_left}
use Rattle.std.proofs.Math.Seq.{get_or-append_seam}
use Rattle.list_laws.proofs.Numbers.{below_or_here}
use Rattle.dq_lits.specs.Literal.{Literal, positive, variable_of}
use Rattle.dq_lits.specs.Formula.{Dqbf}
use Rattle.dq_lits.specs.Row.{bit_of}
use Rattle.aig_graph.specs.declared.nodes.Node.TheVariants.{Gate}
use Rattle.aig_graph.specs.Graph.{AigGraph}
use Rattle.hint_log.specs.declared.names.Name.TheVariants.{Input as InputName}
use Rattle.hint_log.specs.declared.origins.Leaf.TheVariants.{Literal as LeafLiteral}
use Rattle.hint_log.specs.Entries.{ProofLog}
use Rattle.hint_log.specs.Growth.{Grew}
use Rattle.hint_log.specs.Naming.{named_literal}
use Rattle.hint_log.specs.ProductiveLog.{fault_groups, fault_room}
use Rattle.log_laws.specs.Engines.{circuits, IsAddedBy, LeavesRest}
use Rattle.log_laws.proofs.LargerLogs.{leaves_rest, grown_then}
use Rattle.log_laws.proofs.Kept.{named_stay}
use Rattle.circuit_cnf.specs.declared.gates.Gates.{Gates}
use Rattle.oracle.specs.declared.groups.Group.{Group}
use Rattle.circuit_cnf.specs.Checking.{AreInputs}
use Rattle.circuit_cnf.specs.Gates.{AreKnown, AreBadsStill, GrewByGates}
use Rattle.circuit_cnf.specs.Leaves.{HasLeaf, HaveLeaves}
use Rattle.circuit_cnf.proofs.SideLeaves.{leaf_stays}

-- the first gates have their literals
pub record LiteralsSoFar (f : Dqbf) (graph : AigGraph) (inputs : List Literal) (marks : List Bool) (first : Gates)
    (old : ProofLog) (gates : Gates) (log : ProofLog) (literals : List Literal) (i : ℕ) : Type 0 where
  pub grew : GrewByGates (variable_of first.group.selector) old log
  pub group : gates.group ≡ first.group
  pub earlier : gates.earlier ≡ first.earlier
  pub faults : fault_groups log.entries ≡ fault_groups old.entries
  pub few : length (fault_groups log.entries) ≤ fault_room log.entries
  pub bads : AreBadsStill old.entries log.entries
  pub known : AreKnown gates log.entries
  pub ready : gates.unfinished ≡ None
  pub inputs_are : AreInputs f.universals inputs log.entries
  pub have : HaveLeaves f graph marks literals log.entries
  pub count : length literals ≡ i

-- what follows one more
pub record IsNextLiteral (f : Dqbf) (graph : AigGraph) (marks : List Bool) (gates : Gates) (log : ProofLog)
    (more : Gates) (new : ProofLog) (l : Literal) (i : ℕ) : Type 0 where
  pub grew : GrewByGates (variable_of gates.group.selector) log new
  pub group : more.group ≡ gates.group
  pub earlier : more.earlier ≡ gates.earlier
  pub faults : fault_groups new.entries ≡ fault_groups log.entries
  pub bads : AreBadsStill log.entries new.entries
  pub known : AreKnown more new.entries
  pub ready : more.unfinished ≡ None
  pub leaf : bit_of marks (graph.inputs + i) ≡ true → HasLeaf f graph new.entries (Gate i false) (LeafLiteral l)

pub grew_in_all : (first gates : Gates) (old log new : ProofLog) →
    GrewByGates (variable_of first.group.selector) old log → gates.group ≡ first.group →
    GrewByGates (variable_of gates.group.selector) log new → GrewByGates (variable_of first.group.selector) old new
grew_in_all first gates old log new before same more h start =
    grown_then (IsAddedBy h circuits (variable_of first.group.selector) true start) old log new (before h start)
    (subst (λ (g : Group). Grew (IsAddedBy h circuits (variable_of g.selector) true start) log new) same (more h start))

pub stopped : (f : Dqbf) (graph : AigGraph) (inputs : List Literal) (marks : List Bool) (first : Gates) (old : ProofLog)
    (gates : Gates) (log new : ProofLog) (literals : List Literal) (i : ℕ) →
    LiteralsSoFar f graph inputs marks first old gates log literals i →
    GrewByGates (variable_of gates.group.selector) log new → GrewByGates (variable_of first.group.selector) old new
stopped f graph inputs marks first old gates log new literals i before more =
    grew_in_all first gates old log new before.grew before.group more

pub literal_more : (f : Dqbf) (graph : AigGraph) (inputs : List Literal) (marks : List Bool) (first : Gates)
    (old : ProofLog) (gates : Gates) (log : ProofLog) (more : Gates) (new : ProofLog) (literals : List Literal)
    (l : Literal) (i : ℕ) →
    LiteralsSoFar f graph inputs marks first old gates log literals i →
    IsNextLiteral f graph marks gates log more new l (length literals) →
    LiteralsSoFar f graph inputs marks first old more new (literals ++ l ∷ []) (i + 1)
literal_more f graph inputs marks first old gates log more new literals l i before next = record {
  grew = grew_in_all first gates old log new before.grew before.group next.grew;
  group = next.group ∙ before.group;
  earlier = next.earlier ∙ before.earlier;
  faults = next.faults ∙ before.faults;
  few = subst (λ xs. length xs ≤ fault_room new.entries) (sym next.faults)
      (subst (λ n. length (fault_groups log.entries) ≤ n) (sym rest.room) before.few);
  bads = λ v group j is. before.bads v group j (next.bads v group j is);
  known = next.known;
  ready = next.ready;
  inputs_are = named_stay log.entries new.entries rest.names inputs
      (map (λ x. named_literal (InputName x) false) f.universals) before.inputs_are;
  have = λ g below marked. at g marked (below_or_here g (length literals)
      (let long = length-append literals (l ∷ []) in omega (arith, below, long)));
  count = let long = length-append literals (l ∷ []) in let c = before.count in omega (arith, long, c);
} where
  rest : LeavesRest f circuits (variable_of gates.group.selector) true log.entries new.entries
  rest = leaves_rest f circuits (variable_of gates.group.selector) true log new (next.grew f log.entries)

  at : (g : ℕ) → bit_of marks (graph.inputs + g) ≡ true → (g < length literals) ⊎ (g ≡ length literals) →
      HasLeaf f graph new.entries (Gate g false) (LeafLiteral (get_or (literals ++ l ∷ []) g (positive 0)))
  at g marked (inl below) =
      subst (λ k. HasLeaf f graph new.entries (Gate g false) (LeafLiteral k))
      (sym (get_or_append_left literals (l ∷ []) (positive 0) g below))
      (leaf_stays f graph log.entries new.entries rest.names (Gate g false)
      (LeafLiteral (get_or literals g (positive 0))) (before.have g below marked))
  at g marked (inr is) =
      let here = next.leaf (subst (λ k. bit_of marks (graph.inputs + k) ≡ true) is marked) in
      let element : l ≡ get_or (literals ++ l ∷ []) g (positive 0) =
      sym (ap (λ k. get_or (literals ++ l ∷ []) k (positive 0)) is ∙ get_or-append_seam literals l []
      (positive 0)) in
      subst (λ k. HasLeaf f graph new.entries (Gate k false) (LeafLiteral (get_or (literals ++ l ∷ []) g (positive 0))))
      (sym is)
      (subst (λ k. HasLeaf f graph new.entries (Gate (length literals) false) (LeafLiteral k)) element here)
