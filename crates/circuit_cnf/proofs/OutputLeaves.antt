-- The leaves of outputs.
use Rattle.std.proofs.Common.{◌≡◌, ℕ, zero, suc, ◌≤◌, ◌<◌, Bool, true, false, inl, inr, List, [], ◌∷◌, map, length, slice_get, Some, sym, ◌∙◌, ap, subst, arith}
use Rattle.std.specs.Prelude.{◌↔◌}
use Rattle.std.specs.List.{All, Contains}
use Rattle.std.proofs.lemmas.List.Elements.{All-contains}
use Rattle.list_laws.proofs.Sequences.{mapped_long}
use Rattle.dq_lits.specs.Literal.{Literal}
use Rattle.dq_lits.specs.Formula.{Dqbf}
use Rattle.dq_lits.specs.Row.{bit_of}
use Rattle.aig_graph.specs.declared.nodes.Node.{Node}
use Rattle.aig_graph.specs.Graph.{AigGraph, IsEarlierNode}
use Rattle.aig_graph.specs.Marking.{IsInCone, root, left, right}
use Rattle.hint_log.specs.Entries.{Entry, ProofLog}
use Rattle.hint_log.specs.declared.names.Name.TheVariants.{Input as InputName}
use Rattle.hint_log.specs.declared.origins.Leaf.{Leaf}
use Rattle.hint_log.specs.Naming.{named_literal}
use Rattle.hint_log.specs.ProductiveLog.{fault_groups, fault_room}
use Rattle.log_laws.specs.Engines.{circuits, LeavesRest}
use Rattle.log_laws.proofs.Found.{numbered_among}
use Rattle.log_laws.proofs.LargerLogs.{leaves_rest}
use Rattle.log_laws.proofs.Kept.{named_stay, some_stays}
use Rattle.circuit_cnf.specs.declared.checkers.Checker.{Checker}
use Rattle.circuit_cnf.specs.Checking.{AreInputs, IsChecker}
use Rattle.circuit_cnf.specs.Gates.{AreKnown, AreBadsStill, GrewByGates}
use Rattle.circuit_cnf.specs.Leaves.{HasLeaf, AreClosed, AreMarkedUniversals, HaveLeaves, leaf_by}
use Rattle.circuit_cnf.specs.Turning.{AreLeavesOf}
use Rattle.circuit_cnf.proofs.SideLeaves.{side_has_leaf}

pub few_same : (group : ℕ) (old new : ProofLog) → GrewByGates group old new →
    fault_groups new.entries ≡ fault_groups old.entries → length (fault_groups old.entries) < fault_room old.entries →
    length (fault_groups new.entries) < fault_room new.entries
few_same group old new grew faults few =
    let rest = leaves_rest (record { variables = 0; universals = []; existentials = []; matrix = [] }) circuits group
    true old new (grew (record { variables = 0; universals = []; existentials = []; matrix = [] }) old.entries) in
    let room = rest.room in
    subst (λ gs. length gs < fault_room new.entries) (sym faults) (omega (arith, few, room))

pub few_by_gates : (group : ℕ) (old new : ProofLog) → GrewByGates group old new →
    fault_groups new.entries ≡ fault_groups old.entries → length (fault_groups old.entries) < fault_room old.entries →
    length (fault_groups new.entries) ≤ fault_room new.entries
few_by_gates group old new grew faults few = let same = few_same group old new grew faults few in omega (arith, same)

pub cone_checker : (f : Dqbf) (checker after : Checker) (group : ℕ) (old new : ProofLog) →
    IsChecker f checker old.entries → after.inputs ≡ checker.inputs → GrewByGates group old new →
    AreBadsStill old.entries new.entries → AreKnown after.gates new.entries → IsChecker f after new.entries
cone_checker f checker after group old new before same grew bads known = record {
  gates = known;
  inputs = named_stay old.entries new.entries rest.names after.inputs.items
      (map (λ x. named_literal (InputName x) false) f.universals)
      (subst (λ xs. AreInputs f.universals xs.items old.entries) (sym same) before.inputs);
  bads = λ v g j is. some_stays old.entries new.entries rest.names g (before.bads v g j (bads v g j is));
} where
  rest : LeavesRest f circuits group true old.entries new.entries
  rest = leaves_rest f circuits group true old new (grew f old.entries)

pub cones_are_closed : (graph : AigGraph) (nodes : List Node) (marks : List Bool) →
    ((p : ℕ) → ((bit_of marks p ≡ true) ↔ IsInCone graph nodes p)) → AreClosed graph marks
cones_are_closed graph nodes marks exact g p sides marked at (inl is) = search (arith, left)
cones_are_closed graph nodes marks exact g p sides marked at (inr is) = search (arith, right)

mapped : {X Y : Type 0} (h : X → Y) (xs : List X) (k : ℕ) (x : X) (y : Y) → slice_get xs k ≡ Some x →
    slice_get (map h xs) k ≡ Some y → y ≡ h x
mapped h [] k x y at is = cc
mapped h (z ∷ zs) zero x y at is = let same : z ≡ x = cc in let here : h z ≡ y = cc in sym here ∙ ap h same
mapped h (z ∷ zs) (suc k) x y at is = mapped h zs k x y at is

pub are_leaves : (f : Dqbf) (graph : AigGraph) (es : List Entry) (inputs literals : List Literal) (marks : List Bool)
    (nodes : List Node) (leaves : List Leaf) → AreMarkedUniversals f graph marks → AreInputs f.universals inputs es →
    HaveLeaves f graph marks literals es → ((p : ℕ) → ((bit_of marks p ≡ true) ↔ IsInCone graph nodes p)) →
    All (IsEarlierNode graph.inputs (length literals)) nodes → leaves ≡ map (leaf_by inputs literals) nodes →
    AreLeavesOf f graph es nodes leaves
are_leaves f graph es inputs literals marks nodes leaves low are have exact earlier is = record {
  count = ap length is ∙ mapped_long (leaf_by inputs literals) nodes;
  each = λ k node leaf at leaf_at.
      let inside : Contains nodes node = numbered_among nodes (suc k) node at in
      let same = mapped (leaf_by inputs literals) nodes k node leaf at (ap (λ ls. slice_get ls k) (sym is) ∙ leaf_at) in
      subst (HasLeaf f graph es node) (sym same)
      (side_has_leaf f graph es inputs literals marks low are have node
      (All-contains (IsEarlierNode graph.inputs (length literals)) nodes node earlier inside)
      (λ p place. (exact p).1 (root node p inside place)));
}
