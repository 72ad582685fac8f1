-- The shared variables with their nodes: first copies and inputs.
use Rattle.std.proofs.Common.{◌≡◌, ℕ, zero, suc, ◌<◌, ◌==◌, Bool, true, false, cond, List, [], ◌∷◌, map, length, get_or, slice_get, Some, IsSome, refl, sym, ◌∙◌, ap, subst, arith}
use Rattle.std.specs.List.{All, Contains}
use Rattle.std.proofs.lemmas.Bool.{eqb-true, eq-eqb}
use Rattle.std.proofs.lemmas.Option.{slice_get-get_or, slice_get_within, get_or_from_slice_get}
use Rattle.dq_lits.specs.Literal.{positive, variable_of}
use Rattle.dq_lits.specs.Formula.{Dqbf, declared}
use Rattle.defining_nodes.specs.Definitions.{input_variable}
use Rattle.hint_log.specs.Entries.{Entry, name_of}
use Rattle.hint_log.specs.declared.names.Name.{Name}
use Rattle.hint_log.specs.declared.names.Name.TheVariants.{Copy as CopyOf}
use Rattle.aig_graph.specs.Graph.{AigGraph, node_value, node_support}
use Rattle.aig_graph.specs.declared.nodes.Node.{Node}
use Rattle.aig_graph.specs.declared.nodes.Node.TheVariants.{Input}
use Rattle.interpolants.specs.Interpolant.{node_of, AreNodes}
use Rattle.log_laws.proofs.Found.{named_variable}
use Rattle.definability.specs.Copies.{AreCopies, copies_of, is_copied_at}
use Rattle.definability.specs.Dividing.{AreSharedCopies, shared_pairs}
use Rattle.definability.specs.declared.definability.Definability.{Definability}
use Rattle.definability.proofs.DividedAnswers.{read_at}

-- the nodes of variables that are selected by places
module _ (g : ℕ → ℕ × Node) where
  selected_sound : (ps : List ℕ) (v : ℕ) (n : Node) → node_of (map g ps) v ≡ Some n →
      (k : ℕ) × Contains ps k × (v ≡ (g k).0) × ((g k).1 ≡ n)
  selected_sound [] v n h = cc
  selected_sound (p ∷ ps) v n h = by (v == (g p).0) refl (selected_sound ps v n) h
    where
      by : (b : Bool) → (v == (g p).0) ≡ b → (node_of (map g ps) v ≡ Some n →
          (k : ℕ) × Contains ps k × (v ≡ (g k).0) × ((g k).1 ≡ n)) →
          cond b (Some (g p).1) (node_of (map g ps) v) ≡ Some n →
          (k : ℕ) × Contains (p ∷ ps) k × (v ≡ (g k).0) × ((g k).1 ≡ n)
      by true e later h = let same : (g p).1 ≡ n = cc in (p, (0, omega arith, refl), eqb-true v (g p).0 e, same)
      by false e later h = let r = later h in (r.0, (suc r.1.0, (let b = r.1.1 in omega (arith, b)), r.1.2), r.2, r.3)

  selected_complete : (ps : List ℕ) (k : ℕ) → Contains ps k → IsSome (node_of (map g ps) (g k).0)
  selected_complete [] k (i, lt, at) = absurd (omega (arith, lt))
  selected_complete (p ∷ ps) k among = search (arith, (selected_complete ps), eq-eqb)

module _ (f : Dqbf) (p : Definability) (places : List ℕ) (es : List Entry) (within : All (λ k. k < length (declared f)) places)
    (flagged : All (λ k. is_copied_at p.copied.items k ≡ true) places)
    (copies : AreCopies es 1 p.copied.items (declared f) (copies_of p.first)) where
  abbrev pick : ℕ → ℕ × Node
  pick k = (variable_of (get_or (copies_of p.first) k (positive 0)), Input k false)

  flag_there : (k : ℕ) → Contains places k → is_copied_at p.copied.items k ≡ true
  flag_there k (i, lt, at) = ap (is_copied_at p.copied.items) (sym at) ∙ flagged i k lt

  copy_there : (k x : ℕ) → Contains places k → slice_get (declared f) k ≡ Some x →
      name_of es (pick k).0 ≡ Some (CopyOf 1 x)
  copy_there k x among at =
      let lits = copies_of p.first in
      let lt = slice_get_within (declared f) k x at in
      let long = copies.long in
      let is = copies.named k x (get_or lits k (positive 0)) (flag_there k among) at
      (slice_get-get_or lits k (positive 0) (omega (arith, lt, long))) in
      (named_variable es (get_or lits k (positive 0)) (CopyOf 1 x) false (name_of es (pick k).0) refl is).0

  pub shared_copies : (graph : AigGraph) → ((v w : ℕ) (name : Name) → name_of es v ≡ Some name →
      name_of es w ≡ Some name → v ≡ w) →
      AreSharedCopies f places es graph (shared_pairs p places)
  shared_copies graph unique = record {
    are = λ v n is.
        let r = selected_sound pick places v n is in
        let k = r.0 in
        let x = read_at f places within k r.1 in
        let x_is : input_variable f k ≡ x.0 = get_or_from_slice_get (declared f) k x.0 0 x.1 in
        record {
          place = k;
          named = ap (name_of es) r.2 ∙ copy_there k x.0 r.1 x.1 ∙ ap (λ z. Some (CopyOf 1 z)) (sym x_is);
          value = λ inputs. ap (node_value graph inputs) (sym r.3);
          support = λ i has. only k i (subst (λ m. Contains (node_support graph m) i) (sym r.3) has);
          read = r.1;
        };
    all = λ v x named seen.
        let same = unique (pick seen.0).0 v (CopyOf 1 x) (copy_there seen.0 x seen.2 seen.1) named in
        subst (λ w. IsSome (node_of (map pick places) w)) same (selected_complete pick places seen.0 seen.2);
  }
    where
      only : (k i : ℕ) → Contains (k ∷ []) i → i ≡ k
      only k i (zero, lt, at) = sym at
      only k i (suc j, lt, at) = absurd (omega (arith, lt))

  pub shared_nodes : (graph : AigGraph) → graph.inputs ≡ length (declared f) → AreNodes (shared_pairs p places) graph
  shared_nodes graph inputs v n is = search (arith, selected_sound, read_at, slice_get_within)
