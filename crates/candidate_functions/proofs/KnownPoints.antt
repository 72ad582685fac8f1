-- The values of nodes under the rows of a table, and where they are known to be an existential's points.
use Rattle.std.proofs.Common.{◌≡◌, ℕ, ◌+◌, Bool, List, [], ◌∷◌, ◌++◌, map, length, take, slice_get, Some, refl, sym, ◌∙◌, ap, arith}
use Rattle.std.specs.List.{All}
use Rattle.std.proofs.lemmas.List.{take_more, map-append}
use Rattle.std.proofs.lemmas.List.Elements.{All-head, All-tail}
use Rattle.std.proofs.lemmas.Option.{slice_get_within, get_or_from_slice_get}
use Rattle.dq_lits.specs.Row.{bit_of}
use Rattle.aig_graph.specs.Graph.{AigGraph, IsNode, node_value}
use Rattle.aig_graph.specs.Made.{Extends}
use Rattle.aig_graph.specs.declared.nodes.Node.{Node}
use Rattle.expansion.specs.Table.{PointBits}
use Rattle.candidate_functions.specs.Differing.{values_under, AreValues, IsKnownRightly}

-- how far a walk over the rows has come
pub record ValuesSoFar (rows : List (List Bool)) (g : AigGraph) (nodes : List Node) (size k : ℕ) (buf : List Bool)
    (values : List (List Bool)) : Type 0 where
  pub long : length buf ≡ size
  pub are : values ≡ map (values_under g nodes) (take k rows)

pub row_valued : (rows : List (List Bool)) (g : AigGraph) (nodes : List Node) (k : ℕ) (row now : List Bool)
    (values : List (List Bool)) → slice_get rows k ≡ Some row
    → now ≡ map (node_value g (bit_of row)) nodes → values ≡ map (values_under g nodes) (take k rows) →
    (values ++ now ∷ []) ≡ map (values_under g nodes) (take (k + 1) rows)
row_valued rows g nodes k row now values at is are =
    search (
      arith,
      (slice_get_within rows k row at),
      (get_or_from_slice_get rows k row row at),
      map-append,
      (take_more rows k row),
    )

module _ (old new : AigGraph) (h : Extends old new) where
  same_values : (nodes : List Node) (row : List Bool) → All (IsNode old) nodes →
      values_under old nodes row ≡ values_under new nodes row
  same_values [] row are = refl
  same_values (n ∷ ns) row are =
      ap (λ v. v ∷ values_under old ns row) (sym (h.values n (All-head (IsNode old) n ns are) (bit_of row)))
      ∙ ap (λ vs. node_value new (bit_of row) n ∷ vs) (same_values ns row (All-tail (IsNode old) n ns are))

  all_same : (nodes : List Node) → All (IsNode old) nodes → (rows : List (List Bool)) →
      map (values_under old nodes) rows ≡ map (values_under new nodes) rows
  all_same nodes are [] = refl
  all_same nodes are (row ∷ rows) = search (arith, same_values, (all_same nodes are rows))

  pub values_stay : (rows : List (List Bool)) (nodes : List Node) (values : List (List Bool)) → All (IsNode old) nodes →
      AreValues rows old nodes values → AreValues rows new nodes values
  values_stay rows nodes values nodes_are are = are ∙ all_same nodes nodes_are (take (length values) rows)

  pub known_stays : (rows : List (List Bool)) (points : PointBits) (y place : ℕ) (node : Node)
      (values : List (List Bool)) → IsNode old node → IsKnownRightly rows points old y place node values
      → IsKnownRightly rows points new y place node values
  known_stays rows points y place node values is right round known row at =
      h.values node is (bit_of row) ∙ right round known row at
