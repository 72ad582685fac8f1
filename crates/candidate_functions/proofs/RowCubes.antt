-- Cubes of rows.
use Rattle.std.proofs.Common.{◌≡◌, ℕ, ◌<◌, Bool, true, false, not, List, [], ◌∷◌, map, refl, sym, ◌∙◌, subst, arith}
use Rattle.std.specs.List.{All, Contains, list_all}
use Rattle.std.proofs.lemmas.List.Elements.{All-map}
use Rattle.list_laws.proofs.Members.{mapped_from, only_one}
use Rattle.dq_lits.specs.Henkin.{same_bit}
use Rattle.aig_graph.specs.Graph.{AigGraph, with_sign, node_value, node_support, IsNode}
use Rattle.aig_graph.specs.Made.{IsCube}
use Rattle.aig_graph.specs.declared.nodes.Node.{Node}
use Rattle.candidate_functions.specs.Pairs.{row_literal, IsRowCube}
use Rattle.row_pairs.specs.Pairs.{agrees}

signed : (b x : Bool) → with_sign (not b) x ≡ same_bit b x
signed true x = refl
signed false x = refl

literals_value : (old : AigGraph) (inputs : ℕ → Bool) (row : List Bool) (places : List ℕ) →
    list_all (node_value old inputs) (map (row_literal row) places) ≡ agrees places row inputs
literals_value old inputs row [] = refl
literals_value old inputs row (p ∷ places) = search (arith, (literals_value old inputs row places))

pub row_cube_made : (old new : AigGraph) (places : List ℕ) (row : List Bool) (n : Node) →
    IsCube old new (map (row_literal row) places) n → IsRowCube new places row n
row_cube_made old new places row n cube = record {
  is_node = cube.is_node;
  value = λ inputs. cube.value inputs ∙ literals_value old inputs row places;
  reads = λ i has.
      let by = cube.reads i has in
      let from = mapped_from (row_literal row) places by.node by.among in
      let read = subst (λ m. Contains (node_support old m) i) (sym from.2) by.reads in
      subst (Contains places) (only_one from.0 i read) from.1;
}

pub literals_are_nodes : (g : AigGraph) (row : List Bool) (places : List ℕ) → All (λ p. p < g.inputs) places →
    All (IsNode g) (map (row_literal row) places)
literals_are_nodes g row places below = All-map (IsNode g) (row_literal row) places below
