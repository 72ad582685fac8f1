-- What stays as a graph grows.
use Rattle.std.proofs.Common.{ℕ, Bool, List, Option, map, sym, ◌∙◌, subst, slice_index, get_or, arith}
use Rattle.std.specs.List.{All, Contains}
use Rattle.std.proofs.lemmas.List.Elements.{All-weaker}
use Rattle.dq_lits.specs.Formula.{Existential, Dqbf}
use Rattle.dq_formula.specs.declared.rules.Rule.{Rule}
use Rattle.aig_graph.specs.Graph.{AigGraph, IsNode}
use Rattle.aig_graph.specs.Made.{Extends}
use Rattle.defining_nodes.specs.Definitions.{input_variable, IsDefinition}
use Rattle.definition_order.specs.Order.{MayRead}
use Rattle.aig_graph.specs.Outputs.{node_output}
use Rattle.aig_graph.specs.declared.nodes.Node.{Node}
use Rattle.expansion.specs.Table.{PointBits}
use Rattle.candidate_functions.specs.Candidates.{AreDefinitions, IsGuess, AreGuesses}
use Rattle.candidate_functions.specs.Pairs.{IsRowCube, IsPair, universal_places, IsPlacedClass, IsClass, IsByRules, IsCandidate, IsFirstOutput}
use Rattle.candidate_functions.specs.declared.classes.Class.{Class}
use Rattle.candidate_functions.specs.declared.cubes.Pair.{Pair}

module _ (old new : AigGraph) (h : Extends old new) where
  pub cube_stays : (places : List ℕ) (row : List Bool) (n : Node) → IsRowCube old places row n →
      IsRowCube new places row n
  cube_stays places row n cube = record {
    is_node = h.nodes n cube.is_node;
    value = λ inputs. h.values n cube.is_node inputs ∙ cube.value inputs;
    reads = λ i has. cube.reads i (subst (λ s. Contains s i) (h.supports n cube.is_node) has);
  }

  pair_stays : (rows : List (List Bool)) (places : List ℕ) (p : Pair) → IsPair rows old places p →
      IsPair rows new places p
  pair_stays rows places p pair = search (arith, cube_stays)

  pub pairs_stay : (rows : List (List Bool)) (places : List ℕ) (pairs : List Pair) →
      All (IsPair rows old places) pairs → All (IsPair rows new places) pairs
  pairs_stay rows places pairs each = search (arith, All-weaker, pair_stays)

  pub placed_stays : (rows : List (List Bool)) (places : List ℕ) (c : Class) → IsPlacedClass rows old places c →
      IsPlacedClass rows new places c
  placed_stays rows places c is = record {
    rounds = is.rounds;
    one_each = is.one_each;
    cubes = λ i n row at there. cube_stays places row n (is.cubes i n row at there);
  }

  pub class_stays : (f : Dqbf) (rows : List (List Bool)) (c : Class) → IsClass f rows old c → IsClass f rows new c
  class_stays f rows c is y known = placed_stays rows (universal_places f y.sees) c (is y known)

  pub support_stays : (f : Dqbf) (n : Node) → IsNode old n → (P : ℕ → Type 0) → All P (node_output f old n).support →
      All P (node_output f new n).support
  support_stays f n is P all = subst (λ s. All P (map (slice_index f.universals) s)) (sym (h.supports n is)) all

  pub rule_node_stays : (f : Dqbf) (rules : List Rule) (y : Existential) (n : Node) → IsByRules f old rules y n →
      IsByRules f new rules y n
  rule_node_stays f rules y n by = record {
    is_node = h.nodes n by.is_node;
    value = λ m bit is. h.values n by.is_node (λ i. m (slice_index f.universals i)) ∙ by.value m bit is;
    reads = support_stays f n by.is_node (Contains y.sees) by.reads;
  }

  pub definition_stays : (f : Dqbf) (ranks : List ℕ) (y : Existential) (n : Node) → IsDefinition f ranks old y n →
      IsDefinition f ranks new y n
  definition_stays f ranks y n is = record {
    is_node = h.nodes n is.is_node;
    reads = subst (λ s. All (MayRead f ranks y) (map (input_variable f) s)) (sym (h.supports n is.is_node)) is.reads;
    defines = λ m holds. is.defines m holds ∙ sym (h.values n is.is_node (λ i. m (input_variable f i)));
  }

  pub candidate_stays : (f : Dqbf) (rows : List (List Bool)) (points : PointBits) (rules : List Rule) (y : Existential)
      (n : Node)
      → IsCandidate f rows points rules old y n → IsCandidate f rows points rules new y n
  candidate_stays f rows points rules y n is = record {
    is_node = h.nodes n is.is_node;
    reads = support_stays f n is.is_node (Contains y.sees) is.reads;
    at_pairs = λ k row m at sees. h.values n is.is_node (λ i. m (slice_index f.universals i))
        ∙ is.at_pairs k row m at sees;
    by_rules = λ m bit away first. h.values n is.is_node (λ i. m (slice_index f.universals i))
        ∙ is.by_rules m bit away first;
  }

  pub first_output_stays : (f : Dqbf) (rows : List (List Bool)) (points : PointBits) (rules : List Rule)
      (y : Existential) (definition : Option Node) (n : Node)
      → IsFirstOutput f rows points rules old y definition n → IsFirstOutput f rows points rules new y definition n
  first_output_stays f rows points rules y definition n is = record {
    is_node = h.nodes n is.is_node;
    undefined = λ none. candidate_stays f rows points rules y n (is.undefined none);
  }

  pub classes_stay : (f : Dqbf) (rows : List (List Bool)) (cs : List Class) → All (IsClass f rows old) cs →
      All (IsClass f rows new) cs
  classes_stay f rows cs all = All-weaker (IsClass f rows old) (IsClass f rows new) (class_stays f rows) cs all

  pub guess_stays : (f : Dqbf) (y : Existential) (n : Node) → IsGuess f old y n → IsGuess f new y n
  guess_stays f y n is = record {
    is_node = h.nodes n is.is_node;
    reads = support_stays f n is.is_node (Contains y.sees) is.reads;
  }

  pub guesses_stay : (f : Dqbf) (guesses : List (Option Node)) → AreGuesses f old guesses → AreGuesses f new guesses
  guesses_stay f guesses are k d lt node is = guess_stays f (get_or f.existentials k d) node (are k d lt node is)

  pub definitions_stay : (f : Dqbf) (ranks : List ℕ) (definitions : List (Option Node)) →
      AreDefinitions f ranks old definitions → AreDefinitions f ranks new definitions
  definitions_stay f ranks definitions are k d lt node is = search (arith, definition_stays)
