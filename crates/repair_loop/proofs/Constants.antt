-- Constants read nothing, and so are guesses of any existential.
use Rattle.std.proofs.Common.{◌≡◌, ℕ, zero, suc, Bool, List, [], ◌∷◌, Option, None, Some, slice_index_or, arith}
use Rattle.std.specs.List.{All}
use Rattle.std.proofs.lemmas.List.Elements.{All-head, All-tail, All-nil}
use Rattle.dq_lits.specs.Formula.{Dqbf}
use Rattle.aig_graph.specs.Graph.{AigGraph}
use Rattle.aig_graph.specs.declared.nodes.Node.{Node}
use Rattle.aig_graph.specs.declared.nodes.Node.TheVariants.{Constant}
use Rattle.candidate_functions.specs.Candidates.{AreGuesses}
use Rattle.repair_loop.specs.Constants.{IsConstant}

constant_at : (nodes : List (Option Node)) → All IsConstant nodes → (k : ℕ) (node : Node) →
    slice_index_or nodes k None ≡ Some node → (b : Bool) × (node ≡ Constant b)
constant_at [] all k node is = cc
constant_at (n ∷ nodes) all zero node is = search (arith, All-head)
constant_at (n ∷ nodes) all (suc k) node is = constant_at nodes (All-tail IsConstant n nodes all) k node is

pub constants_guess : (f : Dqbf) (graph : AigGraph) (nodes : List (Option Node)) → All IsConstant nodes →
    AreGuesses f graph nodes
constants_guess f graph nodes all k d below node is = search (arith, constant_at, All-nil)
