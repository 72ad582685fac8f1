-- What candidates are, and what verdicts say.
use Rattle.std.specs.Prelude.{◌≡◌, ℕ, Bool, List, length}
use Rattle.std.specs.List.{All}
use Rattle.dq_lits.specs.Formula.{Dqbf, Existential}
use Rattle.dq_lits.specs.Expansion.{IsExpansionUnsatisfiable}
use Rattle.dq_lits.specs.Skolem.{OutputFunction, AreSkolemFunctions}
use Rattle.hint_log.specs.Entries.{ProofLog}
use Rattle.hint_log.specs.Naming.{rows_of}
use Rattle.aig_graph.specs.declared.nodes.Node.{Node}
use Rattle.aig_graph.specs.Graph.{AigGraph, IsNode}
use Rattle.aig_graph.specs.Outputs.{ReadDeclared, outputs_of}
use Rattle.circuit_cnf.specs.Shown.{IsShownBy}
use Rattle.expansion.specs.Table.{PointBits, ArePoints, IsRefutedBy}
use Rattle.candidate_functions.specs.Candidates.{AgreeAtPairs}

-- outputs that have the bits of a model of the instances under these rows, at all their pairs
pub record AreCandidates (f : Dqbf) (rows : List (List Bool))
    (output : Existential → OutputFunction) : Type 0 where
  pub points : PointBits
  pub are_points : ArePoints f rows points
  pub agree : AgreeAtPairs f rows points output

-- a node for each existential: such outputs, which read what they may
pub record AreBuilt (f : Dqbf) (graph : AigGraph) (rows : List (List Bool))
    (nodes : List Node) : Type 0 where
  pub one_each : length nodes ≡ length f.existentials
  pub are_nodes : All (IsNode graph) nodes
  pub reads : ReadDeclared f (outputs_of f graph nodes)
  pub candidates : AreCandidates f rows (outputs_of f graph nodes)

-- a node for each existential: the outputs are Skolem functions, and the last entry is an answer
-- that shows it
pub record IsShownTrue (f : Dqbf) (graph : AigGraph) (nodes : List Node) (log : ProofLog)
    (id : ℕ) : Type 0 where
  pub one_each : length nodes ≡ length f.existentials
  pub are_nodes : All (IsNode graph) nodes
  pub functions : AreSkolemFunctions f (outputs_of f graph nodes)
  pub shown : IsShownBy f graph nodes log.entries id

-- the instances under the rounds' rows have no model, and the last entry is an answer that shows it
pub record IsShownFalse (f : Dqbf) (log : ProofLog) (id : ℕ) : Type 0 where
  pub unsatisfiable : IsExpansionUnsatisfiable f (rows_of log.entries)
  pub shown : IsRefutedBy log.entries id
