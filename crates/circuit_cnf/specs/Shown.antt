-- What an answer says of outputs that it shows to be right.
use Rattle.std.specs.Prelude.{◌≡◌, ℕ, List, ◌∷◌, None}
use Rattle.std.specs.List.{All}
use Rattle.dq_lits.specs.Literal.{Assignment, Literal}
use Rattle.dq_lits.specs.Formula.{Dqbf, Existential, IsWellFormed}
use Rattle.dq_lits.specs.Henkin.{MatrixHolds}
use Rattle.dq_lits.specs.Skolem.{OutputFunction}
use Rattle.aig_graph.specs.declared.nodes.Node.{Node}
use Rattle.aig_graph.specs.Graph.{AigGraph}
use Rattle.aig_graph.specs.Outputs.{output_node, outputs_of, ReadDeclared}
use Rattle.hint_log.specs.Entries.{Entry, Answer, name_of, last_id}
use Rattle.hint_log.specs.declared.origins.Leaf.{Leaf}
use Rattle.hint_log.specs.Deciding.{RestsOnCircuit, IsFaultLeaf, DecidesTrue}
use Rattle.log_laws.specs.Meaning.{IsSoundAnswer}
use Rattle.circuit_cnf.specs.Leaves.{HasLeaf}

-- every clause is true wherever each existential has its output's value
abbrev pub HoldEverywhere : Dqbf → (Existential → OutputFunction) → Type 0
HoldEverywhere f output =
    (m : Assignment) → All (λ y. m y.variable ≡ (output y).value m) f.existentials → MatrixHolds f m

-- the answer rests on gates and on the faults of one group, in which the existentials have these
-- nodes' leaves
pub record ShowsOutputs (f : Dqbf) (graph : AigGraph) (nodes : List Node) (earlier : List Entry)
    (clause : List Literal) (hints : List ℕ) : Type 0 where
  pub rests : RestsOnCircuit earlier clause hints
  pub leaf : Existential → Leaf
  pub named : All (λ y. HasLeaf f graph earlier (output_node f nodes y) (leaf y)) f.existentials
  pub outs : All (λ y. (out : Leaf) → IsFaultLeaf f earlier hints y out → out ≡ leaf y)
      f.existentials

-- the last entry is such an answer
pub record IsShownBy (f : Dqbf) (graph : AigGraph) (nodes : List Node) (entries : List Entry)
    (id : ℕ) : Type 0 where
  pub clause : List Literal
  pub hints : List ℕ
  pub earlier : List Entry
  pub answered : entries ≡ Answer clause hints ∷ earlier
  pub last : id ≡ last_id entries
  pub shows : ShowsOutputs f graph nodes earlier clause hints

-- and the group was made since: the answer shows what it shows of the formula of this call, and
-- rests on no earlier search's faults
pub record IsShownSince (f : Dqbf) (graph : AigGraph) (nodes : List Node)
    (old entries : List Entry) (id : ℕ) : Type 0 where
  pub shown : IsShownBy f graph nodes entries id
  pub fresh : name_of old shown.shows.rests.group ≡ None

-- such outputs are right
abbrev pub ShownOutputsHold : Type 0
ShownOutputsHold =
    (f : Dqbf) (graph : AigGraph) (nodes : List Node) (earlier : List Entry) (clause : List Literal)
    (hints : List ℕ) → IsWellFormed f →
    IsSoundAnswer f earlier clause hints → ShowsOutputs f graph nodes earlier clause hints
    → HoldEverywhere f (outputs_of f graph nodes)

-- and where they read what they may, the answer decides that the formula is true
abbrev pub ShownOutputsDecide : Type 0
ShownOutputsDecide =
    (f : Dqbf) (graph : AigGraph) (nodes : List Node) (earlier : List Entry) (clause : List Literal)
    (hints : List ℕ) →
    ShowsOutputs f graph nodes earlier clause hints → ReadDeclared f (outputs_of f graph nodes)
    → DecidesTrue f earlier clause hints
