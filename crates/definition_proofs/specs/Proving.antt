-- What a proof of a definition asks for and keeps.
use Rattle.std.specs.Prelude.{◌≡◌, ◌≢◌, ℕ, List, Some}
use Rattle.std.specs.List.{All, Contains}
use Rattle.dq_lits.specs.Formula.{Existential, Dqbf, existential_of}
use Rattle.aig_graph.specs.Graph.{AigGraph}
use Rattle.aig_graph.specs.declared.nodes.Node.{Node}
use Rattle.defining_nodes.specs.Definitions.{IsDefinition, defining_output}
use Rattle.hint_log.specs.Entries.{Entry, ProofLog}
use Rattle.hint_log.specs.declared.origins.Leaf.{Leaf}
use Rattle.definability.specs.Copies.{IsDefinability, IsWhole, group_variable, groups_of}
use Rattle.definability.specs.Growing.{HasFewFaults}
use Rattle.definability.specs.declared.definability.Definability.{Definability}
use Rattle.definition_proofs.specs.Shown.{IsLeafDeclared, IsShownDefinition, ReadDeclaredCopies, TermLeafReads}
use Rattle.definition_proofs.specs.Terms.{AreTerms, GrewByProof}
use Rattle.definition_proofs.specs.Leaves.{IsLeafFor}
use Rattle.definition_proofs.specs.declared.searching.Proved.{Proved}
use Rattle.definition_proofs.specs.declared.terms.Terms.{Terms}

-- the copies of the matrix, with copies of all variables, and the gates over the first one, which
-- read copies of declared variables, stand in the log, in groups of their own, with room for
-- clauses more
pub record AreBeside (f : Dqbf) (p : Definability) (t : Terms) (entries : List Entry) : Type 0 where
  pub definability : IsDefinability f p entries
  pub whole : IsWhole f p
  pub terms : AreTerms t entries
  pub sides : ReadDeclaredCopies f entries
  pub apart : All (λ g. g ≢ group_variable t.group) (groups_of p)
  pub few : HasFewFaults entries

-- the node is a definition of the existential, by some ranks
pub record IsDefinedBy (f : Dqbf) (graph : AigGraph) (y : ℕ) (node : Node) : Type 0 where
  pub ranks : List ℕ
  pub existential : Existential
  pub found : existential_of f y ≡ Some existential
  pub definition : IsDefinition f ranks graph existential node

-- the leaf that stands for a node, with the gates of its cone
pub record HasLeaf (f : Dqbf) (graph : AigGraph) (node : Node) (t : Terms) (old : ProofLog) (u : Terms)
    (new : ProofLog) (leaf : Leaf) : Type 0 where
  pub grew : (h : Dqbf) (y : ℕ) → GrewByProof h (group_variable t.group) y old new
  pub group : u.group ≡ t.group
  pub terms : AreTerms u new.entries
  pub sides : ReadDeclaredCopies f old.entries → ReadDeclaredCopies f new.entries
  pub leaf_is : IsLeafFor f graph new.entries node leaf

-- what a definition was proved by
pub record IsProvedBy (f : Dqbf) (graph : AigGraph) (p : Definability) (y : ℕ) (node : Node) (t : Terms)
    (entries : List Entry) (proved : Proved) : Type 0 where
  pub beside : AreBeside f p t entries
  pub shown : IsShownDefinition entries y proved.leaf proved.id
  pub is_declared : IsLeafDeclared f entries proved.leaf
  pub leaf_is : IsLeafFor f graph entries node proved.leaf
  pub reads : (v : ℕ) → TermLeafReads entries proved.leaf v
      → Contains (defining_output f graph node).support v
