-- What a search in three groups leaves and shows, for private contracts.
use Rattle.std.specs.Prelude.{ℕ, List, ◌∷◌, []}
use Rattle.std.specs.List.{All, Contains}
use Rattle.dq_lits.specs.Literal.{Assignment, Literal, negative}
use Rattle.hint_log.specs.Conditions.{AreLogged}
use Rattle.hint_log.specs.Entries.{Entry, Given, ProofLog, clause_at}
use Rattle.hint_log.specs.Growth.{Grew}
use Rattle.hint_log.specs.Origins.{IsTermLeaf}
use Rattle.hint_log.specs.declared.origins.Leaf.{Leaf}
use Rattle.hint_log.specs.declared.origins.Origin.{Origin}
use Rattle.oracle.specs.Calls.{IsMade, IsLearnedEntry, IsModelUnder, assumed}
use Rattle.oracle.specs.declared.groups.Group.{Group}
use Rattle.definability.specs.Copies.{group_variable}
use Rattle.definition_proofs.specs.Shown.{IsDefinitionGiven}

-- the groups have clauses of these kinds alone
pub record ArePremises (entries : List Entry) (y : ℕ) (leaf : Leaf)
    (active : List Group) : Type 0 where
  pub made : All (IsMade entries) active
  pub leaf_is : IsTermLeaf entries leaf
  pub own : (g : Group) → Contains active g → (origin : Origin) (rest : List Literal)
      → Contains entries (Given origin (negative (group_variable g) ∷ rest))
      → IsDefinitionGiven y leaf origin

-- whatever is learned, no values make the groups' clauses true
abbrev pub HaveNoModel : ProofLog → List Group → Type 0
HaveNoModel old active =
    (new : ProofLog) (values : Assignment) → AreLogged new.entries → Grew IsLearnedEntry old new
    → IsModelUnder values (clause_at new.entries) (assumed active []) → ⊥
