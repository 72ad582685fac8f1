-- Words of private contracts: what is exported of an answer, as it is found.
use Rattle.std.specs.Prelude.{◌≡◌, ◌≤◌, ◌^◌, ℕ, List, length, Some, IsSome}
use Rattle.std.specs.List.{All, Contains}
use Rattle.dq_lits.specs.Derivation.{ProofStep}
use Rattle.dq_lits.specs.Formula.{Dqbf, IsWellFormed}
use Rattle.dq_lits.specs.Literal.{Literal, variable_of}
use Rattle.hint_log.specs.Conditions.{AreLogged, IsId}
use Rattle.hint_log.specs.Entries.{Entry, Given, has_id, name_of, numbered}
use Rattle.hint_log.specs.Reached.{AreReached}
use Rattle.hint_log.specs.declared.names.Name.TheVariants.{Term}
use Rattle.hint_log.specs.declared.origins.Leaf.{Leaf}
use Rattle.hint_log.specs.declared.origins.Origin.TheVariants.{TermGate}
use Rattle.cert_export.specs.Lines.{derived_ids, line_number, line_steps}
use Rattle.cert_export.specs.Renaming.{Renaming, IsRenamingOf}
use Rattle.definition_export.specs.ExportedDefinition.{definition_id, definition_renaming, last_definition_id}
use Rattle.definition_export.specs.Exporting.{AreBlockGates, CanExportDefinition}

-- the clauses of gates over first copies that have these ids are of such gates
abbrev pub AreNamedTerms : List Entry → List ℕ → Type 0
AreNamedTerms entries ids =
    (h v i : ℕ) (c : List Literal) → Contains ids h
    → numbered has_id entries h ≡ Some (Given (TermGate v i) c)
    → (a : Literal) × (b : Literal) × (name_of entries v ≡ Some (Term a b))

-- the ids that an answer reaches which can be exported, and the gates of its block
pub record AreDefinitionIds (f : Dqbf) (entries : List Entry) (id : ℕ) (ids : List ℕ) (y : ℕ)
    (leaf : Leaf) (gates : List ℕ) : Type 0 where
  pub well_formed : IsWellFormed f
  pub few_clauses : length f.matrix ≤ 10000000
  pub logged : AreLogged entries
  pub can : CanExportDefinition f entries id y leaf
  pub reached : AreReached entries id ids
  pub are_ids : All (IsId entries) ids
  pub block : AreBlockGates entries id leaf gates
  pub few_gates : length gates ≤ 10 ^ 16

-- the lines under some renaming of the variables
abbrev pub AreBlockSteps : Dqbf → List Entry → List ℕ → List ℕ → List ProofStep → Type 0
AreBlockSteps f entries ids gates steps =
    (r : Renaming) × IsRenamingOf (definition_renaming f entries gates) entries ids r
    × (steps ≡ line_steps r (definition_id f gates) entries
    (line_number (last_definition_id f gates) (derived_ids entries ids)) (derived_ids entries ids))

-- each gate's sides have names
pub record CanBeListed (entries : List Entry) (gates : List ℕ) : Type 0 where
  pub named : (v : ℕ) → Contains gates v
      → (a : Literal) × (b : Literal) × (name_of entries v ≡ Some (Term a b))
  pub sides : (v : ℕ) (a b : Literal) → name_of entries v ≡ Some (Term a b)
      → IsSome (name_of entries (variable_of a)) × IsSome (name_of entries (variable_of b))
