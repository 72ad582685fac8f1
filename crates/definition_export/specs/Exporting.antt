-- Which answers can be exported as a definition's block, and what is exported of them.
use Rattle.std.specs.Prelude.{◌≡◌, ◌≢◌, ◌≤◌, ◌<◌, ◌==◌, ℕ, Bool, true, false, List, length, None, Some, IsSome}
use Rattle.std.specs.List.{AllPairs, Contains, position_or_len}
use Rattle.dq_lits.specs.Formula.{Dqbf, existential_of}
use Rattle.dq_lits.specs.Literal.{Literal, variable_of}
use Rattle.dq_lits.specs.Derivation.{proof_fault}
use Rattle.hint_log.specs.Conditions.{AreLogged}
use Rattle.hint_log.specs.Entries.{Entry, Named, Given, count, has_id, name_of, numbered}
use Rattle.hint_log.specs.Growth.{Each}
use Rattle.hint_log.specs.ProductiveLog.{IsDerivedByHints, IsProductiveLog}
use Rattle.hint_log.specs.Reached.{Reaches}
use Rattle.hint_log.specs.declared.names.Name.TheVariants.{Term}
use Rattle.hint_log.specs.declared.origins.Leaf.{Leaf}
use Rattle.hint_log.specs.declared.origins.Leaf.TheVariants.{Constant, Literal as LeafLiteral}
use Rattle.hint_log.specs.declared.origins.Origin.TheVariants.{TermGate}
use Rattle.cert_text.specs.AllowedDefinitions.{IsDefinitionOf}
use Rattle.cert_text.specs.DefinitionBlocks.{Definition}
use Rattle.cert_text.specs.Header.{max_count}
use Rattle.defined_checker.specs.DefinitionBase.{definition_base}
use Rattle.defined_checker.specs.DefinitionReads.{IsRead}
use Rattle.definition_proofs.specs.Shown.{IsLeafDeclared, IsShownDefinition, ReadDeclaredCopies, TermLeafReads}
use Rattle.cert_export.specs.Given.{EachGivenReached, IsGivenRightly}
use Rattle.cert_export.specs.Lines.{is_lemma}

-- the last entry is an answer that shows a definition, and what the export reads of the log is
-- right by the formula: what gates and leaf read, and the given clauses that the answer rests on;
-- every lemma is derived
pub record CanExportDefinition (f : Dqbf) (entries : List Entry) (id y : ℕ)
    (leaf : Leaf) : Type 0 where
  pub shown : IsShownDefinition entries y leaf id
  pub existential : IsSome (existential_of f y)
  pub sides : ReadDeclaredCopies f entries
  pub leaf_declared : IsLeafDeclared f entries leaf
  pub givens : EachGivenReached (IsGivenRightly f entries) entries id
  pub lemmas_are_derived : Each IsDerivedByHints entries

abbrev pub is_term_entry : Entry → Bool
is_term_entry (Named v (Term a b)) = true
is_term_entry _ = false

-- the block's proof shows that the existential and the output differ nowhere; what the output reads
-- is read in the log, and a text can hold the block
pub record IsExportedDefinition (f : Dqbf) (entries : List Entry) (y : ℕ) (leaf : Leaf)
    (d : Definition) : Type 0 where
  pub existential : d.existential ≡ y
  pub proved : proof_fault (definition_base f d) d.steps ≡ None
  pub reads : (v : ℕ) → IsRead f d v → TermLeafReads entries leaf v
  pub allowed : length d.gates ≤ max_count → IsDefinitionOf f d
  pub few_gates : length d.gates ≤ count is_term_entry entries
  pub few_steps : length d.steps ≤ count is_lemma entries

-- where the literal stands on a gate, the list has that gate before this one
abbrev pub IsTermBefore : List Entry → List ℕ → ℕ → Literal → Type 0
IsTermBefore entries gates v l =
    (a b : Literal) → name_of entries (variable_of l) ≡ Some (Term a b)
    → position_or_len (λ x. x == variable_of l) gates < position_or_len (λ x. x == v) gates

abbrev pub IsLeafListed : List Entry → List ℕ → Leaf → Type 0
IsLeafListed entries gates (Constant b) = Unit {0}
IsLeafListed entries gates (LeafLiteral l) =
    (a b : Literal) → name_of entries (variable_of l) ≡ Some (Term a b)
    → Contains gates (variable_of l)

-- gates over first copies, each once and behind those that it reads, among them the leaf's and
-- those whose clauses the answer reaches
pub record AreBlockGates (entries : List Entry) (id : ℕ) (leaf : Leaf) (gates : List ℕ) : Type 0 where
  pub named : (v : ℕ) → Contains gates v
      → (a : Literal) × (b : Literal) × (name_of entries v ≡ Some (Term a b))
  pub distinct : AllPairs (λ v w. v ≢ w) gates
  pub order : (v : ℕ) (a b : Literal) → Contains gates v → name_of entries v ≡ Some (Term a b)
      → IsTermBefore entries gates v a × IsTermBefore entries gates v b
  pub leaf_listed : IsLeafListed entries gates leaf
  pub few : length gates ≤ count is_term_entry entries
  pub used : (h v i : ℕ) (c : List Literal) → Reaches entries id h
      → numbered has_id entries h ≡ Some (Given (TermGate v i) c) → Contains gates v

-- in a log of productive work for a formula every such answer can be exported
abbrev pub ProductiveDefinitionsCanExport : Type 0
ProductiveDefinitionsCanExport =
    (f : Dqbf) (entries : List Entry) (id y : ℕ) (leaf : Leaf) → AreLogged entries
    → IsProductiveLog f entries → ReadDeclaredCopies f entries → IsLeafDeclared f entries leaf
    → IsSome (existential_of f y) → IsShownDefinition entries y leaf id
    → CanExportDefinition f entries id y leaf
