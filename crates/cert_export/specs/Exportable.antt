-- What the parts of an export ask for.
use Rattle.std.specs.Prelude.{◌≡◌, ℕ, ◌-◌, ◌≤◌, Bool, true, List, map, length, slice_set, Option, Some}
use Rattle.std.specs.List.{All, Contains}
use Rattle.std.specs.List.Sorted.{IsStrictlyIncreasing}
use Rattle.dq_lits.specs.Literal.{Literal}
use Rattle.dq_lits.specs.Derivation.{ProofStep}
use Rattle.dq_lits.specs.Formula.{Dqbf, IsWellFormed}
use Rattle.hint_log.specs.Conditions.{IsId, AreLogged}
use Rattle.hint_log.specs.Entries.{Entry, Given, has_id, numbered, hints_at, origin_at, rounds_of}
use Rattle.hint_log.specs.Growth.{Each}
use Rattle.hint_log.specs.Naming.{rows_of}
use Rattle.hint_log.specs.ProductiveLog.{IsDerivedByHints}
use Rattle.hint_log.specs.declared.origins.Origin.{Origin}
use Rattle.hint_log.specs.declared.origins.Origin.TheVariants.{Instance}
use Rattle.rup_core.specs.Items.{ProofItem, derived}
use Rattle.cert_text.specs.Header.{max_count}
use Rattle.dq_formula.specs.declared.formula.TheConstants.{MAX_CLAUSES}
use Rattle.cert_text.specs.declared.refutations.Dqr.{Dqr}
use Rattle.cert_export.specs.Expansion.{IsInstanceClause, used_rows}
use Rattle.cert_export.specs.Exported.{IsPairRenaming, exported_steps}
use Rattle.cert_export.specs.Renaming.{Renaming}

-- an instance of a clause with one of these ascending numbers, under the row of one of these
-- rounds, which ascend too
abbrev pub IsKnownInstance : List ℕ → List ℕ → Origin → Type 0
IsKnownInstance rounds live (Instance k j) =
    IsStrictlyIncreasing rounds × Contains rounds k × IsStrictlyIncreasing live × Contains live j
IsKnownInstance rounds live _ = ⊥

-- ascending ids with all their hints, of which the given ones are instances of the formula's
-- clauses, in a log with few rounds
pub record AreExportable (f : Dqbf) (live : List ℕ) (entries : List Entry)
    (ids : List ℕ) : Type 0 where
  pub well_formed : IsWellFormed f
  pub few_clauses : length f.matrix ≤ MAX_CLAUSES
  pub few_rounds : length (rows_of entries) ≤ max_count
  pub logged : AreLogged entries
  pub lemmas_are_derived : Each IsDerivedByHints entries
  pub ascending : IsStrictlyIncreasing ids
  pub are_ids : All (IsId entries) ids
  pub closed : (at hint : ℕ) (hints : List ℕ) → Contains ids at → hints_at entries at ≡ Some hints
      → Contains hints hint → Contains ids hint
  pub numbers_ascend : IsStrictlyIncreasing live
  pub one_each : length live ≡ length f.matrix
  pub instances : (id : ℕ) (origin : Origin) (c : List Literal) → Contains ids id
      → numbered has_id entries id ≡ Some (Given origin c) → IsInstanceClause f live entries origin c

-- the lines under some renaming of the pairs
abbrev pub AreExportedSteps : Dqbf → List ℕ → List Entry → List ℕ → List ProofStep → Type 0
AreExportedSteps f live entries ids steps =
    (r : Renaming) × IsPairRenaming f entries ids r × (steps ≡ exported_steps f live entries ids r)

-- the same as items, of which none is a deletion
abbrev pub AreExportedItems : Dqbf → List ℕ → List Entry → List ℕ → List ProofItem → Type 0
AreExportedItems f live entries ids items =
    (steps : List ProofStep) × AreExportedSteps f live entries ids steps
    × (items ≡ map derived steps)

-- the rows of the instances among the ids, and such items
pub record AreExported (f : Dqbf) (live : List ℕ) (entries : List Entry) (ids : List ℕ)
    (d : Dqr) : Type 0 where
  pub rows : d.rows ≡ used_rows entries ids
  pub items : AreExportedItems f live entries ids d.items

-- numbers of rounds
abbrev pub AreRounds : List Entry → List ℕ → Type 0
AreRounds entries rounds = All (λ k. (1 ≤ k) × (k ≤ rounds_of entries)) rounds

-- ids, of which each instance is under the row of a round
pub record HaveRounds (entries : List Entry) (ids : List ℕ) : Type 0 where
  pub are_ids : All (IsId entries) ids
  pub rounds : (id k j : ℕ) → Contains ids id → origin_at entries id ≡ Some (Instance k j)
      → (1 ≤ k) × (k ≤ rounds_of entries)

-- with a mark at the round of an instance
abbrev pub with_mark : List Bool → Option Origin → List Bool
with_mark marks (Some (Instance k j)) = slice_set marks (k - 1) true
with_mark marks _ = marks
