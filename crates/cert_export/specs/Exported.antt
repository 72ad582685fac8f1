-- What is exported for a false formula, and that the checker of refutations accepts it.
use Rattle.std.specs.Prelude.{◌≡◌, ℕ, ◌*◌, Bool, true, List, map, length, None, Some}
use Rattle.std.specs.List.{All}
use Rattle.std.specs.Option.{option_map}
use Rattle.std.specs.List.Sorted.{IsStrictlyIncreasing}
use Rattle.dq_lits.specs.Derivation.{ProofStep}
use Rattle.dq_lits.specs.Formula.{Dqbf, IsWellFormed}
use Rattle.hint_log.specs.Conditions.{AreLogged}
use Rattle.hint_log.specs.Entries.{Entry}
use Rattle.hint_log.specs.Growth.{Each}
use Rattle.hint_log.specs.Naming.{rows_of}
use Rattle.hint_log.specs.ProductiveLog.{IsDerivedByHints}
use Rattle.hint_log.specs.Reached.{AreReached}
use Rattle.rup_core.specs.Items.{derived}
use Rattle.cert_text.specs.Grammar.{AreSteps}
use Rattle.cert_text.specs.Pairs.{is_pair_number}
use Rattle.cert_text.specs.Scan.{first_id}
use Rattle.expansion.specs.Table.{IsRefutedBy}
use Rattle.refutation_checker.specs.Refutation.{normal_number, refutation_fault}
use Rattle.cert_export.specs.Renaming.{Renaming, IsRenamingOf}
use Rattle.cert_export.specs.Lines.{derived_ids, line_number, line_steps}
use Rattle.cert_export.specs.Expansion.{used_rounds, rows_among, used_rows, pair_renaming, instance_id, IsInstanceClause}
use Rattle.cert_export.specs.Given.{EachGivenReached}

-- the pairs' own numbers, whichever row's number a name gives them by
abbrev pub normal_names : Dqbf → List (List Bool) → Renaming → Renaming
normal_names f rows r v = option_map (normal_number f rows) (r v)

-- numbers of the pairs that the given clauses among these ids stand on, under the rows of these
-- rounds; perhaps of further ones
pub record IsPairNaming (f : Dqbf) (entries : List Entry) (rounds ids : List ℕ)
    (r : Renaming) : Type 0 where
  pub names : IsRenamingOf (pair_renaming f entries rounds) entries ids
      (normal_names f (rows_among entries rounds) r)
  pub pairs : (v x : ℕ) → r v ≡ Some x
      → is_pair_number f (length (rows_among entries rounds)) x ≡ true

abbrev pub IsPairRenaming : Dqbf → List Entry → List ℕ → Renaming → Type 0
IsPairRenaming f entries ids r = IsPairNaming f entries (used_rounds entries ids) ids r

-- the last id of the instances
abbrev pub last_instance : Dqbf → List Entry → List ℕ → ℕ
last_instance f entries ids = length (used_rounds entries ids) * length f.matrix

abbrev pub exported_number : Dqbf → List Entry → List ℕ → ℕ → ℕ
exported_number f entries ids = line_number (last_instance f entries ids) (derived_ids entries ids)

-- the lines, where the formula's clauses have these numbers in the log
abbrev pub exported_steps : Dqbf → List ℕ → List Entry → List ℕ → Renaming → List ProofStep
exported_steps f live entries ids r =
    line_steps r (instance_id (used_rounds entries ids) live (length f.matrix)) entries
    (exported_number f entries ids) (derived_ids entries ids)

-- the checker finds no fault
abbrev pub ExportedAnswerRefutes : Type 0
ExportedAnswerRefutes =
    (f : Dqbf) (live : List ℕ) (entries : List Entry) (id : ℕ) (ids : List ℕ) (r : Renaming)
    → IsWellFormed f
    → AreLogged entries → EachGivenReached (IsInstanceClause f live entries) entries id
    → Each IsDerivedByHints entries → IsRefutedBy entries id → AreReached entries id ids
    → IsPairRenaming f entries ids r
    → refutation_fault f
    (record { rows = used_rows entries ids; items = map derived (exported_steps f live entries ids r) })
    ≡ None

-- the lines are such as the format allows: numbered behind the instances, on pairs, with earlier
-- hints
abbrev pub ExportedLinesAreAllowed : Type 0
ExportedLinesAreAllowed =
    (f : Dqbf) (live : List ℕ) (entries : List Entry) (id : ℕ) (ids : List ℕ) (r : Renaming)
    → IsWellFormed f
    → AreLogged entries → EachGivenReached (IsInstanceClause f live entries) entries id
    → IsRefutedBy entries id → AreReached entries id ids → IsPairRenaming f entries ids r
    → AreSteps (is_pair_number f (length (used_rows entries ids)))
    (first_id f (length (used_rows entries ids))) (exported_steps f live entries ids r)

-- the last entry is an answer that rests on instances of the formula's clauses, which have these
-- ascending numbers in the log; every lemma is derived, and every round's row is whole
pub record CanExportFalse (f : Dqbf) (live : List ℕ) (entries : List Entry)
    (id : ℕ) : Type 0 where
  pub refuted : IsRefutedBy entries id
  pub instances : EachGivenReached (IsInstanceClause f live entries) entries id
  pub numbers_ascend : IsStrictlyIncreasing live
  pub one_each : length live ≡ length f.matrix
  pub lemmas_are_derived : Each IsDerivedByHints entries
  pub whole_rows : All (λ row. length row ≡ length f.universals) (rows_of entries)
