-- What is read of a formula's file, and what is said where it gives none.
use Rattle.std.specs.Prelude.{◌≡◌, ℕ, ◌^◌, List, Result, Ok, Err, codes}
use Rattle.dq_io.specs.Files.{Holding}
use Rattle.dq_io.specs.State.{FilesState}
use Rattle.dq_lits.specs.Formula.{Dqbf, IsWellFormed}
use Rattle.dqdimacs_reader.specs.Grammar.{SpellsFormula}
use Rattle.dqdimacs_reader.specs.Machine.{TextFault, reading}
use Rattle.dq_runs.specs.FaultNames.{formula_fault_name}
use Rattle.dq_runs.specs.FileTexts.{IsShortText, IsUnreadable, IsTooLong, PickedOnce}
use Rattle.dq_runs.specs.Printed.{Printed, unreadable_line, long_line, fault_line}
use Rattle.dq_runs.specs.declared.formulas.FormulaStop.{FormulaStop}
use Rattle.dq_runs.specs.declared.formulas.FormulaStop.TheVariants.{Memory, Said}
use Rattle.dq_runs.specs.declared.formulas.NoFormula.{NoFormula}
use Rattle.dq_runs.specs.declared.formulas.NoFormula.TheVariants.{Unreadable, TooLong, Refused}

-- the most bytes of a formula
abbrev pub max_formula : ℕ
max_formula = 2 ^ 30

-- the file's text has this first fault
pub record IsFaultOf (holding : Holding) (fault : TextFault) : Type 0 where
  pub text : List ℕ
  pub read : IsShortText max_formula holding text
  pub is_first : reading text ≡ Err fault

-- the file's text spells this formula
pub record IsFormulaOf (holding : Holding) (f : Dqbf) : Type 0 where
  pub text : List ℕ
  pub read : IsShortText max_formula holding text
  pub spelled : SpellsFormula text f
  pub well_formed : IsWellFormed f

-- this is to be said of the file of a name, which gives no formula
abbrev pub IsNoFormula : FilesState → FilesState → List ℕ → NoFormula → Type 0
IsNoFormula before now name Unreadable = IsUnreadable before now name
IsNoFormula before now name TooLong = IsTooLong max_formula before now name
IsNoFormula before now name (Refused line fault) =
    IsFaultOf (before.held name) (record { line = line; name = fault })

-- how it is said
abbrev pub formula_line : NoFormula → Printed
formula_line Unreadable = unreadable_line
formula_line TooLong = long_line (codes "formula")
formula_line (Refused line fault) = fault_line 2 (codes "refused") line (formula_fault_name fault)

-- the formula of the file of a name, or what is said of it, or want of memory; that file was
-- picked, and no other one
abbrev pub IsFormulaRead : FilesState → FilesState → List ℕ → Result Dqbf FormulaStop → Type 0
IsFormulaRead before now name (Ok f) = IsFormulaOf (before.held name) f × PickedOnce before now
IsFormulaRead before now name (Err Memory) = Unit {0}
IsFormulaRead before now name (Err (Said said)) =
    IsNoFormula before now name said × PickedOnce before now

-- a word of private contracts: the same of a text that was read
abbrev pub IsTextRead : List ℕ → Result Dqbf FormulaStop → Type 0
IsTextRead text (Ok f) = SpellsFormula text f × IsWellFormed f
IsTextRead text (Err Memory) = Unit {0}
IsTextRead text (Err (Said Unreadable)) = ⊥
IsTextRead text (Err (Said TooLong)) = ⊥
IsTextRead text (Err (Said (Refused line name))) =
    reading text ≡ Err (record { line = line; name = name })

-- the file couldn't be read
abbrev pub IsUnreadableStop : Result Dqbf FormulaStop → Type 0
IsUnreadableStop (Ok _) = ⊥
IsUnreadableStop (Err Memory) = ⊥
IsUnreadableStop (Err (Said Unreadable)) = Unit {0}
IsUnreadableStop (Err (Said TooLong)) = ⊥
IsUnreadableStop (Err (Said (Refused line name))) = ⊥
