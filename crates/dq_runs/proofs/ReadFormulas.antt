-- From what was fed to what is read of a formula's file.
use Rattle.std.proofs.Common.{◌≡◌, ℕ, ◌<◌, List, [], length, Result, Ok, Err, sym, subst}
use Rattle.dq_io.specs.Feeding.{WasFed}
use Rattle.dq_io.specs.Files.{Holding, Absent}
use Rattle.dq_io.specs.State.{FilesState}
use Rattle.dq_lits.specs.Formula.{Dqbf}
use Rattle.dqdimacs_reader.specs.Machine.{TextFault}
use Rattle.dqdimacs_reader.specs.Reading.{IsReading}
use Rattle.dqdimacs_reader.specs.declared.faults.FormulaFault.{FormulaFault}
use Rattle.dqdimacs_reader.specs.declared.faults.ReadStop.{ReadStop}
use Rattle.dqdimacs_reader.specs.declared.faults.ReadStop.TheVariants.{Refused as RefusedText}
use Rattle.dq_runs.specs.FileTexts.{IsShortText, PickedOnce}
use Rattle.dq_runs.specs.FormulaFiles.{max_formula, IsTextRead, IsFormulaRead}
use Rattle.dq_runs.specs.declared.formulas.FormulaStop.{FormulaStop}
use Rattle.dq_runs.specs.declared.formulas.FormulaStop.TheVariants.{Memory, Said}
use Rattle.dq_runs.specs.declared.formulas.NoFormula.TheVariants.{Unreadable, TooLong, Refused}
use Rattle.dq_runs.proofs.ToldTexts.{told_text, is_short}

-- what was fed of a file that was read to its end is its text
pub record IsFed (now : List ℕ → Type 0) (holding : Holding) : Type 0 where
  pub text : List ℕ
  pub stands : now text
  pub read : IsShortText max_formula holding text

pub whole_was_fed : {E : Type 0} (before now : List ℕ → Type 0) (holding : Holding) (given : ℕ)
    (result : Result (Unit {0}) E) → WasFed before now holding given result →
    before [] → (u : Unit {0}) → result ≡ Ok u → (holding ≡ Absent → ⊥) → (max_formula < given → ⊥) → IsFed now holding
whole_was_fed before now holding given (Ok u) fed empty v is there not_long = record {
  text = fed.fed;
  stands = fed.stands [] empty;
  read = record {
    is = told_text holding fed.fed fed.whole there;
    short =
        is_short max_formula given (length fed.fed) (sym fed.counted) not_long;
  };
}
whole_was_fed before now holding given (Err e) fed empty v is there not_long = cc

pub read_of : (before now : FilesState) (name : List ℕ) (r : Result Dqbf FormulaStop) (text : List ℕ) →
    IsShortText max_formula (before.held name) text →
    IsTextRead text r → PickedOnce before now → IsFormulaRead before now name r
read_of before now name (Ok f) text short (spelled, well_formed) once =
    (record { text = text; read = short; spelled = spelled; well_formed = well_formed }, once)
read_of before now name (Err Memory) text short is once = tt
read_of before now name (Err (Said Unreadable)) text short is once = absurd is
read_of before now name (Err (Said TooLong)) text short is once = absurd is
read_of before now name (Err (Said (Refused line fault))) text short is once =
    (record { text = text; read = short; is_first = is }, once)

pub refused_of : (read : Result Dqbf TextFault) (stop : ReadStop) (line : ℕ) (name : FormulaFault) →
    stop ≡ RefusedText line name → IsReading read (Err stop) →
    read ≡ Err (record { line = line; name = name })
refused_of read stop line name is reads = subst (λ s. IsReading read (Err s)) is reads
