-- What `read` answers.
use Rattle.std.specs.Prelude.{◌≡◌, ◌≢◌, Option, Some, None, Result, Ok, Err}
use Rattle.std.specs.List.{All, AllPairs}
use Rattle.dq_lits.specs.Formula.{Dqbf, IsWellFormed}
use Rattle.dq_formula.specs.Prefix.{IsLawful}
use Rattle.dqdimacs_reader.specs.Machine.{TextFault}
use Rattle.dqdimacs_reader.specs.declared.faults.FormulaFault.{FormulaFault}
use Rattle.dqdimacs_reader.specs.declared.faults.ReadStop.{ReadStop}
use Rattle.dqdimacs_reader.specs.declared.faults.ReadStop.TheVariants.{Refused, Memory}

-- the formula, or the fault, or want of memory
abbrev pub IsReading : Result Dqbf TextFault → Result Dqbf ReadStop → Type 0
IsReading read (Ok f) = read ≡ Ok f
IsReading read (Err (Refused line name)) = read ≡ Err (record { line = line; name = name })
IsReading read (Err Memory) = Unit {0}

-- no clause has a literal twice
abbrev pub HasDistinctClauses : Dqbf → Type 0
HasDistinctClauses f = All (AllPairs (λ k l. k ≢ l)) f.matrix

abbrev pub end_fault_of : Result Dqbf FormulaFault → Option FormulaFault
end_fault_of (Ok _) = None
end_fault_of (Err name) = Some name

-- a formula that a text can spell
pub record IsSpellable (f : Dqbf) : Type 0 where
  pub lawful : IsLawful f
  pub well_formed : IsWellFormed f
  pub distinct : HasDistinctClauses f
