-- What a run of the checker says: a line of text, and the status that the program ends with.
use Rattle.std.specs.Prelude.{ℕ, ◌/◌, ◌%◌, ◌==◌, List, [], ◌∷◌, ◌++◌, codes, if◌then◌else◌}
use Rattle.std.specs.Fmt.{decimal}
use Rattle.dq_lits.specs.Formula.{Dqbf}
use Rattle.dq_runs.specs.FormulaFiles.{formula_line}
use Rattle.dq_runs.specs.Printed.{Printed, line, usage_line, unreadable_line, long_line}
use Rattle.dq_runs.specs.declared.formulas.NoFormula.{NoFormula}
use Rattle.defined_checker.specs.declared.faults.DefinitionFault.{DefinitionFault}
use Rattle.defined_checker.specs.declared.faults.DefinitionFault.TheVariants.{Reads, Step, Unfinished, Pair}
use Rattle.cert_judge.specs.declared.answers.Judgement.{Judgement}
use Rattle.cert_judge.specs.declared.answers.Judgement.TheVariants.{Refused, UndeclaredRead, BadRow, Unproved, UnderivedStep, NoEmptyClause, ValidTrue, ValidFalse, BadBlock, ValidDefinitions}
use Rattle.dqcheck_core.specs.CertificateNames.{certificate_fault_name}

pub data Report : Type 0 where
  -- the formula's file gives none
  no_formula : NoFormula → Report
  -- the certificate's file can't be read, or is too long
  unreadable_certificate : Report
  long_certificate : Report
  -- the certificate was judged
  judged : Dqbf → Judgement → Report

-- the universals, each behind a space and with the sign that it has under the row of a number,
-- whose lowest bit is that of the first universal
abbrev pub row_text : ℕ → List ℕ → List ℕ
row_text k [] = []
row_text k (x ∷ xs) =
    (if k % 2 == 1 then codes " " else codes " -") ++ (decimal x ++ row_text (k / 2) xs)

-- what is wrong with a block of definitions
abbrev pub block_text : DefinitionFault → List ℕ
block_text (Reads y x) = codes "INVALID reads " ++ (decimal y ++ (codes " " ++ decimal x))
block_text (Step y id) = codes "INVALID definition " ++ (decimal y ++ (codes " " ++ decimal id))
block_text (Unfinished y) = codes "INVALID definition " ++ (decimal y ++ codes " end")
block_text (Pair y) = codes "INVALID pair " ++ decimal y

abbrev pub answer_text : Dqbf → Judgement → List ℕ
answer_text f (Refused number name) =
    codes "certificate" ++ (codes " " ++ (decimal number
    ++ (codes " " ++ certificate_fault_name name)))
answer_text f (UndeclaredRead y x) =
    codes "INVALID reads " ++ (decimal y ++ (codes " " ++ decimal x))
answer_text f (BadRow k) = codes "INVALID row" ++ row_text k f.universals
answer_text f (Unproved n) = codes "UNPROVED " ++ decimal n
answer_text f (UnderivedStep id) = codes "INVALID step " ++ decimal id
answer_text f NoEmptyClause = codes "INVALID end"
answer_text f ValidTrue = codes "VALID TRUE"
answer_text f ValidFalse = codes "VALID FALSE"
answer_text f (BadBlock fault) = block_text fault
answer_text f (ValidDefinitions counts) =
    codes "VALID DEFINED " ++ (decimal counts.defined ++ (codes " FREE " ++ decimal counts.free))

abbrev pub answer_status : Judgement → ℕ
answer_status (Refused _ _) = 7
answer_status (UndeclaredRead _ _) = 8
answer_status (BadRow _) = 8
answer_status (Unproved _) = 9
answer_status (UnderivedStep _) = 8
answer_status NoEmptyClause = 8
answer_status ValidTrue = 0
answer_status ValidFalse = 0
answer_status (BadBlock _) = 8
answer_status (ValidDefinitions _) = 0

abbrev pub usage : Printed
usage = usage_line (codes "dqcheck FORMULA CERT")

abbrev pub printed_report : Report → Printed
printed_report (no_formula said) = formula_line said
printed_report unreadable_certificate = unreadable_line
printed_report long_certificate = long_line (codes "certificate")
printed_report (judged f answer) =
    record { status = answer_status answer; text = line (answer_text f answer) }
