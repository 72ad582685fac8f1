-- The names of the faults of a formula's text, as they are written.
use Rattle.std.specs.Prelude.{ℕ, List, codes}
use Rattle.dqdimacs_reader.specs.declared.faults.FormulaFault.{FormulaFault}
use Rattle.dqdimacs_reader.specs.declared.faults.FormulaFault.TheVariants.{NoHeader, BadNumber, TooBig, VarRange, DeclaredTwice, NotUniversal, EmptyD, PrefixLate, HeaderTwice, TooFewClauses, TooManyClauses, MissingZero, Limit, XorRepeat, XorSize}

abbrev pub formula_fault_name : FormulaFault → List ℕ
formula_fault_name NoHeader = codes "NoHeader"
formula_fault_name BadNumber = codes "BadNumber"
formula_fault_name TooBig = codes "TooBig"
formula_fault_name VarRange = codes "VarRange"
formula_fault_name DeclaredTwice = codes "DeclaredTwice"
formula_fault_name NotUniversal = codes "NotUniversal"
formula_fault_name EmptyD = codes "EmptyD"
formula_fault_name PrefixLate = codes "PrefixLate"
formula_fault_name HeaderTwice = codes "HeaderTwice"
formula_fault_name TooFewClauses = codes "TooFewClauses"
formula_fault_name TooManyClauses = codes "TooManyClauses"
formula_fault_name MissingZero = codes "MissingZero"
formula_fault_name Limit = codes "Limit"
formula_fault_name XorRepeat = codes "XorRepeat"
formula_fault_name XorSize = codes "XorSize"
