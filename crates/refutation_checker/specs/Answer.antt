-- What an answer of `check` says.
use Rattle.std.specs.Prelude.{◌≡◌, Option, None, Some, Result, Ok, Err}
use Rattle.dq_lits.specs.Derivation.{ProofFault, underived, unfinished}
use Rattle.refutation_checker.specs.declared.faults.RefFault.{RefFault}
use Rattle.refutation_checker.specs.declared.faults.RefFault.TheVariants.{Step, NoEmptyClause, Memory}

-- that there is no fault, or which one, or want of memory
abbrev pub IsAnswer : Option ProofFault → Result (Unit {0}) RefFault → Type 0
IsAnswer fault (Ok _) = fault ≡ None
IsAnswer fault (Err (Step id)) = fault ≡ Some (underived id)
IsAnswer fault (Err NoEmptyClause) = fault ≡ Some unfinished
IsAnswer fault (Err Memory) = Unit {0}
