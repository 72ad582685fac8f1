-- What an answer of `by_proof` says.
use Rattle.std.specs.Prelude.{◌≡◌, Option, None, Some, Result, Ok, Err}
use Rattle.dq_lits.specs.Derivation.{underived, unfinished, ProofFault as Fault}
use Rattle.proof_checker.specs.declared.faults.ProofFault.{ProofFault}
use Rattle.proof_checker.specs.declared.faults.ProofFault.TheVariants.{Step, NoEmptyClause, Memory}

-- that there is no fault, or which one, or want of memory
abbrev pub IsAnswer : Option Fault → Result (Unit {0}) ProofFault → Type 0
IsAnswer fault (Ok _) = fault ≡ None
IsAnswer fault (Err (Step id)) = fault ≡ Some (underived id)
IsAnswer fault (Err NoEmptyClause) = fault ≡ Some unfinished
IsAnswer fault (Err Memory) = Unit {0}
