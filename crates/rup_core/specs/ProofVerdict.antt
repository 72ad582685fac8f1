-- What is said of a proof's fault.
use Rattle.std.specs.Prelude.{Option, None, Some}
use Rattle.dq_lits.specs.Derivation.{underived, unfinished, ProofFault as Fault}
use Rattle.rup_core.specs.declared.faults.ProofFault.{ProofFault}
use Rattle.rup_core.specs.declared.faults.ProofFault.TheVariants.{Underived, Unfinished}

abbrev pub proof_fault_in : Option ProofFault → Option Fault
proof_fault_in None = None
proof_fault_in (Some (Underived id)) = Some (underived id)
proof_fault_in (Some Unfinished) = Some unfinished
