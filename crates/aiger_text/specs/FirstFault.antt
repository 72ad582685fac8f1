-- The first fault of a circuit file, a cycle among them.
use Rattle.std.specs.Prelude.{◌≡◌, ℕ, ◌⊎◌, List, Ok, Err}
use Rattle.aiger_text.specs.Scan.{LineFault, IsCyclicAt, scan}
use Rattle.aiger_text.specs.declared.faults.AagFault.TheVariants.{Cyclic}
use Rattle.aiger_text.specs.declared.files.AagFile.{AagFile}

-- the file that the scan gives has a cycle, which is a fault of the first gate outside the least
-- set
pub record HasCycle (text : List ℕ) (first : ℕ) (fault : LineFault) : Type 0 where
  pub file : AagFile
  pub scanned : scan text first ≡ Ok file
  pub cyclic : fault.name ≡ Cyclic
  pub at_line : IsCyclicAt first file.circuit fault.line

-- a cycle is looked for behind all other faults
abbrev pub IsFirstFault : List ℕ → ℕ → LineFault → Type 0
IsFirstFault text first fault = (scan text first ≡ Err fault) ⊎ HasCycle text first fault
