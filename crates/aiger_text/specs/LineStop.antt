-- What a function that reads a line answers.
use Rattle.std.specs.Prelude.{◌≡◌, Result, Ok, Err}
use Rattle.aiger_text.specs.declared.faults.AagFault.{AagFault}
use Rattle.aiger_text.specs.declared.faults.LineStop.{LineStop}
use Rattle.aiger_text.specs.declared.faults.LineStop.TheVariants.{Fault, Memory}

-- the value of the line, or its fault, or want of memory
abbrev pub IsLineOf : {T : Type 0} → Result T AagFault → Result T LineStop → Type 0
IsLineOf line (Ok value) = line ≡ Ok value
IsLineOf line (Err (Fault name)) = line ≡ Err name
IsLineOf line (Err Memory) = Unit {0}
