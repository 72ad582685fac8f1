-- The names of the faults of a script, as they are written.
use Rattle.std.specs.Prelude.{ℕ, List, codes}
use Rattle.script_text.specs.declared.faults.ScriptFault.{ScriptFault}
use Rattle.script_text.specs.declared.faults.ScriptFault.TheVariants.{BadCommand, NoFrame, BadNumber, TooBig, VarRange, Undeclared, MissingZero, Limit}

abbrev pub script_fault_name : ScriptFault → List ℕ
script_fault_name BadCommand = codes "BadCommand"
script_fault_name NoFrame = codes "NoFrame"
script_fault_name BadNumber = codes "BadNumber"
script_fault_name TooBig = codes "TooBig"
script_fault_name VarRange = codes "VarRange"
script_fault_name Undeclared = codes "Undeclared"
script_fault_name MissingZero = codes "MissingZero"
script_fault_name Limit = codes "Limit"
