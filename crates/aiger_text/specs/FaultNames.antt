-- The names of what can be wrong with a circuit's text, as they are written.
use Rattle.std.specs.Prelude.{ℕ, List, codes}
use Rattle.aiger_text.specs.declared.faults.AagFault.{AagFault}
use Rattle.aiger_text.specs.declared.faults.AagFault.TheVariants.{BadHeader, NotCombinational, BadLine, TooBig, Range, DefinedTwice, Undefined, Cyclic, BadSymbol, Truncated, BadDelta}

abbrev pub circuit_fault_name : AagFault → List ℕ
circuit_fault_name BadHeader = codes "BadHeader"
circuit_fault_name NotCombinational = codes "NotCombinational"
circuit_fault_name BadLine = codes "BadLine"
circuit_fault_name TooBig = codes "TooBig"
circuit_fault_name Range = codes "Range"
circuit_fault_name DefinedTwice = codes "DefinedTwice"
circuit_fault_name Undefined = codes "Undefined"
circuit_fault_name Cyclic = codes "Cyclic"
circuit_fault_name BadSymbol = codes "BadSymbol"
circuit_fault_name Truncated = codes "Truncated"
circuit_fault_name BadDelta = codes "BadDelta"
