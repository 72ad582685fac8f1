-- The names of a certificate's faults, as the checker writes them.
use Rattle.std.specs.Prelude.{ℕ, List, codes}
use Rattle.aiger_text.specs.FaultNames.{circuit_fault_name}
use Rattle.cert_text.specs.declared.faults.CertFault.{CertFault}
use Rattle.cert_text.specs.declared.faults.CertFault.TheVariants.{BadHeader, BadLine, RowIncomplete, IdOrder, UnknownHint, TooBig, Truncated, BadVariable, WrongVerdict, NotLive, BlockOrder, BadGate}
use Rattle.skolem_checker.specs.declared.mapping.MapName.{MapName}
use Rattle.skolem_checker.specs.declared.mapping.MapName.TheVariants.{InputCount, OutputCount, SymbolMissing, SymbolNumber, SymbolTwice}
use Rattle.cert_judge.specs.declared.answers.CertificateFault.{CertificateFault}
use Rattle.cert_judge.specs.declared.answers.CertificateFault.TheVariants.{Text, Circuit, Mapping}

abbrev pub mapping_fault_name : MapName → List ℕ
mapping_fault_name InputCount = codes "InputCount"
mapping_fault_name OutputCount = codes "OutputCount"
mapping_fault_name SymbolMissing = codes "SymbolMissing"
mapping_fault_name SymbolNumber = codes "SymbolNumber"
mapping_fault_name SymbolTwice = codes "SymbolTwice"

abbrev pub text_fault_name : CertFault → List ℕ
text_fault_name BadHeader = codes "BadHeader"
text_fault_name BadLine = codes "BadLine"
text_fault_name RowIncomplete = codes "RowIncomplete"
text_fault_name IdOrder = codes "IdOrder"
text_fault_name UnknownHint = codes "UnknownHint"
text_fault_name TooBig = codes "TooBig"
text_fault_name Truncated = codes "Truncated"
text_fault_name BadVariable = codes "BadVariable"
text_fault_name WrongVerdict = codes "WrongVerdict"
text_fault_name NotLive = codes "NotLive"
text_fault_name BlockOrder = codes "BlockOrder"
text_fault_name BadGate = codes "BadGate"

abbrev pub certificate_fault_name : CertificateFault → List ℕ
certificate_fault_name (Text name) = text_fault_name name
certificate_fault_name (Circuit name) = circuit_fault_name name
certificate_fault_name (Mapping name) = mapping_fault_name name
