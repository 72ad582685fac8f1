-- The names of the refusals of designs, as they are written.
use Rattle.std.specs.Prelude.{ℕ, List, codes}
use Rattle.aiger_text.specs.FaultNames.{circuit_fault_name}
use Rattle.pec_front.specs.declared.faults.PecFault.{PecFault}
use Rattle.pec_front.specs.declared.faults.PecFault.TheVariants.{InputShort, OutputCount, NoPec, Limit, Truncated, BadBox, BoxTwice, BoxMissing, BoxOrder}
use Rattle.pec_runs.specs.declared.designs.ImpFault.{ImpFault}
use Rattle.pec_runs.specs.declared.designs.ImpFault.TheVariants.{Circuit, Design}

abbrev pub pec_fault_name : PecFault → List ℕ
pec_fault_name InputShort = codes "InputShort"
pec_fault_name OutputCount = codes "OutputCount"
pec_fault_name NoPec = codes "NoPec"
pec_fault_name Limit = codes "Limit"
pec_fault_name Truncated = codes "Truncated"
pec_fault_name BadBox = codes "BadBox"
pec_fault_name BoxTwice = codes "BoxTwice"
pec_fault_name BoxMissing = codes "BoxMissing"
pec_fault_name BoxOrder = codes "BoxOrder"

abbrev pub imp_fault_name : ImpFault → List ℕ
imp_fault_name (Circuit name) = circuit_fault_name name
imp_fault_name (Design name) = pec_fault_name name
