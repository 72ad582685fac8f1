use Rattle.aiger_text.proofs.FirstFaults.{spells_from, read_from, unique_file, file_or_fault, never_both, one_fault}
use Rattle.aiger_text.proofs.laws.circuit_or_first_fault.Goals as goal

pub returns-clause-exact : goal.returns-clause-exact
returns-clause-exact c text first file = (
  λ spells. (read_from text first file spells, spells.acyclic),
  λ read. spells_from text first file read.0 read.1,
)

pub returns-clause-unique : goal.returns-clause-unique
returns-clause-unique c = unique_file

pub returns-clause-either : goal.returns-clause-either
returns-clause-either c = file_or_fault

pub returns-clause-never_both : goal.returns-clause-never_both
returns-clause-never_both c = never_both

pub returns-clause-one_fault : goal.returns-clause-one_fault
returns-clause-one_fault c = one_fault
