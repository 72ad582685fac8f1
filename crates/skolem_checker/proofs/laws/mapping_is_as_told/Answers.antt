use Rattle.skolem_checker.proofs.NamedMappings.{told_mapping, told_fault}
use Rattle.skolem_checker.proofs.laws.mapping_is_as_told.Goals as goal

pub returns-clause-exact : goal.returns-clause-exact
returns-clause-exact c = told_mapping

pub returns-clause-fault : goal.returns-clause-fault
returns-clause-fault c = told_fault
