use Rattle.skolem_checker.proofs.PlacesLaws.{fault_at}
use Rattle.skolem_checker.proofs.laws.mapping_faults_have_places.Goals as goal

pub returns : goal.returns
returns c = fault_at
