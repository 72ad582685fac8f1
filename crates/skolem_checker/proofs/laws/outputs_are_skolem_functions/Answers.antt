use Rattle.skolem_checker.proofs.SkolemLaws.{outputs_are_skolem}
use Rattle.skolem_checker.proofs.laws.outputs_are_skolem_functions.Goals as goal

pub returns : goal.returns
returns c = outputs_are_skolem
