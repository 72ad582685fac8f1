use Rattle.skolem_checker.proofs.SkolemLaws.{tested_is_skolem}
use Rattle.skolem_checker.proofs.laws.tested_circuit_is_skolem.Goals as goal

pub returns : goal.returns
returns c = tested_is_skolem
