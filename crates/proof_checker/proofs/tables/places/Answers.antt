use Rattle.std.proofs.Common.{arith}
use Rattle.std.proofs.lemmas.List.{get_or_default}
use Rattle.proof_checker.proofs.KeptLiterals.{new_here}
use Rattle.proof_checker.proofs.tables.places.Goals as goal

pub push-requires : goal.push-requires
push-requires c = search (arith, new_here, get_or_default)
