use Rattle.std.proofs.Common.{arith}
use Rattle.known_functions.proofs.Defined.{left_known}
use Rattle.known_functions.proofs.definitions.Definitions.read_stated.Goals as goal

pub returns-clause-known : goal.returns-clause-known
returns-clause-known c = search (arith, left_known)
