use Rattle.std.proofs.Common.{arith}
use Rattle.circuit_cnf.proofs.PrefixPlaces.{round_is}
use Rattle.circuit_cnf.proofs.failures.value.Goals as goal

pub returns-in-Some-default : goal.returns-in-Some-default
returns-in-Some-default c = search (arith, round_is)

pub returns-in-None-Some : goal.returns-in-None-Some
returns-in-None-Some c = search (arith, round_is)

pub returns-in-None-None : goal.returns-in-None-None
returns-in-None-None c = search (arith, round_is)
