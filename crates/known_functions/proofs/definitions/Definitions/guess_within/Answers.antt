use Rattle.std.proofs.Common.{arith}
use Rattle.std.proofs.lemmas.Bool.{eqb-true}
use Rattle.known_functions.proofs.Defined.{found_within, grew_within}
use Rattle.known_functions.proofs.definitions.Definitions.guess_within.Goals as goal

pub set_limit-requires-2 : goal.set_limit-requires-2
set_limit-requires-2 g c = search arith

pub returns-clause-guess : goal.returns-clause-guess
returns-clause-guess g c e known = search (arith, found_within)

pub returns-clause-limit : goal.returns-clause-limit
returns-clause-limit g c is = search (arith, eqb-true)

pub returns-clause-asked : goal.returns-clause-asked
returns-clause-asked g c = search (arith, grew_within)
