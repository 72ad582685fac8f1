use Rattle.std.proofs.Common.{arith}
use Rattle.std.proofs.lemmas.Option.{slice_get_past}
use Rattle.dq_formula.proofs.ExistentialColumns.{set_there, columns_long}
use Rattle.dq_formula.proofs.Places.{place-found, place-absent}
use Rattle.dq_formula.proofs.existentials.Existentials.set_of.Goals as goal

pub returns-in-Some : goal.returns-in-Some
returns-in-Some c = search (arith, place-found, set_there)

pub returns-in-None : goal.returns-in-None
returns-in-None c = search (arith, place-absent, set_there, slice_get_past, columns_long)
