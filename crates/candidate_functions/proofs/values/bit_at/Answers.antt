use Rattle.std.proofs.Common.{arith}
use Rattle.std.proofs.lemmas.List.{get_or_past}
use Rattle.std.proofs.lemmas.Bool.Decides.{nat_tests}
use Rattle.std.proofs.lemmas.Option.{get_or_from_slice_get}
use Rattle.candidate_functions.proofs.values.bit_at.Goals as goal

pub returns-else-place-len : goal.returns-else-place-len
returns-else-place-len c = search (arith, nat_tests, get_or_from_slice_get, get_or_past)
