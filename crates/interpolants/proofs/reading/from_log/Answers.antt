use Rattle.std.proofs.Common.{arith}
use Rattle.interpolants.proofs.DerivedEntries.{each_derived}
use Rattle.interpolants.proofs.reading.from_log.Goals as goal

pub by_list-requires-clause-derived : goal.by_list-requires-clause-derived
by_list-requires-clause-derived c = search (arith, each_derived)
