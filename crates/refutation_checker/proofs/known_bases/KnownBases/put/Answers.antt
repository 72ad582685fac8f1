use Rattle.std.proofs.Common.{arith}
use Rattle.refutation_checker.proofs.KnownBases.{put_kept, same_then_new}
use Rattle.refutation_checker.proofs.known_bases.KnownBases.put.Goals as goal

pub returns-clause-kept : goal.returns-clause-kept
returns-clause-kept c = search (arith, same_then_new, put_kept)
