use Rattle.std.proofs.Common.{arith}
use Rattle.known_functions.proofs.Forced.{forced_then, may_force_on}
use Rattle.known_functions.proofs.definitions.Definitions.force_all.Goals as goal

pub force-requires-clause-may : goal.force-requires-clause-may
force-requires-clause-may g c = may_force_on _ _ _ _ _ _ c.requires.may c.loop-place.invariant.forced

pub returns-in_err-force-clause-forced : goal.returns-in_err-force-clause-forced
returns-in_err-force-clause-forced g c = search (arith, forced_then)

pub loop-place-preserved : goal.loop-place-preserved
loop-place-preserved g c = search (arith, forced_then)
