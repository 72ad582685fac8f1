use Rattle.std.proofs.Common.{take}
use Rattle.interpolants.specs.Sides.{AreSelectors}
use Rattle.interpolants.proofs.sides.fill_selectors.Given as goal

abbrev pub invariant-loop-l : goal.invariant-loop-l
invariant-loop-l l = AreSelectors l.log.entries (take l.l-index l.lits) l.set
