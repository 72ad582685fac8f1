use Rattle.std.proofs.Common.{take}
use Rattle.interpolants.proofs.literal_sets.LiteralSet.fill.Given as goal
use Rattle.dq_lits.specs.Derivation.{AreSame}

abbrev pub invariant-loop-l : goal.invariant-loop-l
invariant-loop-l l = AreSame l.self (take l.l-index l.lits)
