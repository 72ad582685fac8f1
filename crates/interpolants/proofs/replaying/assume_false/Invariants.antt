use Rattle.std.proofs.Common.{take, map}
use Rattle.dq_lits.specs.Literal.{opposite}
use Rattle.interpolants.proofs.replaying.assume_false.Given as goal
use Rattle.dq_lits.specs.Derivation.{AreSame}

abbrev pub invariant-loop-l : goal.invariant-loop-l
invariant-loop-l l = AreSame l.trues (map opposite (take l.l-index l.clause))
