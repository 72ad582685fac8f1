use Rattle.definability.specs.Conditions.{MeetsLiterals}
use Rattle.definability.proofs.conditions.bits_of.Given as goal

abbrev pub invariant-loop-l : goal.invariant-loop-l
invariant-loop-l l = MeetsLiterals l.f l.lits l.l-index l.row
