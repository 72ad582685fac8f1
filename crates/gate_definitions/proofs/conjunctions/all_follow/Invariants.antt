use Rattle.std.proofs.Common.{◌∷◌, [], take, All}
use Rattle.gate_definitions.specs.Stating.{Implies}
use Rattle.gate_definitions.proofs.conjunctions.all_follow.Given as goal

abbrev pub invariant-loop-k : goal.invariant-loop-k
invariant-loop-k l = All (Implies l.f (l.l ∷ [])) (take l.k-index l.cube)
