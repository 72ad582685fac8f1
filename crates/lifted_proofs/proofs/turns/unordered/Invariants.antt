use Rattle.lifted_proofs.specs.Turns.{TurnAll}
use Rattle.lifted_proofs.proofs.turns.unordered.Given as goal

abbrev pub invariant-loop-goal : goal.invariant-loop-goal
invariant-loop-goal l = TurnAll l.goals l.goal l.turns.items
