use Rattle.known_functions.specs.Guessing.{AreConditions}
use Rattle.known_functions.proofs.lawful_conditions.lawful_conditions.Given as goal

abbrev pub invariant-loop-l : goal.invariant-loop-l
invariant-loop-l l = AreConditions l.f l.y l.lawful.items
