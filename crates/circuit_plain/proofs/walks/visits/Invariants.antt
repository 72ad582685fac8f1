use Rattle.std.proofs.Common.{◌<◌}
use Rattle.std.specs.Prelude.{All}
use Rattle.circuit_plain.specs.Steps.{task_place}
use Rattle.circuit_plain.proofs.walks.visits.Given as goal

abbrev pub invariant-loop-place : goal.invariant-loop-place
invariant-loop-place l = All (λ task. task_place task < l.n) l.tasks.items
