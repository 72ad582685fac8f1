use Rattle.std.specs.List.{All}
use Rattle.oracle.specs.Calls.{IsMade}
use Rattle.engine_cases.proofs.numbers.groups_at.Given as goal

abbrev pub invariant-loop-number : goal.invariant-loop-number
invariant-loop-number l = All (IsMade l.log.entries) l.groups.items
