use Rattle.std.specs.List.{All}
use Rattle.oracle.specs.Calls.{IsPlain}
use Rattle.engine_cases.proofs.numbers.plain_lits.Given as goal

abbrev pub invariant-loop-number : goal.invariant-loop-number
invariant-loop-number l = All (IsPlain l.log.entries) l.lits.items
