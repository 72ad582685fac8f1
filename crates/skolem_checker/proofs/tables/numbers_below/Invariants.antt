use Rattle.skolem_checker.specs.Tables.{AreNumbers}
use Rattle.skolem_checker.proofs.tables.numbers_below.Given as goal

abbrev pub invariant-loop-i : goal.invariant-loop-i
invariant-loop-i l = AreNumbers l.numbers.items l.i
