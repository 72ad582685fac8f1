use Rattle.std.proofs.Common.{◌≡◌, length}
use Rattle.definability.proofs.copies.any_literals.Given as goal

abbrev pub invariant-loop : goal.invariant-loop
invariant-loop l = length l.lits.items ≡ l.counter
