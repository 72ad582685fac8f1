use Rattle.std.proofs.Common.{◌≡◌, ◌++◌, drop}
use Rattle.dq_formula.proofs.existentials.insert_all.Given as goal

abbrev pub invariant-loop-number : goal.invariant-loop-number
invariant-loop-number l = l.numbers ++ drop l.number-index l.more ≡ l.initial.numbers ++ l.more
