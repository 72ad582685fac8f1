use Rattle.std.proofs.Common.{◌≡◌, map, take}
use Rattle.dq_lits.specs.Literal.{dimacs_literal}
use Rattle.cert_text.proofs.step_lines.keep_literals.Given as goal

abbrev pub invariant-loop-n : goal.invariant-loop-n
invariant-loop-n l = l.literals.items ≡ map dimacs_literal (take l.n-index l.numbers)
