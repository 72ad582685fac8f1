use Rattle.std.proofs.Common.{◌≡◌, map, take, nat_abs}
use Rattle.cert_text.proofs.step_lines.keep_hints.Given as goal

abbrev pub invariant-loop-n : goal.invariant-loop-n
invariant-loop-n l = l.hints.items ≡ map nat_abs (take l.n-index l.numbers)
