use Rattle.std.proofs.Common.{◌≡◌, ◌++◌, length}
use Rattle.std.specs.List.{flat_map}
use Rattle.dq_text.specs.Written.{number_text}
use Rattle.dq_text.proofs.numbers.push_all_spaced.Given as goal

abbrev pub invariant-loop-first : goal.invariant-loop-first
invariant-loop-first l = l.buf.items ++ flat_map number_text l.rest ≡ l.fn.buf.items ++ flat_map number_text l.numbers

abbrev pub decreases-loop-first : goal.decreases-loop-first
decreases-loop-first l = length l.rest
