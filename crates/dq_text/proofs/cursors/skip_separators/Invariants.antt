use Rattle.std.proofs.Common.{◌≡◌, length}
use Rattle.dq_text.specs.Line.{line_tokens}
use Rattle.dq_text.proofs.cursors.skip_separators.Given as goal

abbrev pub invariant-loop-byte : goal.invariant-loop-byte
invariant-loop-byte l = line_tokens l.rest ≡ line_tokens l.bytes

abbrev pub decreases-loop-byte : goal.decreases-loop-byte
decreases-loop-byte l = length l.rest
