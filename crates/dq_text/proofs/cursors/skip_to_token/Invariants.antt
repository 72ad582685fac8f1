use Rattle.std.proofs.Common.{◌≡◌, length}
use Rattle.dq_text.specs.Cursor.{tokens_left, last_line, CanCount}
use Rattle.dq_text.proofs.cursors.skip_to_token.Given as goal

abbrev pub invariant-loop-byte : goal.invariant-loop-byte
invariant-loop-byte l = record {
  counts : CanCount l.cursor;
  tokens : tokens_left l.cursor ≡ tokens_left l.initial.cursor;
  lines : last_line l.cursor ≡ last_line l.initial.cursor;
}

abbrev pub decreases-loop-byte : goal.decreases-loop-byte
decreases-loop-byte l = length l.cursor.rest.now
