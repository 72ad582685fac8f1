use Rattle.std.proofs.Common.{◌≡◌, false, length}
use Rattle.dq_text.specs.Pieces.{Skips}
use Rattle.dq_text.specs.Summary.{is_begun}
use Rattle.dq_text.proofs.token_pieces.skip_between.Given as goal

abbrev pub invariant-loop-byte : goal.invariant-loop-byte
invariant-loop-byte l = record {
  fresh : is_begun l.pieces.token.head ≡ false;
  skips : Skips l.fn.pieces l.pieces l.bytes l.rest;
}

abbrev pub decreases-loop-byte : goal.decreases-loop-byte
decreases-loop-byte l = length l.rest
