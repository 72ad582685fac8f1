use Rattle.std.proofs.Common.{◌≢◌, ℕ, arith}
use Rattle.std.proofs.lemmas.List.Elements.{All-nil}
use Rattle.cert_judge.proofs.Pieces.{line_back}
use Rattle.cert_judge.proofs.streams.take_piece.Goals as goal

abbrev NoFeed : ℕ → Type 0
NoFeed byte = byte ≢ 10

pub loop-line-preserved : goal.loop-line-preserved
loop-line-preserved c = search (arith, line_back, All-nil)

pub returns-clause-gives : goal.returns-clause-gives
returns-clause-gives c = search arith
