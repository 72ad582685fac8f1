use Rattle.std.proofs.Common.{◌++◌, ℕ, List, length}
use Rattle.dq_text.specs.Pieces.{tokens_to_come, last_line_to_come}
use Rattle.dq_text.proofs.token_pieces.TokenPieces.feed.Given as goal

abbrev pub invariant-loop-rest : goal.invariant-loop-rest
invariant-loop-rest g l =
    (bytes : List ℕ) (answer : g.row.T-Answer.Denot) →
    g.T.TakesTokens.gives l.taker (tokens_to_come l.self (l.rest ++ bytes))
    (last_line_to_come l.self (l.rest ++ bytes)) answer →
    g.T.TakesTokens.gives l.fn.taker (tokens_to_come l.fn.self (l.piece ++ bytes))
    (last_line_to_come l.fn.self (l.piece ++ bytes)) answer

abbrev pub decreases-loop-rest : goal.decreases-loop-rest
decreases-loop-rest g l = length l.rest
