use Rattle.std.proofs.Common.{◌++◌, ◌∷◌, List, sym, subst}
use Rattle.dq_text.specs.Pieces.{SummarizedToken, last_line_to_come, tokens_behind, line_behind}
use Rattle.dq_text.specs.Summary.{summary_of}
use Rattle.dq_text.specs.declared.cursors.LinePlace.TheVariants.{InLine}
use Rattle.dq_text.proofs.PiecedTokens.{whole_token_to_come, whole_token_line}
use Rattle.dq_text.proofs.token_pieces.TokenPieces.take.Goals as goal

pub returns-in_ok-token-in-Some-clause-given : goal.returns-in_ok-token-in-Some-clause-given
returns-in_ok-token-in-Some-clause-given g c = λ bytes answer h.
    let pieces = c.args.self.now in
    let whole = c.in-Some.ensures in
    let rest = c.args.rest.now in
    let text = c.in-Some.text.now in
    let behind = c.in-Some.behind.now in
    let left = tokens_behind pieces.token InLine pieces.line (behind ++ bytes) in
    let tokens : List SummarizedToken = record { summary = summary_of text; line = pieces.line } ∷ left in
    subst (λ ts. g.T.TakesTokens.gives c.args.taker.now ts (last_line_to_come pieces (rest ++ bytes)) answer)
    (sym (whole_token_to_come pieces rest text behind bytes whole))
    (subst (λ last. g.T.TakesTokens.gives c.args.taker.now tokens last answer)
    (sym (whole_token_line pieces rest text behind bytes whole))
    (c.in_ok-token-in-Some.ensures left (line_behind pieces.line (behind ++ bytes)) answer h))
