use Rattle.std.proofs.Common.{◌++◌, ◌∷◌, List, w64, sym, ◌∙◌, ap, subst}
use Rattle.std.proofs.lemmas.Int.{to_z-of_z}
use Rattle.dq_text.specs.Pieces.{SummarizedToken, last_line_to_come, tokens_behind, line_behind}
use Rattle.dq_text.specs.Summary.{summary_of}
use Rattle.dq_text.specs.declared.cursors.LinePlace.TheVariants.{InLine}
use Rattle.dq_text.specs.declared.numbers.Number.TheVariants.{Int}
use Rattle.dq_text.proofs.PiecedTokens.{whole_token_to_come, whole_token_line}
use Rattle.dq_text.proofs.token_pieces.TokenPieces.take_number.Goals as goal

pub returns-clause-given : goal.returns-clause-given
returns-clause-given g c = λ bytes answer h.
    let pieces = c.args.self.now in
    let whole = c.requires.token in
    let rest = c.args.rest.now in
    let text = c.requires.text in
    let behind = c.args.behind.now in
    let left = tokens_behind pieces.token InLine pieces.line (behind ++ bytes) in
    let tokens : List SummarizedToken = record { summary = summary_of text; line = pieces.line } ∷ left in
    subst (λ ts. g.T.TakesTokens.gives c.args.taker.now ts (last_line_to_come pieces (rest ++ bytes)) answer)
    (sym (whole_token_to_come pieces rest text behind bytes whole))
    (subst (λ last. g.T.TakesTokens.gives c.args.taker.now tokens last answer)
    (sym (whole_token_line pieces rest text behind bytes whole))
    (c.in_ok-number.ensures text left (line_behind pieces.line (behind ++ bytes)) answer
    (c.requires.number ∙ ap Int (sym (to_z-of_z w64 c.args.number c.ranges.number))) h))
