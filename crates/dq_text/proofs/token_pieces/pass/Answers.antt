use Rattle.std.proofs.Common.{◌∙◌, ap}
use Rattle.dq_text.specs.Token.{place_after, line_after}
use Rattle.dq_text.specs.declared.token_pieces.TokenPieces.{TokenPieces}
use Rattle.dq_text.proofs.SkippedBytes.{passed}
use Rattle.dq_text.proofs.token_pieces.pass.Goals as goal

pub returns-clause-skips : goal.returns-clause-skips
returns-clause-skips c =
    let old = c.args.pieces.now in
    let new : TokenPieces = record {
      token = old.token;
      place = c.next_place-pieces.result;
      line =
          c.in_ok-pieces.field-0;
    } in
    passed old new c.args.byte c.args.behind.now c.to_comment_end.result.now c.requires.fresh c.requires.fresh
    c.requires.between
    (c.next_place-pieces.ensures ∙ ap (λ kind. place_after kind old.place) c.byte_kind-kind.ensures)
    (c.in_ok-pieces.ensures ∙ ap (λ kind. line_after kind old.line) c.byte_kind-kind.ensures)
    c.to_comment_end.ensures.shorter c.to_comment_end.ensures.end
