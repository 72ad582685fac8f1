use Rattle.std.proofs.Common.{sym, ◌∙◌}
use Rattle.std.proofs.lemmas.Option.{IfSome_then}
use Rattle.dq_text.proofs.EndedNumbers.{whole_number}
use Rattle.dq_text.proofs.token_pieces.plain_number.Goals as goal

pub returns-then-is_outside_comments : goal.returns-then-is_outside_comments
returns-then-is_outside_comments c =
    IfSome_then c.ended_number.result c.ended_number.ensures
    (λ found ends. whole_number c.args.pieces.now c.args.bytes.now found.1.now found.0
    (sym c.is_begun.ensures ∙ c.if-is_begun.false) (c.is_outside_comments.ensures c.if-is_outside_comments.true) ends)
