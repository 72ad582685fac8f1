use Rattle.std.proofs.Common.{◌≡◌, ◌∷◌, sym, subst, arith}
use Rattle.dq_text.specs.Pieces.{Skips}
use Rattle.dq_text.proofs.SkippedBytes.{blank_passed}
use Rattle.dq_text.proofs.token_pieces.is_plain_blank.Goals as goal

pub returns : goal.returns
returns c = λ outside behind.
    let pieces = c.args.pieces.now in
    let space : c.args.byte ≡ 32 = omega (arith, c.if-byte-ne32.false) in
    subst (λ byte. Skips pieces pieces (byte ∷ behind) behind) (sym space)
    (blank_passed pieces behind c.requires (c.is_outside_comments.ensures outside))
