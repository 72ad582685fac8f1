use Rattle.std.proofs.Common.{◌+◌, refl}
use Rattle.dq_text.specs.declared.cursors.LinePlace.TheVariants.{LineStart}
use Rattle.dq_text.proofs.SkippedBytes.{feed_passed}
use Rattle.dq_text.proofs.token_pieces.pass_feed.Goals as goal

pub returns-clause-skips : goal.returns-clause-skips
returns-clause-skips c = λ behind.
    let old = c.args.pieces.now in
    feed_passed old (record { token = old.token; place = LineStart; line = old.line + 1 }) behind c.requires refl refl
    refl
