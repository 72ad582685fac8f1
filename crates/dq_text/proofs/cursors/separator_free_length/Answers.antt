use Rattle.std.proofs.Common.{length, ◌∙◌, ap}
use Rattle.std.specs.Option.{unwrap_or}
use Rattle.dq_text.proofs.TokenCuts.{unwrap_position}
use Rattle.dq_text.proofs.cursors.separator_free_length.Goals as goal

pub returns : goal.returns
returns c =
    let bytes = c.args.bytes.now in
    c.unwrap_or.ensures ∙ ap (λ found. unwrap_or found (length bytes)) c.first_separator.ensures ∙ unwrap_position bytes
