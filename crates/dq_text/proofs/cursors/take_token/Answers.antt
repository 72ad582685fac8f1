use Rattle.std.proofs.Common.{◌+◌, drop, length, ◌∙◌, ap}
use Rattle.dq_text.specs.Token.{line_feeds}
use Rattle.dq_text.proofs.TokenCuts.{run-le, cut_parts, line_feeds-cut}
use Rattle.dq_text.proofs.cursors.take_token.Goals as goal

pub split_at-requires : goal.split_at-requires
split_at-requires c = rw c.separator_free_length.ensures (run-le c.args.cursor.now.rest.now)

pub returns-clause-token : goal.returns-clause-token
returns-clause-token c =
    let cursor = c.args.cursor.now in
    cut_parts cursor.place cursor.line cursor.at cursor.rest.now c.split_at.result.0.now c.split_at.result.1.now
    c.separator_free_length.result (length c.split_at.result.0.now) c.requires.at_token c.requires.not_at_end
    c.separator_free_length.ensures
    c.split_at.ensures.front c.split_at.ensures.back c.split_at.ensures.front_len

pub returns-clause-lines : goal.returns-clause-lines
returns-clause-lines c =
    let cursor = c.args.cursor.now in
    ap (λ rest. cursor.line + line_feeds rest)
    (c.split_at.ensures.back ∙ ap (λ n. drop n cursor.rest.now) c.separator_free_length.ensures)
    ∙ ap (λ n. cursor.line + n) (line_feeds-cut cursor.rest.now)
