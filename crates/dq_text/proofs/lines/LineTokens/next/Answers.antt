use Rattle.std.proofs.Common.{sym, ◌∙◌}
use Rattle.dq_text.proofs.TokenCuts.{run-le, line_cut_parts, not_empty}
use Rattle.dq_text.proofs.lines.LineTokens.next.Goals as goal

pub split_at-requires : goal.split_at-requires
split_at-requires c = rw c.separator_free_length.ensures (run-le c.skip_separators-rest.result.now)

pub returns-clause-token : goal.returns-clause-token
returns-clause-token c =
    let rest = c.skip_separators-rest.result.now in
    sym c.self.view_is
    ∙ sym c.skip_separators-rest.ensures.same
    ∙ line_cut_parts rest c.split_at.result.0.now c.split_at.result.1.now c.separator_free_length.result
    (c.skip_separators-rest.ensures.at_token (not_empty rest c.if-is_empty.ensures))
    c.separator_free_length.ensures c.split_at.ensures.front c.split_at.ensures.back
