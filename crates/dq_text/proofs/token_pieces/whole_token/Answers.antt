use Rattle.std.proofs.Common.{rules, ◌<◌, length, arith}
use Rattle.dq_text.proofs.TokenCuts.{run-le}
use Rattle.dq_text.proofs.WholeTokens.{cut_whole}
use Rattle.dq_text.proofs.token_pieces.whole_token.Goals as goal

pub split_at-requires : goal.split_at-requires
split_at-requires c = rw c.separator_free_length-length.ensures (run-le c.args.bytes.now)

pub returns : goal.returns
returns c =
    let bytes = c.args.bytes.now in
    let n = c.separator_free_length-length.result in
    let within = run-le bytes in
    let short : n < length bytes = search (arith, within) in
    cut_whole c.args.pieces.now bytes c.split_at.result.0.now c.split_at.result.1.now n
    (search rules) c.separator_free_length-length.ensures short c.split_at.ensures.front c.split_at.ensures.back
    c.split_at.ensures.front_len
