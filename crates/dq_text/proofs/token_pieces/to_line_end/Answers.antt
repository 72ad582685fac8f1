use Rattle.dq_text.proofs.SkippedBytes.{line_cut}
use Rattle.dq_text.proofs.token_pieces.to_line_end.Goals as goal

pub returns-clause-end : goal.returns-clause-end
returns-clause-end c =
    line_cut c.args.bytes.now c.cut_line.result.0.now c.cut_line.result.1.now c.cut_line.ensures.first
