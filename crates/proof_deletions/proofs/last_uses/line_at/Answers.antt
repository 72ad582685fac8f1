use Rattle.std.proofs.Common.{◌∙◌, Some, ap, arith}
use Rattle.cert_text.specs.Items.{item_seen}
use Rattle.cert_text.specs.Steps.{step_seen}
use Rattle.proof_deletions.proofs.NumberedLines.{line_there, no_deletion_there}
use Rattle.proof_deletions.proofs.last_uses.line_at.Goals as goal

pub unreachable-requires : goal.unreachable-requires
unreachable-requires c = search (arith, no_deletion_there)

pub returns : goal.returns
returns c = line_there c.args.lines.now c.args.place (step_seen c.in-Line.step) c.requires.lines
    (c.get.ensures ∙ ap (λ item. Some (item_seen item)) c.in-Line.is)
