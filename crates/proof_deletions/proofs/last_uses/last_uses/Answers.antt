use Rattle.std.proofs.Common.{length, take, subst, sym}
use Rattle.proof_deletions.specs.Deletions.{lines_of}
use Rattle.proof_deletions.specs.LastUses.{AreLastUses, AreNoted}
use Rattle.cert_text.specs.Steps.{step_seen}
use Rattle.proof_deletions.proofs.SpentIds.{noted_next}
use Rattle.proof_deletions.proofs.NumberedLines.{first_lines}
use Rattle.proof_deletions.proofs.last_uses.last_uses.Goals as goal

pub loop-place-preserved : goal.loop-place-preserved
loop-place-preserved c =
    let steps = lines_of c.args.lines.now in
    let place = c.loop-place.place in
    let step = step_seen c.line_at.result in
    let cut = first_lines steps place step c.line_at.ensures in
    subst (λ ss. AreLastUses c.args.first ss (length c.args.lines.now) c.note_hints.new.table.items) (sym cut.1)
    (noted_next c.args.first (length c.args.lines.now) (take place steps) step c.loop-place.table.items
    c.note_hints.new.table.items c.loop-place.invariant
    (subst (λ p. AreNoted c.args.first p step.hints c.loop-place.table.items c.note_hints.new.table.items) (sym cut.0)
    c.note_hints.ensures))
