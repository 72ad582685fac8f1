use Rattle.std.proofs.Common.{None, Ok, ap, subst, ◌∙◌}
use Rattle.aiger_text.specs.ReaderState.{body_of}
use Rattle.aiger_text.specs.Steps.{TakesAnyLine}
use Rattle.aiger_text.proofs.CircuitSteps.{mark_taken}
use Rattle.aiger_text.proofs.circuits_by_line.take_behind.Goals as goal

pub returns-in_ok-check_file-in-Ok-CommentMark-clause-line : goal.returns-in_ok-check_file-in-Ok-CommentMark-clause-line
returns-in_ok-check_file-in-Ok-CommentMark-clause-line c =
    let old = body_of c.args.reader.now in
    let new = body_of c.take_line.new.reader in
    let text = c.args.text.now in
    mark_taken old new c.args.number text
    (subst (λ r. TakesAnyLine old text r new) (c.in-Ok-CommentMark.is ∙ ap Ok c.in-Ok-CommentMark.field-0-is)
    c.take_line.ensures.line) (c.in_ok-check_file-in-Ok-CommentMark.ensures None)
