use Rattle.std.proofs.Common.{rules, ◌≡◌, false, Some, Ok, ap, sym, subst, ◌∙◌, arith}
use Rattle.aig_binary.specs.FilesByLine.{GoesOn, TakesBytes}
use Rattle.aig_binary.proofs.GateLines.{fed_gates, gates_stop, no_rest, rest_taken}
use Rattle.aig_binary.proofs.files_by_line.take_gate_line.Goals as goal

pub returns-then-not-begins_line-clause-line : goal.returns-then-not-begins_line-clause-line
returns-then-not-begins_line-clause-line c =
    let old = c.args.lines.now in
    let mid = c.take_bytes.new.lines in
    let text = c.args.text.now in
    let left = c.in-Ok-Some.left in
    let takes : TakesBytes old text (Ok (Some left)) mid =
    subst (λ r. TakesBytes old text r mid) (c.in-Ok-Some.is ∙ ap Ok c.in-Ok-Some.field-0-is) c.take_bytes.ensures.bytes in
    let no_line : c.begins_line.result ≡ false = search rules in
    let none = c.begins_line.ensures.none no_line in
    subst (λ e. GoesOn old text e mid) (sym none.0) (no_rest old mid text left takes none.1)

pub returns-else-not-begins_line-clause-line : goal.returns-else-not-begins_line-clause-line
returns-else-not-begins_line-clause-line c = search (arith, rest_taken)

pub returns-else-not-ended-clause-line : goal.returns-else-not-ended-clause-line
returns-else-not-ended-clause-line c = search (arith, fed_gates)

pub returns-in-Err-clause-line : goal.returns-in-Err-clause-line
returns-in-Err-clause-line c = search (arith, gates_stop)
