use Rattle.std.proofs.Common.{rules, ◌≡◌, Err, sym, subst}
use Rattle.dq_text.specs.Line.{lines_from}
use Rattle.cert_text.specs.DefinitionText.{read_definition}
use Rattle.cert_text.specs.DefinitionsRead.{IsPartRead, definition_seen}
use Rattle.cert_text.proofs.DefinitionBodies.{steps_stop}
use Rattle.cert_text.proofs.definition_reader.read_definition.Goals as goal

pub returns-in_err-steps : goal.returns-in_err-steps
returns-in_err-steps c =
    let stop = c.in_err-steps.field-0.0 in
    let same : c.from_residual-in_err-steps.result ≡ Err stop = search rules in
    subst (λ r. IsPartRead definition_seen (read_definition c.args.f.now c.args.y c.args.head
    (lines_from c.args.lines.now.number c.args.lines.now.rest) c.args.lines.now.number) r c.read_steps.new.lines)
    (sym same)
    (steps_stop c.args.f.now c.args.y c.args.head c.args.lines.now c.read_gates.new.lines c.in_ok-gates.gates.items
    c.in_ok-gates.ensures c.vars.result c.first_definition_id-first.result c.vars.ensures.value
    c.first_definition_id-first.ensures.id stop c.read_steps.new.lines c.in_err-steps.ensures)
