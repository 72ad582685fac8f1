use Rattle.std.proofs.Common.{◌+◌, ◌*◌, arith}
use Rattle.cert_export.specs.Names.{renaming}
use Rattle.definition_export.proofs.ExportableDefinitions.{can_be_written, steps_or_memory}
use Rattle.definition_export.proofs.blocks.block_steps.Goals as goal

pub write_lines-requires-clause-can : goal.write_lines-requires-clause-can
write_lines-requires-clause-can c =
    can_be_written c.args.numbers.now.f.now c.args.numbers.now.log.now.entries c.args.id c.args.ids.now c.args.y
    c.args.leaf.now c.args.numbers.now.gates.now c.requires (renaming c.in_ok-names.names) c.in_ok-names.ensures

pub returns : goal.returns
returns c =
    let clauses = c.clauses.ensures.value in
    let gates = c.len.ensures.value in
    steps_or_memory c.args.numbers.now.f.now c.args.numbers.now.log.now.entries c.args.ids.now
    c.args.numbers.now.gates.now (renaming c.in_ok-names.names) (c.clauses.result + 3 * c.len.result + 2)
    c.write_lines.result c.in_ok-names.ensures (omega (arith, clauses, gates)) c.write_lines.ensures.lines
