use Rattle.std.proofs.Common.{Some, ◌∙◌, ap, arith}
use Rattle.cert_export.proofs.FileGates.{gate_is_named, gate_is_and, sides_named}
use Rattle.cert_export.proofs.netlists.file_gate.Goals as goal

pub number_or_zero-number-requires-clause-named : goal.number_or_zero-number-requires-clause-named
number_or_zero-number-requires-clause-named c = search (arith, gate_is_named)

pub name-requires : goal.name-requires
name-requires c = search (arith, gate_is_named)

pub code-requires-clause-named : goal.code-requires-clause-named
code-requires-clause-named c = search (arith, sides_named)

pub code-requires-in-And-clause-named : goal.code-requires-in-And-clause-named
code-requires-in-And-clause-named c = (sides_named c.args.log.now.entries c.args.v c.in-And.left c.in-And.right
    c.requires.can.logged (c.name.ensures ∙ ap Some c.in-And.is)).1

pub unreachable-requires : goal.unreachable-requires
unreachable-requires c = search (arith, gate_is_and)
