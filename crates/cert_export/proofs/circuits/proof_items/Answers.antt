use Rattle.std.proofs.Common.{◌+◌, ◌*◌, slice_index, arith}
use Rattle.cert_export.specs.Names.{renaming}
use Rattle.cert_export.specs.Parts.{part_of}
use Rattle.cert_export.proofs.ExportableCircuits.{given_named, can_be_written, last_is, last_small, are_proof_steps}
use Rattle.cert_export.proofs.circuits.proof_items.Goals as goal

pub given_names-requires-clause-known : goal.given_names-requires-clause-known
given_names-requires-clause-known c = search (arith, given_named)

pub invariant_of-base : goal.invariant_of-base
invariant_of-base c =
    let f = c.args.numbers.now.f.now in
    let entries = c.args.numbers.now.log.now.entries in
    let e = part_of c.args.numbers.now.part.now in
    let is = last_is f entries c.args.id c.args.ids.now e c.requires.ids c.len.result c.clauses.result c.args.before.now
    c.requires.lengths c.len.ensures.value c.clauses.ensures.value in
    record {
      lengths = c.requires.lengths;
      whole = is;
      few =
          omega (arith, is, last_small f entries c.args.id c.args.ids.now e c.requires.ids);
    }

pub write_lines-requires-clause-can : goal.write_lines-requires-clause-can
write_lines-requires-clause-can c =
    can_be_written c.args.numbers.now.f.now c.args.numbers.now.log.now.entries c.args.id c.args.ids.now
    (part_of c.args.numbers.now.part.now) c.requires.ids (renaming c.in_ok-names.names) c.in_ok-names.ensures

pub returns : goal.returns
returns c =
    let f = c.args.numbers.now.f.now in
    let entries = c.args.numbers.now.log.now.entries in
    let e = part_of c.args.numbers.now.part.now in
    let is = last_is f entries c.args.id c.args.ids.now e c.requires.ids c.len.result c.clauses.result c.args.before.now
    c.requires.lengths c.len.ensures.value c.clauses.ensures.value in
    let steps = c.in_ok-steps.steps in (
      steps,
      are_proof_steps f entries c.args.id c.args.ids.now e c.requires.ids (renaming c.in_ok-names.names)
          (3 * c.len.result + slice_index c.args.before.now c.clauses.result + 1) steps
          c.in_ok-names.ensures is c.in_ok-steps.ensures.lines,
      c.of_lines.ensures,
    )
