use Rattle.std.proofs.Common.{arith}
use Rattle.cert_export.specs.Parts.{part_of}
use Rattle.cert_export.proofs.ExportableCircuits.{small_part}
use Rattle.cert_export.proofs.circuits.export_ids.Goals as goal

pub invariant_of-numbers : goal.invariant_of-numbers
invariant_of-numbers c = search (arith, small_part)

pub proof_items-requires-clause-ids : goal.proof_items-requires-clause-ids
proof_items-requires-clause-ids c = search (arith, small_part)

pub circuit_file-requires : goal.circuit_file-requires
circuit_file-requires c = search (arith, small_part)

pub returns : goal.returns
returns c = record {
  part = part_of c.in_ok-part.part;
  from = record {
    decided = c.requires;
    part = c.in_ok-part.ensures.part;
    small = small_part c.args.f.now c.in_ok-part.part.gates c.requires.well_formed.prefix c.requires.few_variables
        c.requires.few_clauses (omega (arith, c.len.ensures.value, c.if-len-gt-MOST.false));
    few_literals = c.in_ok-before.ensures.few;
  };
  few_gates = c.in_ok-part.ensures.few;
  order = c.in_ok-part.ensures.order;
  written = c.in_ok-file.ensures;
  lines = c.in_ok-items.ensures;
}
