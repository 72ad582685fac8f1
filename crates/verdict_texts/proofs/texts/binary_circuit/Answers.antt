use Rattle.std.proofs.Common.{sym, subst}
use Rattle.proof_deletions.specs.Deletions.{AreNumberedLines}
use Rattle.verdict_texts.proofs.WrittenForms.{have_line_ids}
use Rattle.verdict_texts.proofs.texts.binary_circuit.Goals as goal

pub ordered_items-requires : goal.ordered_items-requires
ordered_items-requires c = have_line_ids c.args.proof.now.items c.requires.numbered

pub proof_text-requires : goal.proof_text-requires
proof_text-requires c = subst AreNumberedLines (sym c.in_ok-items.ensures)
    (c.ordered_lines_are_numbered.ensures c.args.file.now.circuit.gates c.args.proof.now.items c.requires.numbered)
