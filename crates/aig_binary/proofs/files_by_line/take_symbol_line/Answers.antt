use Rattle.std.proofs.Common.{rules, ◌≡◌, ◌+◌, true, false, refl, arith}
use Rattle.dq_text.specs.BlankLine.{is_blank_line}
use Rattle.aiger_text.specs.Lines.{begins_comment}
use Rattle.aig_binary.specs.declared.files_by_line.AigLines.{AigLines}
use Rattle.aig_binary.specs.declared.files_by_line.Place.TheVariants.{Comment}
use Rattle.aig_binary.proofs.LinesTaken.{blank_read, mark_read, name_read, symbol_stops}
use Rattle.aig_binary.proofs.files_by_line.take_symbol_line.Goals as goal

pub returns-then-is_blank-clause-line : goal.returns-then-is_blank-clause-line
returns-then-is_blank-clause-line c = search (arith, blank_read)

pub returns-then-is_comment_mark-clause-line : goal.returns-then-is_comment_mark-clause-line
returns-then-is_comment_mark-clause-line c =
    let old = c.args.lines.now in
    let new : AigLines = record {
      reader = old.reader;
      circuit = old.circuit;
      pending = old.pending;
      number = c.in-Some.next;
      place = Comment;
    } in
    let number : c.in-Some.next ≡ old.number + 1 = search rules in
    let other : is_blank_line c.args.text.now ≡ false = search rules in
    let mark : begins_comment c.args.text.now ≡ true = search rules in
    mark_read old new c.args.text.now c.requires.place refl refl number refl refl other mark

pub returns-in-Ok-clause-line : goal.returns-in-Ok-clause-line
returns-in-Ok-clause-line c = search (arith, name_read)

pub returns-in-Err-clause-line : goal.returns-in-Err-clause-line
returns-in-Err-clause-line c = search (arith, symbol_stops)
