use Rattle.std.proofs.Common.{◌≡◌, ◌+◌, ◌-◌, ◌<◌, sym, ◌∙◌, ap, arith}
use Rattle.dq_text.specs.Line.{TextLine, lines_from}
use Rattle.dq_text.specs.TextLine.{text_line}
use Rattle.rup_core.specs.Items.{ProofItem}
use Rattle.cert_text.specs.ItemLine.{item_lines}
use Rattle.cert_text.specs.LineIds.{numbering}
use Rattle.cert_text.specs.Lines.{Format, put_behind, read_from}
use Rattle.cert_text.specs.Numbering.{Numbering}
use Rattle.cert_text.specs.ReadItem.{read_item}
use Rattle.cert_text.specs.Variables.{is_variable}
use Rattle.cert_text.proofs.ReadLines.{line_missing, line_at_fault, line_read, refused_at, stopped}
use Rattle.cert_text.proofs.ReadItems.{item_stop, has_line_id}
use Rattle.cert_text.proofs.item_lists.take_items.Goals as goal

pub returns-in_default : goal.returns-in_default
returns-in_default c = search (arith, refused_at, line_missing)

pub returns-in-Err : goal.returns-in-Err
returns-in-Err c =
    let F : Format Numbering ProofItem = item_lines c.args.announced.now.lines.version
    (is_variable c.args.announced.now.lines.variables) in
    let behind = c.next.new.self in
    let line : TextLine = text_line c.in-Some.line behind.rest in
    let more : c.loop-k.k < c.args.announced.now.count = omega (arith, c.loop-k-test.true) in
    let buffers = c.read_item.new.buffers in
    stopped _ line.number _ c.in-Err.stop c.at_line.result c.loop-k.items behind
    (item_stop _ c.in-Err.stop buffers.literals.items buffers.hints.items c.in-Err.ensures.item) c.at_line.ensures
    (λ name fault. c.loop-k.invariant.read
    ∙ line_at_fault F (numbering c.loop-k.ids) c.loop-k.k c.args.announced.now.count c.loop-k.items c.loop-k.lines line
    (lines_from behind.number behind.rest) name more
    c.in-Some.ensures.line fault)

pub loop-k-preserved : goal.loop-k-preserved
loop-k-preserved c =
    let F : Format Numbering ProofItem = item_lines c.args.announced.now.lines.version
    (is_variable c.args.announced.now.lines.variables) in
    let behind = c.next.new.self in
    let line : TextLine = text_line c.in-Some.line behind.rest in
    let more : c.loop-k.k < c.args.announced.now.count = omega (arith, c.loop-k-test.true) in
    let next : behind.number ≡ line.number + 1 = c.in-Some.ensures.next_number ∙ ap (λ n. n + 1)
    (sym c.in-Some.ensures.number) in
    let buffers = c.read_item.new.buffers in
    record {
      first = c.read_item.ensures.first ∙ c.loop-k.invariant.first;
      read =
          c.loop-k.invariant.read
          ∙ line_read F (numbering c.loop-k.ids) c.loop-k.k c.args.announced.now.count c.loop-k.items c.loop-k.lines
          behind line
          (read_item c.in-Ok.read buffers.literals.items buffers.hints.items) c.push_item.new.items more
          c.in-Some.ensures.line next c.in-Ok.ensures.item c.in_ok-push_item-in-Ok.ensures
          ∙ ap (λ n. put_behind c.push_item.new.items (read_from F n
          (c.args.announced.now.count - (c.loop-k.k + 1)) behind)) (sym c.in-Ok.ensures.numbering);
    }

pub push_item-requires : goal.push_item-requires
push_item-requires c = search (arith, has_line_id)
