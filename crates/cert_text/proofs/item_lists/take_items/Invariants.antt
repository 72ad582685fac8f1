use Rattle.std.proofs.Common.{◌≡◌, ◌-◌}
use Rattle.cert_text.specs.ItemLine.{item_lines}
use Rattle.cert_text.specs.LineIds.{numbering}
use Rattle.cert_text.specs.Lines.{put_behind, read_from}
use Rattle.cert_text.specs.Variables.{is_variable}
use Rattle.cert_text.proofs.item_lists.take_items.Given as goal

-- what is to be read from here, behind what was read, is what is to be read in all
abbrev pub invariant-loop-k : goal.invariant-loop-k
invariant-loop-k l = record {
  first : l.ids.first ≡ l.fn.ids.first;
  read : put_behind l.fn.items (read_from (item_lines l.announced.lines.version
      (is_variable l.announced.lines.variables)) (numbering l.fn.ids) l.announced.count l.fn.lines)
      ≡ put_behind l.items (read_from (item_lines l.announced.lines.version (is_variable l.announced.lines.variables))
      (numbering l.ids) (l.announced.count - l.k) l.lines);
}
