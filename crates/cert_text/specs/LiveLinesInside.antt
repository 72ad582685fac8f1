-- How the marks of lines are kept: in blocks, with how many there are.
use Rattle.std.specs.Prelude.{◌≤◌, ◌*◌, Bool, List, length}
use Rattle.std.specs.List.{All}
use Rattle.cert_text.specs.Marks.{IsBlock, mark_among, marks_below}
use Rattle.cert_text.specs.declared.live_lines.LiveLines.TheInside.{Inside}
use Rattle.cert_text.specs.declared.live_lines.TheConstants.{BLOCK}

abbrev pub marks_in : Inside → List Bool
marks_in l = marks_below l.count (mark_among l.blocks.items)

pub record AreMarks (l : Inside) : Type 0 where
  pub blocks : All IsBlock l.blocks.items
  pub within : l.count ≤ length l.blocks.items * BLOCK
