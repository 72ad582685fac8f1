use Rattle.std.proofs.Common.{◌≡◌, ◌-◌}
use Rattle.cert_text.specs.Lines.{put_behind, read_from}
use Rattle.cert_text.specs.Scan.{row_lines}
use Rattle.cert_text.proofs.row_lists.take_rows.Given as goal

-- what is to be read from here, behind what was read, is what is to be read in all
abbrev pub invariant-loop-k : goal.invariant-loop-k
invariant-loop-k l =
    put_behind l.fn.rows (read_from (row_lines l.universals.variables.now) tt l.count l.fn.lines)
    ≡ put_behind l.rows (read_from (row_lines l.universals.variables.now) tt (l.count - l.k) l.lines)
