use Rattle.std.proofs.Common.{◌≡◌, ◌++◌, length}
use Rattle.std.specs.List.{flat_map}
use Rattle.cert_text.specs.Canonical.{row_text}
use Rattle.cert_text.proofs.writer.write_rows.Given as goal

abbrev pub invariant-loop-first : goal.invariant-loop-first
invariant-loop-first l = l.text.items ++ flat_map (row_text l.universals) l.rest ≡ l.fn.text.items ++ flat_map
    (row_text l.universals) l.rows

abbrev pub decreases-loop-first : goal.decreases-loop-first
decreases-loop-first l = length l.rest
