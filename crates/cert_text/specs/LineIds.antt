-- Which ids may be deleted, by a mark for each line that was read.
use Rattle.std.specs.Prelude.{ℕ, ◌+◌, ◌-◌, nat_le, Bool, false, ◌&&◌, List, length, slice_index_or}
use Rattle.cert_text.specs.Numbering.{Numbering}
use Rattle.cert_text.specs.declared.line_ids.LineIds.{LineIds}

-- the line with the id has a mark, where the first line has this one
abbrev pub is_marked : ℕ → List Bool → ℕ → Bool
is_marked first marks id = nat_le first id && slice_index_or marks (id - first) false

abbrev pub numbering_by : ℕ → List Bool → Numbering
numbering_by first marks = record { next = first + length marks; live = is_marked first marks }

abbrev pub numbering : LineIds → Numbering
numbering l = numbering_by l.first l.live
