use Rattle.std.proofs.Common.{◌≡◌, ◌<◌, ℕ, length}
use Rattle.std.specs.Prelude.{slice_index}
use Rattle.skolem_checker.specs.Tables.{IsKeptElsewhere}
use Rattle.skolem_checker.proofs.tables.write_at.Given as goal

abbrev pub invariant-loop-i : goal.invariant-loop-i
invariant-loop-i l = record {
  same_length : length l.table.items ≡ length l.initial.table.items;
  written : (j : ℕ) → j < l.i → slice_index l.table.items (slice_index l.keys j) ≡ slice_index l.values j;
  elsewhere : IsKeptElsewhere l.initial.table.items l.table.items l.keys;
}
