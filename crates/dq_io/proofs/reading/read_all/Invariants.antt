use Rattle.std.proofs.Common.{◌≡◌, ◌≤◌, ◌-◌, length}
use Rattle.std.specs.Io.KnownBytes.{prepend_known}
use Rattle.dq_io.specs.Causes.{next_count}
use Rattle.dq_io.specs.Files.{whole}
use Rattle.dq_io.proofs.reading.read_all.Given as goal

abbrev pub invariant-loop-bytes : goal.invariant-loop-bytes
invariant-loop-bytes g l = record {
  given : g.F.Files.given l.files ≡ length l.bytes.items;
  within : length l.bytes.items ≤ l.limit;
  told : prepend_known l.bytes.items (g.F.Files.rest l.files) ≡ whole (g.F.Files.held l.fn.files l.name);
  unfaulted : g.F.Files.faults l.files ≡ g.F.Files.faults l.fn.files;
  held : g.F.Files.held l.files ≡ g.F.Files.held l.fn.files;
  picked : g.F.Files.picks l.files ≡ next_count (g.F.Files.picks l.fn.files);
  still_reliable : g.F.Files.reliable l.files ≡ g.F.Files.reliable l.fn.files;
  buffer : length l.buffer.items ≡ 65536;
}

abbrev pub decreases-loop-bytes : goal.decreases-loop-bytes
decreases-loop-bytes g l = l.limit - length l.bytes.items
