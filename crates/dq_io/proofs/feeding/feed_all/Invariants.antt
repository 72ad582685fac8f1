use Rattle.std.proofs.Common.{◌≡◌, ◌≤◌, ◌<◌, ◌-◌, ◌++◌, ℕ, List, length}
use Rattle.std.specs.Io.KnownBytes.{prepend_known}
use Rattle.dq_io.specs.Causes.{next_count}
use Rattle.dq_io.specs.Files.{whole}
use Rattle.dq_io.proofs.feeding.feed_all.Given as goal

abbrev pub invariant-loop-count : goal.invariant-loop-count
invariant-loop-count g l = record {
  fed : List ℕ;
  stands : (text : List ℕ) → g.T.Feed.stands l.fn.to text → g.T.Feed.stands l.to (text ++ fed);
  subject : g.T.Feed.subject l.to ≡ g.T.Feed.subject l.fn.to;
  count : length fed ≡ l.given;
  given : g.F.Files.given l.files ≡ l.given;
  within : l.given ≤ l.limit;
  told : prepend_known fed (g.F.Files.rest l.files) ≡ whole (g.F.Files.held l.fn.files l.name);
  unfaulted : g.F.Files.faults l.files ≡ g.F.Files.faults l.fn.files;
  held : g.F.Files.held l.files ≡ g.F.Files.held l.fn.files;
  picked : g.F.Files.picks l.files ≡ next_count (g.F.Files.picks l.fn.files);
  still_reliable : g.F.Files.reliable l.files ≡ g.F.Files.reliable l.fn.files;
  buffer : 0 < length l.buffer;
}

abbrev pub decreases-loop-count : goal.decreases-loop-count
decreases-loop-count g l = l.limit - l.given
