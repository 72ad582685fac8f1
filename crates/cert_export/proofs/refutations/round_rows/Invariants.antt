use Rattle.std.proofs.Common.{◌≡◌, take}
use Rattle.cert_export.specs.Expansion.{rows_among}
use Rattle.cert_export.proofs.refutations.round_rows.Given as goal

abbrev pub invariant-loop-k : goal.invariant-loop-k
invariant-loop-k l = l.rows ≡ rows_among l.log.entries (take l.k-index l.rounds)
