use Rattle.std.proofs.Common.{◌≡◌}
use Rattle.std.specs.List.{filter, range_with_len}
use Rattle.cert_export.specs.Expansion.{has_instance}
use Rattle.cert_export.proofs.rounds.used_rounds.Given as goal

abbrev pub invariant-loop-k : goal.invariant-loop-k
invariant-loop-k l = l.rounds.items ≡ filter (has_instance l.log.entries l.ids) (range_with_len 1 l.k)
