use Rattle.std.proofs.Common.{◌≡◌, map, take}
use Rattle.std.specs.List.{range_with_len}
use Rattle.hint_log.specs.Entries.{rounds_of}
use Rattle.cert_export.specs.Expansion.{has_instance}
use Rattle.cert_export.proofs.rounds.marked_rounds.Given as goal

abbrev pub invariant-loop-id : goal.invariant-loop-id
invariant-loop-id l = l.marks.items ≡ map (has_instance l.log.entries (take l.id-index l.ids))
    (range_with_len 1 (rounds_of l.log.entries))
