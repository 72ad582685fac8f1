use Rattle.std.proofs.Common.{◌≡◌, not, take}
use Rattle.std.specs.List.{filter}
use Rattle.rup_core.specs.Items.{is_among}
use Rattle.rup_core.proofs.proving.forget.Given as goal

abbrev pub invariant-loop-id : goal.invariant-loop-id
invariant-loop-id l = l.store ≡ filter (λ line. not (is_among (take l.id-index l.ids) line.0)) l.initial.store
