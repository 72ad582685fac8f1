use Rattle.std.proofs.Common.{◌≡◌, take, slice_index_or, None}
use Rattle.std.specs.List.{filter_map}
use Rattle.dq_session.proofs.databases.ClauseDatabase.open_groups.Given as goal

abbrev pub invariant-loop-frame : goal.invariant-loop-frame
invariant-loop-frame l = l.groups.items
    ≡ filter_map (λ o. slice_index_or l.self.groups o.number None) (take l.frame-index l.self.open_frames)
