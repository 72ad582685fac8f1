use Rattle.std.proofs.Common.{◌≡◌, map, take}
use Rattle.std.specs.Prelude.{slice_index_or}
use Rattle.lifted_proofs.proofs.lines.ids_at.Given as goal

abbrev pub invariant-loop-h : goal.invariant-loop-h
invariant-loop-h l = l.found.items ≡ map (λ h. slice_index_or l.ids h 0) (take l.h-index l.places)
