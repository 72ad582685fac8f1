use Rattle.std.proofs.Common.{◌≡◌, take}
use Rattle.std.specs.List.{filter}
use Rattle.dq_prep.specs.Sights.{keeps}
use Rattle.dq_prep.proofs.sights.keep_staying.Given as goal

abbrev pub invariant-loop-l : goal.invariant-loop-l
invariant-loop-l l = l.left.items ≡ filter (keeps l.f l.sight) (take l.l-index l.clause)
