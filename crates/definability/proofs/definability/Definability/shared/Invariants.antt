use Rattle.std.proofs.Common.{◌≡◌, take}
use Rattle.definability.specs.Dividing.{shared_pairs}
use Rattle.definability.proofs.definability.Definability.shared.Given as goal

abbrev pub invariant-loop-place : goal.invariant-loop-place
invariant-loop-place l = l.shared.items ≡ shared_pairs l.self (take l.place-index l.places)
