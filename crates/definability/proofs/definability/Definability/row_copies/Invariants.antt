use Rattle.std.proofs.Common.{◌≡◌, ◌∷◌, take}
use Rattle.definability.specs.Ruling.{row_copies}
use Rattle.definability.proofs.definability.Definability.row_copies.Given as goal

abbrev pub invariant-loop-place : goal.invariant-loop-place
invariant-loop-place l = l.lits.items ≡ l.fn.own ∷ row_copies l.self.first l.row (take l.place-index l.places)
