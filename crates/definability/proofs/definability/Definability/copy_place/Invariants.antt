use Rattle.std.proofs.Common.{◌≡◌}
use Rattle.definability.specs.Following.{HasMore}
use Rattle.definability.specs.Store.{store_of, parts_at}
use Rattle.definability.proofs.definability.Definability.copy_place.Given as goal

abbrev pub invariant-loop-part : goal.invariant-loop-part
invariant-loop-part g l = (g.O.Oracle.Fits l.oracle l.log) × HasMore l.f l.fn.self l.fn.log l.self l.log
    × (parts_at (store_of l.self) l.place ≡ l.part)
