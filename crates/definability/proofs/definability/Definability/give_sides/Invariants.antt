use Rattle.std.proofs.Common.{◌≡◌, ◌-◌, length, slice_index_or}
use Rattle.definability.specs.Following.{Receives}
use Rattle.definability.proofs.definability.Definability.give_sides.Given as goal

abbrev pub invariant-loop-side : goal.invariant-loop-side
invariant-loop-side g l = (g.O.Oracle.Fits l.oracle l.log) × Receives l.f l.fn.self l.fn.log l.clause l.self l.log
    × (l.self ≡ record l.fn.self { given = l.self.given })
    × (length l.self.given.items ≡ length l.fn.self.given.items)
    × (slice_index_or l.self.given.items (l.clause.number - 1) 0 ≡ l.side)
