use Rattle.std.proofs.Common.{◌≡◌, ◌||◌, ℕ, take}
use Rattle.number_tables.specs.Numbers.{has_number}
use Rattle.dq_prep.proofs.sights.Sight.add_all.Given as goal

abbrev pub invariant-loop-x : goal.invariant-loop-x
invariant-loop-x l =
    (l.self.first ≡ l.initial.self.first)
    × ((n : ℕ) → has_number l.self.others n
    ≡ (has_number l.initial.self.others n || has_number (take l.x-index l.vars) n))
