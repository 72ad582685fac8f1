use Rattle.std.proofs.Common.{◌≡◌, ◌≤◌, length, max}
use Rattle.copied_prefixes.specs.Prefixes.{IsBegun}
use Rattle.copied_prefixes.proofs.declare_universals.Given as goal

abbrev pub invariant-loop-at : goal.invariant-loop-at
invariant-loop-at l =
    IsBegun l.f l.g × (length l.g.universals ≡ l.at) × (l.at ≤ max (length l.initial.g.universals) l.end)
    × (l.g.existentials ≡ l.initial.g.existentials)
