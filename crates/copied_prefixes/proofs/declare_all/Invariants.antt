use Rattle.std.proofs.Common.{◌≡◌, length}
use Rattle.copied_prefixes.specs.Prefixes.{IsBegun}
use Rattle.copied_prefixes.proofs.declare_all.Given as goal

abbrev pub invariant-loop-place : goal.invariant-loop-place
invariant-loop-place l = IsBegun l.f l.g × (length l.g.existentials ≡ l.place)
