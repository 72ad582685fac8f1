use Rattle.std.proofs.Common.{◌≡◌}
use Rattle.std.specs.List.{range_with_len}
use Rattle.pec_front.proofs.prefixes.declare_universals.Given as goal

abbrev pub invariant-loop-x : goal.invariant-loop-x
invariant-loop-x l = l.f ≡ record l.initial.f { universals = range_with_len 1 l.x }
