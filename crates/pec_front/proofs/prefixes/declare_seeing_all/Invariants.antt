use Rattle.std.proofs.Common.{◌≡◌, ◌+◌, ◌++◌, map}
use Rattle.std.specs.List.{range_with_len}
use Rattle.pec_front.specs.Prefixes.{seeing}
use Rattle.pec_front.proofs.prefixes.declare_seeing_all.Given as goal

abbrev pub invariant-loop-y : goal.invariant-loop-y
invariant-loop-y l =
    l.f ≡ record l.initial.f {
      existentials = l.initial.f.existentials
          ++ map (seeing l.initial.f.universals) (range_with_len (l.first + 1) l.y);
    }
