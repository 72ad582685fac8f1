use Rattle.std.proofs.Common.{◌≡◌, map, take}
use Rattle.std.specs.List.{filter}
use Rattle.dq_lits.specs.Literal.{variable_of}
use Rattle.dq_lits.specs.Formula.{is_universal}
use Rattle.dq_prep.proofs.sights.universals_of.Given as goal

abbrev pub invariant-loop-l : goal.invariant-loop-l
invariant-loop-l l =
    l.universals.items
    ≡ map variable_of (filter (λ k. is_universal l.f (variable_of k)) (take l.l-index l.clause))
