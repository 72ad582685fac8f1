use Rattle.std.proofs.Common.{◌≡◌, take, Some}
use Rattle.std.specs.List.{All}
use Rattle.dq_lits.specs.Formula.{Existential, existential_of}
use Rattle.known_functions.specs.Stating.{FitsRule}
use Rattle.known_functions.proofs.stated_rules.are_fitting.Given as goal

abbrev pub invariant-loop-l : goal.invariant-loop-l
invariant-loop-l l = (e : Existential) → existential_of l.f l.y ≡ Some e →
    All (FitsRule l.y e l.bit) (take l.l-index l.clause)
