use Rattle.std.proofs.Common.{◌≢◌}
use Rattle.std.specs.List.{All, Contains}
use Rattle.dq_lits.specs.Formula.{declared}
use Rattle.dq_lits.specs.Literal.{variable_of}
use Rattle.engine_cases.proofs.conditions.conditions_on.Given as goal

abbrev pub invariant-loop-word : goal.invariant-loop-word
invariant-loop-word l =
    All (λ k. Contains (declared l.f) (variable_of k)) l.lits.items × All
    (λ k. variable_of k ≢ variable_of l.y) l.lits.items
