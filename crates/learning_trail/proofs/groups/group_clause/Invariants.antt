use Rattle.std.proofs.Common.{◌≡◌, ◌∷◌, take}
use Rattle.dq_lits.specs.Literal.{opposite}
use Rattle.learning_trail.proofs.groups.group_clause.Given as goal

abbrev pub invariant-loop-l : goal.invariant-loop-l
invariant-loop-l l = l.clause.items ≡ opposite l.fn.selector ∷ take l.l-index l.lits
