use Rattle.std.proofs.Common.{Option, Some, None, MatchOption, arith}
use Rattle.dq_lits.specs.Literal.{Literal}
use Rattle.learning_trail.proofs.ReadStatus.{true_at, all_false}
use Rattle.learning_trail.proofs.decisions.open_literal.Goals as goal

pub returns-in-True : goal.returns-in-True
returns-in-True c = search (arith, true_at)

at_end : (P Q : Type 0) (R : Literal → Type 0) (open' : Option Literal) → MatchOption open' P R → (P → ⊥) →
    MatchOption open' Q R
at_end P Q R None h none = absurd (none h)
at_end P Q R (Some l) h none = h

pub returns : goal.returns
returns c = search (arith, at_end, all_false)
