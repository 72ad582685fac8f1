-- How a clause stands, as its literals are read one by one.
use Rattle.std.specs.Prelude.{List, not, if◌then◌else◌}
use Rattle.std.specs.List.{filter}
use Rattle.dq_lits.specs.Literal.{Literal, opposite, same_literal}
use Rattle.dq_lits.specs.Derivation.{ClauseStatus, falsified, unit, stuck, holds}
use Rattle.dq_lits.specs.declared.truth_values.TruthValue.{TruthValue}
use Rattle.dq_lits.specs.declared.truth_values.TruthValue.TheVariants.{True, False, Unassigned}

-- with one more unassigned literal
abbrev pub with_free : ClauseStatus → Literal → ClauseStatus
with_free falsified l = unit l
with_free (unit k) l = if same_literal k l then unit k else stuck
with_free stuck l = stuck

-- with one more literal, of this value
abbrev pub with_literal : ClauseStatus → Literal → TruthValue → ClauseStatus
with_literal status l False = status
with_literal status l True = stuck
with_literal status l Unassigned = with_free status l

-- the literals of a clause that aren't false
abbrev pub not_false : List Literal → List Literal → List Literal
not_false trues clause = filter (λ l. not (holds trues (opposite l))) clause
