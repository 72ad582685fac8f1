use Rattle.log_laws.proofs.Solved.{bits_hold}
use Rattle.log_laws.proofs.laws.leaves_solve.Goals as goal

pub returns : goal.returns
returns c = bits_hold c.derived_line_is_implied.ensures
