use Rattle.headline.proofs.Negations.{negated_held, negated_spelled}
use Rattle.headline.proofs.a_negated_wire_negates.Goals as goal

pub returns-clause-spelled : goal.returns-clause-spelled
returns-clause-spelled c = negated_spelled

pub returns-clause-skolem : goal.returns-clause-skolem
returns-clause-skolem c = negated_held
