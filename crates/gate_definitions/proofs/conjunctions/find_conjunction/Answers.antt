use Rattle.gate_definitions.proofs.conjunctions.find_conjunction.Goals as goal

pub returns : goal.returns
returns c = c.first_conjunction.ensures
