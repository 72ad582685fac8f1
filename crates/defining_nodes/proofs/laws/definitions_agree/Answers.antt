use Rattle.std.proofs.Common.{◌∙◌, sym}
use Rattle.defining_nodes.proofs.laws.definitions_agree.Goals as goal

pub returns : goal.returns
returns c f ranks others graph y a b first second m holds = sym (first.defines m holds) ∙ second.defines m holds
