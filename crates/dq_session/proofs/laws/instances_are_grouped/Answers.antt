use Rattle.dq_session.proofs.GroupedFrames.{instances_grouped}
use Rattle.dq_session.proofs.laws.instances_are_grouped.Goals as goal

pub returns : goal.returns
returns c = instances_grouped
