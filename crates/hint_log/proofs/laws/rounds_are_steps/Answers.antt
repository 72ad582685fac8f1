use Rattle.hint_log.proofs.Lawful.{rounds_are_steps_lem}
use Rattle.hint_log.proofs.laws.rounds_are_steps.Goals as goal

pub returns : goal.returns
returns c = rounds_are_steps_lem
