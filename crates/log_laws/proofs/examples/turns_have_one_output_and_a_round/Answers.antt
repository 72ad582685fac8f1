use Rattle.log_laws.proofs.MissedTurns.{output_misses, turn_misses}
use Rattle.log_laws.proofs.examples.turns_have_one_output_and_a_round.Goals as goal

pub returns : goal.returns
returns c = record { second_output = output_misses; second_turn = turn_misses }
