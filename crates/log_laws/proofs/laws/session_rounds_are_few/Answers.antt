use Rattle.log_laws.proofs.LiveAnswers.{few_session_rounds}
use Rattle.log_laws.proofs.laws.session_rounds_are_few.Goals as goal

pub returns : goal.returns
returns c = few_session_rounds
