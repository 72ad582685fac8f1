use Rattle.log_laws.proofs.LiveAnswers.{plain_sessions}
use Rattle.log_laws.proofs.laws.plain_logs_are_sessions.Goals as goal

pub returns : goal.returns
returns c = plain_sessions
