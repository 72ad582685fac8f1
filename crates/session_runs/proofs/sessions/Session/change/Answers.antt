use Rattle.std.proofs.Common.{arith}
use Rattle.session_runs.proofs.CurrentFormulas.{current-stays}
use Rattle.session_runs.proofs.sessions.Session.change.Goals as goal

pub returns-else-live-before-clause-current : goal.returns-else-live-before-clause-current
returns-else-live-before-clause-current c =
    search (arith, (current-stays c.args.self.now.current c.args.self.now.database c.take.new.database))
