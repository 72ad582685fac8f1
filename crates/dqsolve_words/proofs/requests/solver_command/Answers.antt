use Rattle.dqsolve_words.specs.Parsed.{circuit_app, defined_shape, session_shape}
use Rattle.dqsolve_words.proofs.Subcommands.{two_added}
use Rattle.dqsolve_words.proofs.requests.solver_command.Goals as goal

pub returns : goal.returns
returns c =
    two_added circuit_app defined_shape session_shape c.in_ok-circuits.circuits
    c.in_ok-command.command c.with_subcommand-2.result c.in_ok-circuits.ensures
    (c.in_ok-command.ensures defined_shape c.defined_command.ensures.shape c.defined_command.ensures.local)
    (c.with_subcommand-2.ensures session_shape c.session_command.ensures.shape c.session_command.ensures.local)
