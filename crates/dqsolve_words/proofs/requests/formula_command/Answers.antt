use Rattle.dqsolve_words.specs.Parsed.{bare_app, demo_shape, solve_shape}
use Rattle.dqsolve_words.proofs.Subcommands.{two_added}
use Rattle.dqsolve_words.proofs.requests.formula_command.Goals as goal

pub returns : goal.returns
returns c =
    two_added bare_app solve_shape demo_shape c.bare_command.result
    c.in_ok-command.command c.with_subcommand-2.result c.bare_command.ensures
    (c.in_ok-command.ensures solve_shape c.solve_command.ensures.shape c.solve_command.ensures.local)
    (c.with_subcommand-2.ensures demo_shape c.demo_command.ensures.shape c.demo_command.ensures.local)
