use Rattle.dqsolve_words.specs.Parsed.{encode_shape, formula_app, pec_shape}
use Rattle.dqsolve_words.proofs.Subcommands.{two_added}
use Rattle.dqsolve_words.proofs.requests.circuit_command.Goals as goal

pub returns : goal.returns
returns c =
    two_added formula_app pec_shape encode_shape c.in_ok-formulas.formulas
    c.in_ok-command.command c.with_subcommand-2.result c.in_ok-formulas.ensures
    (c.in_ok-command.ensures pec_shape c.pec_command.ensures.shape c.pec_command.ensures.local)
    (c.with_subcommand-2.ensures encode_shape c.encode_command.ensures.shape c.encode_command.ensures.local)
