use Rattle.dq_verdicts.proofs.ShownVerdicts.{unknown}
use Rattle.dq_verdicts.proofs.verdicts.unknown_output.Goals as goal

pub returns : goal.returns
returns c = unknown c.args.f.now c.args.log.now c.args.form _ c.requires.productive c.requires.undecided
    c.requires.limit (c.rounds_are_steps.ensures c.args.log.now.entries) c.code.ensures
    (c.in_ok-text.ensures c.args.f.now)
