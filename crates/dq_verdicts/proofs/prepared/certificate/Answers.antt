use Rattle.dq_verdicts.proofs.LiftedVerdicts.{lifted-certificate}
use Rattle.dq_verdicts.proofs.prepared.certificate.Goals as goal

pub returns : goal.returns
returns c =
    lifted-certificate c.settled_files_are_spellable.ensures c.args.p.now.formula.now c.args.p.now.left.now
    c.args.p.now.trace.now c.in_ok-file.file c.in_ok-file.proof c.in_ok-lifted.lifted c.in_ok-file.ensures
    c.in_ok-lifted.ensures.settled c.in_ok-lifted.ensures.lifted
