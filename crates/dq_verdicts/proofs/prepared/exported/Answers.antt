use Rattle.dq_verdicts.proofs.LiftedVerdicts.{exported-certificate}
use Rattle.dq_verdicts.proofs.prepared.exported.Goals as goal

pub export_true-requires-clause-decided : goal.export_true-requires-clause-decided
export_true-requires-clause-decided c =
    (c.productive_answers_can_be_exported.ensures c.args.f.now c.args.log.now.entries c.args.id
    c.every_log_is_lawful.ensures c.requires.productive).0 c.requires.decided

pub returns : goal.returns
returns c =
    let e = c.export_true.ensures in
    exported-certificate c.exported_proof_is_allowed.ensures c.allowed_lines_are_numbered.ensures c.args.f.now
    c.args.log.now.entries c.args.id c.export_true.result e.proved e.spelled e.numbers e.allowed
    e.exported
