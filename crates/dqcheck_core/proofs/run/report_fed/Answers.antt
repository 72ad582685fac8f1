use Rattle.dqcheck_core.proofs.FedCertificates.{judged_fed, on_fed}
use Rattle.dqcheck_core.proofs.run.report_fed.Goals as goal

pub returns-in_ok-answer-in-Ok-clause-judged : goal.returns-in_ok-answer-in-Ok-clause-judged
returns-in_ok-answer-in-Ok-clause-judged c =
    on_fed c.args.fed
    (judged_fed c.args.formula.now c.args.stream c.in_ok-answer-in-Ok.field-0 c.judged_output.result c.requires
    c.in_ok-answer-in-Ok.ensures c.judged_output.ensures)
