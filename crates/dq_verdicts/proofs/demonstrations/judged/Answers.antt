use Rattle.dq_verdicts.proofs.demonstrations.judged.Goals as goal

pub true_text-requires-clause-decided : goal.true_text-requires-clause-decided
true_text-requires-clause-decided c =
    (c.productive_answers_can_be_exported.ensures c.args.f.now c.args.log.now.entries c.args.id
    c.every_log_is_lawful.ensures c.requires.productive).0 c.requires.decided
