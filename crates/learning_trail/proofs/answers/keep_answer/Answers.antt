use Rattle.std.proofs.Common.{sym, subst}
use Rattle.hint_log.specs.Conditions.{AreIds}
use Rattle.learning_trail.proofs.answers.keep_answer.Goals as goal

pub answer-requires-clause-hints : goal.answer-requires-clause-hints
answer-requires-clause-hints g c = subst (AreIds c.args.log.now.entries) (sym c.hints.ensures) c.requires.hints
