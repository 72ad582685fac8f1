use Rattle.std.proofs.Common.{arith}
use Rattle.learning_trail.proofs.SoughtAnswers.{sought_markable, analysis_of_conflict}
use Rattle.learning_trail.proofs.answers.answer_conflict.Goals as goal

pub begin-requires-clause-within : goal.begin-requires-clause-within
begin-requires-clause-within g c = search (arith, sought_markable)

pub answer-requires-clause-analysis : goal.answer-requires-clause-analysis
answer-requires-clause-analysis g c =
    let now = c.in_ok-begin.ensures in
    analysis_of_conflict c.args.assumptions.now (g.C.Clauses.clauses c.args.clauses.now) c.args.trail.now
    c.args.notes.now c.args.log.now c.requires.answering c.args.conflict c.begin.new.notes
    c.requires.conflict now.hints c.begin.ensures.literals now.marked
