use Rattle.headline.proofs.AnsweredSession.{answered, cut_off}
use Rattle.headline.proofs.blocks_answer_a_script.Goals as goal

pub returns-clause-answers : goal.returns-clause-answers
returns-clause-answers c = answered c.copies_are_spelled.ensures c.frames_are_closed.ensures.spelled

pub returns-clause-first : goal.returns-clause-first
returns-clause-first c = cut_off c.copies_are_spelled.ensures c.frames_are_closed.ensures.spelled
