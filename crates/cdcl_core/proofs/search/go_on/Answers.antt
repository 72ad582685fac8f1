use Rattle.std.proofs.Common.{arith}
use Rattle.cdcl_core.proofs.search.go_on.Goals as goal

pub answer_false-requires-clause-answering : goal.answer_false-requires-clause-answering
answer_false-requires-clause-answering c = search arith

pub returns-in_err-answer-in-False-clause-fit : goal.returns-in_err-answer-in-False-clause-fit
returns-in_err-answer-in-False-clause-fit c = search arith

pub returns-in_ok-answer-in-False-clause-fit : goal.returns-in_ok-answer-in-False-clause-fit
returns-in_ok-answer-in-False-clause-fit c = search arith
