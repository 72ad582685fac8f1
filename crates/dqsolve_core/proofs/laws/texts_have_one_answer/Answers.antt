use Rattle.dqsolve_core.proofs.OneAnswer.{one_answer}
use Rattle.dqsolve_core.proofs.laws.texts_have_one_answer.Goals as goal

pub returns : goal.returns
returns c = λ spec imp. one_answer
    (record {
      unique = c.circuit_or_first_fault.ensures.unique;
      never_both = c.circuit_or_first_fault.ensures.never_both;
      one_fault = c.circuit_or_first_fault.ensures.one_fault;
    })
    spec imp
