use Rattle.cert_judge.proofs.Judgements.{one_judgement}
use Rattle.cert_judge.proofs.laws.one_judgement.Goals as goal

pub returns : goal.returns
returns c =
    one_judgement (record {
      unique = c.circuit_or_first_fault.ensures.unique;
      never_both = c.circuit_or_first_fault.ensures.never_both;
      one_fault = c.circuit_or_first_fault.ensures.one_fault;
    })
    c.texts_are_judged_once.ensures
