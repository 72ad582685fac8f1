use Rattle.defined_checker.proofs.RightTexts.{accepts_faultless}
use Rattle.defined_checker.proofs.checks.check.Goals as goal

pub returns-clause-accepted : goal.returns-clause-accepted
returns-clause-accepted c =
    let f = c.args.f.now in
    let text = c.args.bytes.now in
    let law = c.definitions_or_first_fault.ensures in
    accepts_faultless f text c.args.first
    (λ blocks is. (law.exact text c.args.first f blocks c.every_formula_is_lawful.ensures).0 is)
    (λ blocks is. law.spelled text c.args.first f blocks is) c.check_text.result c.check_text.ensures
