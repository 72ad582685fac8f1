use Rattle.std.proofs.Common.{arith}
use Rattle.headline_laws.proofs.Formulas.{is_false, is_true}
use Rattle.headline_laws.proofs.laws.same_meanings_are_on_the_page.Goals as goal

pub returns-clause-is_true : goal.returns-clause-is_true
returns-clause-is_true c read f same formed = is_true read f same formed

pub returns-clause-is_false : goal.returns-clause-is_false
returns-clause-is_false c read f same = is_false read f same c.functions_are_choices.ensures

pub returns-clause-circuit : goal.returns-clause-circuit
returns-clause-circuit c certificate read f same formed accepted = search arith
