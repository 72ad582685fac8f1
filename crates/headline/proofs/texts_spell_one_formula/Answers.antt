use Rattle.std.proofs.Common.{subst}
use Rattle.headline.specs.Headline.{IsTrueFormula}
use Rattle.headline.proofs.OneFormula.{one_formula}
use Rattle.headline.proofs.texts_spell_one_formula.Goals as goal

pub returns-clause-one : goal.returns-clause-one
returns-clause-one c = one_formula

pub returns-clause-never_both : goal.returns-clause-never_both
returns-clause-never_both c text f g of_f of_g one other =
    let same = subst IsTrueFormula (one_formula text f g of_f of_g) one in
    other same.0 same.1
