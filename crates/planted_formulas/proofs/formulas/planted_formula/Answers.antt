use Rattle.planted_formulas.proofs.Truth.{planted_well_formed}
use Rattle.planted_formulas.proofs.formulas.planted_formula.Goals as goal

pub returns-clause-well_formed : goal.returns-clause-well_formed
returns-clause-well_formed c = planted_well_formed c.args.seed c.args.size c.add_gates.new.f c.in_ok-add_gates.ensures
    c.every_formula_is_lawful.ensures.prefix
