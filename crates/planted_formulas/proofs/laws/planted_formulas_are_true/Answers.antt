use Rattle.std.proofs.Common.{◌+◌}
use Rattle.planted_formulas.specs.Planted.{planted_formula}
use Rattle.planted_formulas.proofs.Truth.{planted_function, planted_are_skolem}
use Rattle.planted_formulas.proofs.laws.planted_formulas_are_true.Goals as goal

pub returns : goal.returns
returns c seed size one =
    c.skolem_functions_show_true.ensures (planted_formula seed size) (planted_function seed (size + 1))
    (planted_are_skolem seed size)
