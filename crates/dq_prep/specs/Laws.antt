-- What simplification keeps.
use Rattle.std.specs.Prelude.{List}
use Rattle.dq_lits.specs.Formula.{Dqbf, IsWellFormed}
use Rattle.dq_lits.specs.Henkin.{HenkinChoice, Solves}
use Rattle.dq_formula.specs.Prefix.{IsLawful}
use Rattle.dq_prep.specs.declared.traces.Taken.{Taken}
use Rattle.dq_prep.specs.Units.{AreUnits}
use Rattle.dq_prep.specs.Simplified.{simplified_formula}

-- the same choices solve a formula and what is left of it
abbrev pub SimplificationKeepsChoices : Type 0
SimplificationKeepsChoices =
    (f : Dqbf) (units : List Taken) (choice : HenkinChoice) → IsWellFormed f → IsLawful f
    → AreUnits f units
    → (Solves choice f → Solves choice (simplified_formula f units))
    × (Solves choice (simplified_formula f units) → Solves choice f)

-- what is left of a well-formed formula is well formed
abbrev pub SimplifiedFormulasAreWellFormed : Type 0
SimplifiedFormulasAreWellFormed =
    (f : Dqbf) (units : List Taken) → IsWellFormed f → AreUnits f units
    → IsWellFormed (simplified_formula f units)
