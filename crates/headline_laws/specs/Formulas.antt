-- What a formula is to the reader and on the page.
use Rattle.std.specs.Prelude.{◌≡◌, ℕ, List, map}
use Rattle.dq_lits.specs.Formula.{Dqbf}
use Rattle.dq_lits.specs.Formula.{Existential as ReadExistential}
use Rattle.dq_lits.specs.Henkin.{MatrixHolds}
use Rattle.dq_lits.specs.Literal.{Assignment}
use Rattle.dq_lits.specs.Henkin.{IsTrueFormula as IsReadTrue, IsFalseFormula as IsReadFalse}
use Rattle.headline.specs.Headline.{Formula, Existential, Holds, SpellsFormula, IsTrueFormula, IsFalseFormula, existentials_of, universals_of}

abbrev pub read_existential : Existential → ReadExistential
read_existential y = record { variable = y.variable; sees = y.sees }

-- the page's formula of a text has the same prefix, and is true or false where the reader's is
pub record IsOnPage (text : List ℕ) (read : Dqbf) (f : Formula) : Type 0 where
  pub spelled : SpellsFormula text f
  pub variables : f.variables ≡ read.variables
  pub universals : universals_of f ≡ read.universals
  pub existentials : map read_existential (existentials_of f) ≡ read.existentials
  pub holds : (m : Assignment) → MatrixHolds read m → Holds f m
  pub holds_there : (m : Assignment) → Holds f m → MatrixHolds read m
  pub is_true : IsReadTrue read → IsTrueFormula f
  pub is_false : IsReadFalse read → IsFalseFormula f

-- the same prefix, and constraints that hold where the reader's matrix does
pub record MeansTheSame (read : Dqbf) (f : Formula) : Type 0 where
  pub universals : universals_of f ≡ read.universals
  pub existentials : map read_existential (existentials_of f) ≡ read.existentials
  pub holds : (m : Assignment) → MatrixHolds read m → Holds f m
  pub holds_there : (m : Assignment) → Holds f m → MatrixHolds read m
