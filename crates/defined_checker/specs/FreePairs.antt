-- That an existential has no definition: two assignments that make the matrix true and agree on what
-- a definition may read, but not on the existential (A. Padoa, 1900).
use Rattle.std.specs.Prelude.{◌≡◌, ◌≢◌, ℕ, ◌++◌}
use Rattle.dq_lits.specs.Formula.{Existential, Dqbf, declared}
use Rattle.dq_lits.specs.Henkin.{MatrixHolds}
use Rattle.dq_lits.specs.Literal.{Assignment}
use Rattle.dq_lits.specs.Row.{assignment_of}
use Rattle.cert_text.specs.DefinitionBlocks.{Valuation, FreePair}
use Rattle.defined_checker.specs.DefinitionReads.{MayDefine}

abbrev pub valuation_assignment : Dqbf → Valuation → Assignment
valuation_assignment f v = assignment_of (declared f) (v.row ++ v.values)

-- both assignments agree on what a definition may read
abbrev pub AreAlike : Dqbf → Existential → Assignment → Assignment → Type 0
AreAlike f y m n = (v : ℕ) → MayDefine f y v → m v ≡ n v

pub record IsFreePair (f : Dqbf) (y : Existential) (p : FreePair) : Type 0 where
  pub first : MatrixHolds f (valuation_assignment f p.first)
  pub second : MatrixHolds f (valuation_assignment f p.second)
  pub alike : AreAlike f y (valuation_assignment f p.first) (valuation_assignment f p.second)
  pub apart : valuation_assignment f p.first p.existential
      ≢ valuation_assignment f p.second p.existential
