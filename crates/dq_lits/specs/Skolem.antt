-- Skolem functions: what shows that a formula is true.
use Rattle.std.specs.Prelude.{◌≡◌, ℕ, Bool, List}
use Rattle.std.specs.List.{All, Contains}
use Rattle.dq_lits.specs.Literal.{Assignment}
use Rattle.dq_lits.specs.Formula.{Existential, Dqbf}
use Rattle.dq_lits.specs.Henkin.{MatrixHolds}

-- an output of a circuit or a graph: its value, and the variables in its cone (its structural
-- support)
pub record OutputFunction : Type 0 where
  pub value : Assignment → Bool
  pub support : List ℕ

-- the value depends on the support alone
abbrev pub IsSupported : OutputFunction → Type 0
IsSupported o = (m n : Assignment) → All (λ x. m x ≡ n x) o.support → o.value m ≡ o.value n

-- Each existential's output reads only what the existential may see, and every clause is true
-- wherever each existential has its output's value.
pub record AreSkolemFunctions (f : Dqbf) (output : Existential → OutputFunction) : Type 0 where
  pub supported : All (λ y. IsSupported (output y)) f.existentials
  pub reads_declared : All (λ y. All (Contains y.sees) (output y).support) f.existentials
  pub holds : (m : Assignment) → All (λ y. m y.variable ≡ (output y).value m) f.existentials
      → MatrixHolds f m
