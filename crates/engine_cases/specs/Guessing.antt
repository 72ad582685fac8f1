-- Questions for a definition under conditions, and the samples that answer one.
use Rattle.std.specs.Prelude.{◌≡◌, ◌≢◌, false, IsSome, length}
use Rattle.std.specs.List.{All, Contains}
use Rattle.dq_lits.specs.Derivation.{is_tautology}
use Rattle.dq_lits.specs.Formula.{Dqbf, declared, existential_of}
use Rattle.dq_lits.specs.Literal.{variable_of}
use Rattle.definability.specs.declared.defining.Pair.{Pair}
use Rattle.engine_cases.specs.declared.conditions.Question.{Question}

-- the question may be asked of this formula
pub record IsPosed (f : Dqbf) (q : Question) : Type 0 where
  pub existential : IsSome (existential_of f (variable_of q.y))
  pub conditions : All (λ l. Contains (declared f) (variable_of l)) q.conditions.items
  pub others : All (λ l. variable_of l ≢ variable_of q.y) q.conditions.items
  pub consistent : is_tautology q.conditions.items ≡ false

-- each sample has a bit for each variable
pub record IsShaped (f : Dqbf) (pair : Pair) : Type 0 where
  pub row1 : length pair.row1 ≡ length f.universals
  pub values1 : length pair.values1 ≡ length f.existentials
  pub row2 : length pair.row2 ≡ length f.universals
  pub values2 : length pair.values2 ≡ length f.existentials
