-- Unit propagation with universal reduction: which clauses are units, and what is left of the others
-- (Q-unit propagation of QBF solvers, for dependency sets).
use Rattle.std.specs.Prelude.{◌≡◌, Bool, false, not, List, [], ◌∷◌, map, Some, slice_get}
use Rattle.std.specs.List.{list_any, filter}
use Rattle.dq_lits.specs.Literal.{Literal, variable_of, opposite}
use Rattle.dq_lits.specs.Formula.{Dqbf, is_universal}
use Rattle.dq_lits.specs.Derivation.{holds}
use Rattle.dq_prep.specs.declared.traces.Taken.{Taken}
use Rattle.dq_prep.specs.Reduction.{reduced}

-- the literals of units; they are true
abbrev pub taken_literals : List Taken → List Literal
taken_literals units = map (λ u. u.literal) units

-- a clause without its false literals
abbrev pub without_false : List Literal → List Literal → List Literal
without_false trues clause = filter (λ l. not (holds trues (opposite l))) clause

abbrev pub is_satisfied : List Literal → List Literal → Bool
is_satisfied trues clause = list_any (holds trues) clause

-- what is left of a clause where these literals are true
abbrev pub left_of : Dqbf → List Literal → List Literal → List Literal
left_of f trues clause = reduced f (without_false trues clause)

-- the clause at the unit's place has no literal that was taken before, and what is left of it is the
-- unit's literal alone, which is on no universal
pub record IsUnit (f : Dqbf) (earlier : List Taken) (u : Taken) : Type 0 where
  pub clause : List Literal
  pub at : slice_get f.matrix u.place ≡ Some clause
  pub unsatisfied : is_satisfied (taken_literals earlier) clause ≡ false
  pub left : left_of f (taken_literals earlier) clause ≡ u.literal ∷ []
  pub existential : is_universal f (variable_of u.literal) ≡ false

-- each was taken after the earlier ones; the newest stands first
abbrev pub AreUnits : Dqbf → List Taken → Type 0
AreUnits f [] = Unit {0}
AreUnits f (u ∷ earlier) = IsUnit f earlier u × AreUnits f earlier
