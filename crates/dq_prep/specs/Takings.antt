-- Words of private contracts: how units are taken.
use Rattle.std.specs.Prelude.{◌≡◌, ℕ, ◌==◌, ◌||◌, Bool, false, List, [], ◌∷◌, length, map, Some, slice_get, slice_index_or, if◌then◌else◌}
use Rattle.std.specs.List.{Contains, list_any, position}
use Rattle.dq_lits.specs.Literal.{Literal, variable_of, is_negative}
use Rattle.dq_lits.specs.Formula.{Dqbf, existential_of, IsWellFormed}
use Rattle.dq_lits.specs.Derivation.{is_tautology}
use Rattle.dq_formula.specs.Prefix.{IsLawful, existential_variables}
use Rattle.dq_lits.specs.declared.truth_values.TruthValue.{TruthValue}
use Rattle.dq_prep.specs.declared.traces.Taken.{Taken}
use Rattle.dq_prep.specs.declared.takings.Taking.{Taking}
use Rattle.dq_prep.specs.declared.takings.Remainder.{Remainder}
use Rattle.dq_prep.specs.declared.takings.Remainder.TheVariants.{Alone, Empty, Other}
use Rattle.dq_prep.specs.declared.takings.Found.{Found}
use Rattle.dq_prep.specs.declared.takings.Found.TheVariants.{NoUnit, Took, Emptied}
use Rattle.dq_prep.specs.Reduction.{sees_in}
use Rattle.dq_prep.specs.Units.{taken_literals, is_satisfied, left_of, IsUnit, AreUnits}
use Rattle.dq_prep.specs.Simplified.{kept_clauses}
use Rattle.dq_prep.specs.Roles.{role_by, truth_role}

-- each existential, found by its place, has the value that the literals give it
abbrev pub ValuesTell : Dqbf → List Literal → List TruthValue → Type 0
ValuesTell f trues values = (l : Literal) (place : ℕ) (d : TruthValue)
    → position (λ v. v == variable_of l) (existential_variables f) ≡ Some place
    → role_by (slice_index_or values place d) (is_negative l) ≡ truth_role trues l

pub record IsTaking (t : Taking) : Type 0 where
  pub well : IsWellFormed t.formula.now
  pub lawful : IsLawful t.formula.now
  pub tautologies : t.tautologies.now ≡ map is_tautology t.formula.now.matrix
  pub units : AreUnits t.formula.now t.trace
  pub many : length t.values.items ≡ length t.formula.now.existentials
  pub values : ValuesTell t.formula.now (taken_literals t.trace) t.values.items

-- the clause at a place isn't a further unit
abbrev pub IsNoUnit : Dqbf → List Taken → ℕ → Type 0
IsNoUnit f units place = (u : Taken) → u.place ≡ place → IsUnit f units u → ⊥

-- nothing is left of the clause at a place
pub record IsEmptied (f : Dqbf) (units : List Taken) (place : ℕ) : Type 0 where
  pub clause : List Literal
  pub at : slice_get f.matrix place ≡ Some clause
  pub unsatisfied : is_satisfied (taken_literals units) clause ≡ false
  pub left : left_of f (taken_literals units) clause ≡ []

abbrev pub unit_at : ℕ → Literal → Taken
unit_at place l = record { place = place; literal = l }

abbrev pub IsRemainder : Dqbf → List Taken → ℕ → Remainder → Type 0
IsRemainder f units place (Alone l) = IsUnit f units (unit_at place l)
IsRemainder f units place Empty = IsEmptied f units place
IsRemainder f units place Other = IsNoUnit f units place

-- what came of the clause at a place, with the units before and after
abbrev pub IsFound : Dqbf → List Taken → List Taken → ℕ → Found → Type 0
IsFound f old new place NoUnit = (new ≡ old) × IsNoUnit f old place
IsFound f old new place (Took l) = new ≡ unit_at place l ∷ old
IsFound f old new place Emptied = (new ≡ old) × Contains (kept_clauses f old 0 f.matrix) []

-- where no literal of a clause is open
abbrev pub remainder_of_none : Bool → Remainder
remainder_of_none is_tautology = if is_tautology then Other else Empty

-- where one literal is, and maybe more stays of the clause
abbrev pub remainder_of_one : Literal → Bool → Remainder
remainder_of_one l more = if more then Other else Alone l

-- it holds a literal beside its negation, or a variable that the literal's existential sees
abbrev pub keeps_more : Dqbf → List Literal → Literal → Bool
keeps_more f clause l =
    is_tautology clause
    || list_any (λ k. sees_in (variable_of k) (existential_of f (variable_of l))) clause
