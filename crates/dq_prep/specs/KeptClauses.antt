-- Words of private contracts: how what is left is written down.
use Rattle.std.specs.Prelude.{◌≡◌, ℕ, ◌<◌, List, [], ◌∷◌, Option, None, Some, length, take, slice_index_or}
use Rattle.dq_lits.specs.Literal.{Literal}
use Rattle.dq_lits.specs.Formula.{Dqbf}
use Rattle.dq_prep.specs.declared.traces.Taken.{Taken}
use Rattle.dq_prep.specs.declared.takings.Taking.{Taking}
use Rattle.dq_prep.specs.declared.kept_clauses.Keeper.{Keeper}
use Rattle.dq_prep.specs.Simplified.{taken_at, kept_clauses}
use Rattle.dq_prep.specs.Takings.{IsTaking}

abbrev pub unit_clause : Option Literal → Option (List Literal)
unit_clause None = None
unit_clause (Some l) = Some (l ∷ [])

-- by clause, of so many, the literal that was taken of it
pub record IsTableOf (units : List Taken) (clauses : ℕ) (table : List (Option Literal)) : Type 0 where
  pub many : length table ≡ clauses
  pub each : (place : ℕ) → place < clauses
      → unit_clause (slice_index_or table place None) ≡ taken_at place units

pub record IsKeeper (k : Keeper) : Type 0 where
  pub right : IsTaking k.taking.now
  pub table : IsTableOf k.taking.now.trace (length k.taking.now.formula.now.matrix) k.units.now

-- what is left of the clauses before a place
abbrev pub AreKeptBefore : Taking → Dqbf → ℕ → Type 0
AreKeptBefore t g place = g ≡ record t.formula.now {
  matrix = kept_clauses t.formula.now t.trace 0 (take place t.formula.now.matrix);
}
