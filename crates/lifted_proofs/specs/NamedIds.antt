-- Words of private contracts: ids of a formula's negated matrix for the clauses of what is left.
use Rattle.std.specs.Prelude.{◌≡◌, ℕ, ◌+◌, ◌<◌, ◌≤◌, Bool, List, [], ◌∷◌, length, map, Some}
use Rattle.std.specs.List.{slice_get}
use Rattle.dq_lits.specs.Literal.{Literal, negative}
use Rattle.dq_lits.specs.Derivation.{LiveClauses, ProofStep}
use Rattle.cert_text.specs.Grammar.{AreSteps}
use Rattle.cert_text.specs.NegatedMatrix.{without_constants}
use Rattle.lifted_proofs.specs.Lines.{behind_steps, AreDerived}

-- the id, which is before this one, has the clause by its new literals, where there is one
pub record HasName (to : Literal → Literal) (live : LiveClauses) (next : ℕ) (falsity : List ℕ) (id : ℕ)
    : Type 0 where
  pub from_one : 1 ≤ id
  pub before : id < next
  pub names : (clause : List Literal) → without_constants falsity ≡ Some clause
      → live id ≡ Some (map to clause)

-- each of these clauses has its id, behind lines that are derived
pub record AreNamed (is_variable : ℕ → Bool) (first : ℕ) (to : Literal → Literal) (base : LiveClauses)
    (falsities : List (List ℕ)) (ids : List ℕ) (steps : List ProofStep) : Type 0 where
  pub allowed : AreSteps is_variable first steps
  pub derived : AreDerived base steps
  pub many : length ids ≡ length falsities
  pub each : (k id : ℕ) (falsity : List ℕ) → slice_get ids k ≡ Some id
      → slice_get falsities k ≡ Some falsity
      → HasName to (behind_steps base steps) (first + length steps) falsity id

-- the id, which is before this one, has the clause that the clause at a place isn't false; clauses
-- have the variables from a first one on
pub record IsTrueBy (live : LiveClauses) (first next place id : ℕ) : Type 0 where
  pub from_one : 1 ≤ id
  pub before : id < next
  pub is : live id ≡ Some (negative (first + place) ∷ [])
