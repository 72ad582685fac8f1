-- What is left of a well-formed formula is well formed.
use Rattle.std.proofs.Common.{◌≡◌, ◌<◌, ◌≤◌, ◌==◌, ℕ, suc, Bool, true, false, cond, not, List, [], ◌∷◌, length, get_or, sym, subst, arith}
use Rattle.std.specs.List.{All, AllByRecursion, Contains, filter}
use Rattle.std.proofs.lemmas.List.Elements.{All-head, All-tail, All-filter, All-contains, All-from_recursion}
use Rattle.dq_lits.specs.Literal.{Literal, variable_of, opposite}
use Rattle.dq_lits.specs.Formula.{Dqbf, declared, IsWellFormed}
use Rattle.dq_lits.specs.Derivation.{holds, is_tautology}
use Rattle.dq_prep.specs.declared.traces.Taken.{Taken}
use Rattle.dq_prep.specs.Laws.{SimplifiedFormulasAreWellFormed}
use Rattle.dq_prep.specs.Reduction.{stays}
use Rattle.dq_prep.specs.Units.{taken_literals, AreUnits, is_satisfied, without_false, left_of}
use Rattle.dq_prep.specs.Simplified.{taken_at, kept_clause, kept_clauses}
use Rattle.dq_prep.proofs.Kept.{IfKept, all-with, by-place, by-satisfied}
use Rattle.dq_prep.proofs.Units.{get-at}

-- what all literals of a clause are, those that are left are
pub all-left : (f : Dqbf) (P : Literal → Type 0) (trues clause : List Literal) → All P clause
    → All P (left_of f trues clause)
all-left f P trues clause all = by (is_tautology rest)
  where
    rest : List Literal
    rest = without_false trues clause

    all-rest : All P rest
    all-rest = All-filter (λ l. not (holds trues (opposite l))) P clause all

    by : (b : Bool) → All P (cond b rest (filter (stays f rest) rest))
    by true = all-rest
    by false = All-filter (stays f rest) P rest all-rest

abbrev pub IsBound : Dqbf → Literal → Type 0
IsBound f l = Contains (declared f) (variable_of l)

pub unit-bound : (f : Dqbf) (units : List Taken) → IsWellFormed f → AreUnits f units → (place : ℕ)
    → IfKept (All (IsBound f)) (taken_at place units)
unit-bound f [] well are place = tt
unit-bound f (u ∷ us) well are place =
    let at = get-at f.matrix u.place are.0.clause are.0.at in
    let bound : All (IsBound f) are.0.clause = rw (sym (at.1 [])) (well.bound u.place [] at.0) in
    let left = all-left f (IsBound f) (taken_literals us) are.0.clause bound in
    let single : All (IsBound f) (u.literal ∷ []) = subst (All (IsBound f)) are.0.left left in
    by-place (All (IsBound f)) (u.place == place) u.literal (taken_at place us) single
    (unit-bound f us well are.1 place)

kept-bound : (f : Dqbf) (units : List Taken) → IsWellFormed f → AreUnits f units
    → (place : ℕ) (clauses : List (List Literal))
    → All (All (IsBound f)) clauses → AllByRecursion (All (IsBound f)) (kept_clauses f units place clauses)
kept-bound f units well are place [] bound = tt
kept-bound f units well are place (clause ∷ clauses) bound =
    let Bound : List Literal → Type 0 = All (IsBound f) in
    let trues = taken_literals units in
    all-with Bound (kept_clause f units place clause) (kept_clauses f units (suc place) clauses)
    (by-satisfied Bound (is_satisfied trues clause) (taken_at place units) (left_of f trues clause)
    (unit-bound f units well are place)
    (all-left f (IsBound f) trues clause (All-head Bound clause clauses bound)))
    (kept-bound f units well are (suc place) clauses (All-tail Bound clause clauses bound))

pub well-formed : SimplifiedFormulasAreWellFormed
well-formed f units well are = search (arith, All-from_recursion, kept-bound)

-- a literal of a clause of the matrix
pub bound-at : (f : Dqbf) (place i : ℕ) (clause : List Literal) (l : Literal) → IsWellFormed f
    → place < length f.matrix → clause ≡ get_or f.matrix place [] → i < length clause → l ≡ get_or clause i l
    → IsBound f l
bound-at f place i clause l well within is below at =
    let all = subst (All (IsBound f)) (sym is) (well.bound place [] within) in
    subst (IsBound f) (sym at) (all i l below)

pub bound-small : (f : Dqbf) (l : Literal) → IsWellFormed f → IsBound f l → variable_of l ≤ f.variables
bound-small f l well bound = search (arith, All-contains)
