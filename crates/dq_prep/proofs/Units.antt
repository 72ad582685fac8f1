-- Units that are taken are true wherever a solving choice is followed, and what is left of a
-- formula is true where it is.
use Rattle.std.proofs.Common.{◌≡◌, ◌≢◌, ℕ, zero, suc, ◌<◌, ◌==◌, Bool, true, false, not, cond, inl, inr, List, [], ◌∷◌, length, get_or, slice_get, Some, sym, ◌∙◌, ap, arith}
use Rattle.std.specs.List.{All, Contains, filter}
use Rattle.std.proofs.lemmas.Bool.{true≢false, eq-eqb, ne_eqb, cond-true, cond-false, or_cases, or_left, or_right}
use Rattle.std.proofs.lemmas.List.Elements.{All-filter}
use Rattle.dq_lits.specs.Literal.{Assignment, Literal, variable_of, opposite, same_literal, literal_true, clause_true}
use Rattle.dq_lits.specs.Formula.{Dqbf, declared, IsWellFormed}
use Rattle.dq_lits.specs.Henkin.{HenkinChoice, Follows, Solves}
use Rattle.dq_lits.specs.Derivation.{holds, is_tautology}
use Rattle.dq_lits.proofs.Truth.{same_literal-sound, holds-true}
use Rattle.dq_lits.proofs.SignedLiterals.{same_literal-refl}
use Rattle.dq_lits.proofs.TrueClauses.{opposite-false}
use Rattle.dq_formula.specs.Prefix.{IsLawful}
use Rattle.dq_prep.specs.declared.traces.Taken.{Taken}
use Rattle.dq_prep.specs.Reduction.{stays}
use Rattle.dq_prep.specs.Units.{taken_literals, AreUnits, is_satisfied, without_false, left_of}
use Rattle.dq_prep.specs.Simplified.{taken_at}
use Rattle.dq_prep.proofs.Reduction.{Extending, reduced-true, any-kept, true-or-false}
use Rattle.dq_lits.proofs.HeldLiterals.{holds_of_filter}
use Rattle.list_laws.proofs.Options.{some_same}

-- each literal that was taken is true
abbrev pub AllTrue : Assignment → List Literal → Type 0
AllTrue m [] = Unit {0}
AllTrue m (l ∷ ls) = (literal_true m l ≡ true) × AllTrue m ls

-- false literals may go
without_false-true : (m : Assignment) (trues clause : List Literal) → AllTrue m trues → clause_true m clause ≡ true
    → clause_true m (without_false trues clause) ≡ true
without_false-true m trues clause all truth =
    search (arith, any-kept, true-or-false, true≢false, opposite-false, holds-true)

pub satisfied-true : (m : Assignment) (trues clause : List Literal) → AllTrue m trues
    → is_satisfied trues clause ≡ true → clause_true m clause ≡ true
satisfied-true m trues [] all h = h
satisfied-true m trues (l ∷ ls) all h =
    search (arith, or_cases, or_left, holds-true, or_right, (satisfied-true m trues ls all))

one-true : (m : Assignment) (b : Bool) (l : Literal) (part whole : List Literal)
    → (clause_true m part ≡ true → clause_true m whole ≡ true) →
    clause_true m (cond b (l ∷ part) part) ≡ true → clause_true m (l ∷ whole) ≡ true
one-true m true l part whole step h = search (arith, or_cases, or_left, or_right)
one-true m false l part whole step h = or_right (literal_true m l) (clause_true m whole) (step h)

-- a part of a clause is true only where the clause is
part-true : (m : Assignment) (g : Literal → Bool) (clause : List Literal) → clause_true m (filter g clause) ≡ true
    → clause_true m clause ≡ true
part-true m g [] h = h
part-true m g (l ∷ ls) h = one-true m (g l) l (filter g ls) ls (part-true m g ls) h

pub left-true : (f : Dqbf) (m : Assignment) (trues clause : List Literal)
    → clause_true m (left_of f trues clause) ≡ true → clause_true m clause ≡ true
left-true f m trues clause h =
    part-true m (λ l. not (holds trues (opposite l))) clause (by (is_tautology (without_false trues clause)) h)
  where
    rest : List Literal
    rest = without_false trues clause

    by : (b : Bool) → clause_true m (cond b rest (filter (stays f rest) rest)) ≡ true → clause_true m rest ≡ true
    by true h = h
    by false h = part-true m (stays f rest) rest h

-- what is fixed
pub record Setting : Type 0 where
  pub extends : Extending
  pub f : Dqbf
  pub well : IsWellFormed f
  pub lawful : IsLawful f
  pub choice : HenkinChoice

-- what is left of a clause is true wherever a solving choice is followed, if the taken literals are
pub left-follows : (s : Setting) (trues clause : List Literal)
    → All (λ l. Contains (declared s.f) (variable_of l)) clause →
    ((m : Assignment) → Follows s.f s.choice m → AllTrue m trues) →
    ((m : Assignment) → Follows s.f s.choice m → clause_true m clause ≡ true) →
    (m : Assignment) → Follows s.f s.choice m → clause_true m (left_of s.f trues clause) ≡ true
left-follows s trues clause bound all truth m follows = search (arith, reduced-true, All-filter, without_false-true)

pub get-at : (xs : List (List Literal)) (place : ℕ) (clause : List Literal) → slice_get xs place ≡ Some clause
    → (place < length xs) × ((d : List Literal) → get_or xs place d ≡ clause)
get-at [] place clause h = cc
get-at (x ∷ xs) zero clause h = search arith
get-at (x ∷ xs) (suc place) clause h = let at = get-at xs place clause h in (omega (arith, at.0), at.1)

pub units-true : (s : Setting) (units : List Taken) → AreUnits s.f units → Solves s.choice s.f →
    (m : Assignment) → Follows s.f s.choice m → AllTrue m (taken_literals units)
units-true s [] are solves m follows = tt
units-true s (u ∷ earlier) are solves m follows =
    let all = units-true s earlier are.1 solves in
    let at = get-at s.f.matrix u.place are.0.clause are.0.at in
    let bound : All (λ l. Contains (declared s.f) (variable_of l)) are.0.clause =
    rw (sym (at.1 [])) (s.well.bound u.place [] at.0) in
    let truth : (n : Assignment) → Follows s.f s.choice n → clause_true n are.0.clause ≡ true =
    λ n too. rw (sym (at.1 [])) (solves n too u.place [] at.0) in
    let left = left-follows s (taken_literals earlier) are.0.clause bound all truth m follows in
    let one : clause_true m (u.literal ∷ []) ≡ true = ap (clause_true m) (sym are.0.left) ∙ left in
    (elim (or_cases (literal_true m u.literal) false one) [ inl here ↦ here | inr none ↦ cc ], all m follows)

pub left-holds : (f : Dqbf) (l : Literal) (trues clause : List Literal) → holds (left_of f trues clause) l ≡ true
    → holds clause l ≡ true
left-holds f l trues clause h = search (arith, holds_of_filter)

-- a clause with a literal that was taken is satisfied
pub satisfied-by : (trues clause : List Literal) (l : Literal) → holds clause l ≡ true → holds trues l ≡ true
    → is_satisfied trues clause ≡ true
satisfied-by trues [] l here taken = here
satisfied-by trues (k ∷ ks) l here taken =
    search (arith, or_cases, or_left, same_literal-sound, or_right, (satisfied-by trues ks l))

pub taken-holds : (units : List Taken) (k : ℕ) (d : Taken) → k < length units
    → holds (taken_literals units) (get_or units k d).literal ≡ true
taken-holds [] k d below = absurd (omega arith)
taken-holds (u ∷ us) zero d below = search (arith, or_left, same_literal-refl)
taken-holds (u ∷ us) (suc k) d below = search (arith, or_right, (taken-holds us k d))

-- the clause of a unit
pub unit-clause : (f : Dqbf) (units : List Taken) (k : ℕ) (d : Taken) → AreUnits f units → k < length units →
    (clause : List Literal) × (slice_get f.matrix (get_or units k d).place ≡ Some clause) ×
    (holds clause (get_or units k d).literal ≡ true)
unit-clause f [] k d are below = absurd (omega arith)
unit-clause f (u ∷ us) zero d are below =
    let l = u.literal in
    let left = are.0.left in
    let inside : holds (l ∷ []) l ≡ true = or_left (same_literal l l) false (same_literal-refl l) in
    (are.0.clause, are.0.at, left-holds f l (taken_literals us) are.0.clause (ap (λ c. holds c l) left ∙ inside))
unit-clause f (u ∷ us) (suc k) d are below = unit-clause f us k d are.1 (omega arith)

-- an earlier unit has another place
pub unit-apart : (f : Dqbf) (u : Taken) (us : List Taken) (k : ℕ) (d : Taken) → AreUnits f (u ∷ us) → k < length us
    → u.place ≢ (get_or us k d).place
unit-apart f u us k d are inside e =
    let v = get_or us k d in
    let c = unit-clause f us k d are.1 inside in
    let same : are.0.clause ≡ c.0 = some_same are.0.clause c.0 (sym are.0.at ∙ ap (slice_get f.matrix) e ∙ c.1) in
    let held : holds are.0.clause v.literal ≡ true = ap (λ x. holds x v.literal) same ∙ c.2 in
    true≢false (sym (satisfied-by (taken_literals us) are.0.clause v.literal held (taken-holds us k d inside))
    ∙ are.0.unsatisfied)

-- so a unit is found by its place
pub unit-taken : (f : Dqbf) (units : List Taken) (k : ℕ) (d : Taken) → AreUnits f units → k < length units
    → taken_at (get_or units k d).place units ≡ Some ((get_or units k d).literal ∷ [])
unit-taken f [] k d are below = absurd (omega arith)
unit-taken f (u ∷ us) zero d are below = search (arith, cond-true, eq-eqb)
unit-taken f (u ∷ us) (suc k) d are below =
    let inside : k < length us = omega arith in
    let v = get_or us k d in
    cond-false (u.place == v.place) (Some (u.literal ∷ [])) (taken_at v.place us)
    (ne_eqb u.place v.place (unit-apart f u us k d are inside)) ∙ unit-taken f us k d are.1 inside
