-- What is left of a matrix.
use Rattle.std.proofs.Common.{◌≡◌, ℕ, zero, suc, ◌+◌, ◌<◌, Bool, true, false, cond, inl, inr, List, [], ◌∷◌, length, get_or, Option, Some, None, ◌∙◌, ap, arith}
use Rattle.std.specs.List.{All, AllByRecursion, Contains, cons_option}
use Rattle.std.proofs.lemmas.Bool.{or_left, or_cases, cond-true, cond-false}
use Rattle.std.proofs.lemmas.List.Elements.{All-head, All-tail, All-contains, All-from_recursion}
use Rattle.dq_lits.specs.Literal.{Assignment, Literal, variable_of, literal_true, clause_true}
use Rattle.dq_lits.specs.Formula.{Dqbf, declared, IsWellFormed}
use Rattle.dq_lits.specs.Henkin.{HenkinChoice, Follows, Solves, MatrixHolds}
use Rattle.dq_formula.specs.Prefix.{IsLawful}
use Rattle.dq_prep.specs.declared.traces.Taken.{Taken}
use Rattle.dq_prep.specs.Units.{taken_literals, AreUnits, is_satisfied, left_of}
use Rattle.dq_prep.specs.Simplified.{taken_at, kept_clause, kept_clauses, simplified_formula}
use Rattle.dq_prep.proofs.Reduction.{Extending, true-or-false}
use Rattle.dq_prep.proofs.Units.{AllTrue, Setting, get-at, left-follows, left-true, units-true, satisfied-true, unit-clause, unit-taken, satisfied-by, taken-holds}

abbrev Holds : Assignment → List Literal → Type 0
Holds m clause = clause_true m clause ≡ true

-- a clause, where there is one, has the property
abbrev pub IfKept : (List Literal → Type 0) → Option (List Literal) → Type 0
IfKept P None = Unit {0}
IfKept P (Some clause) = P clause

pub all-with : (P : List Literal → Type 0) (o : Option (List Literal)) (rest : List (List Literal)) → IfKept P o
    → AllByRecursion P rest → AllByRecursion P (cons_option o rest)
all-with P None rest h all = all
all-with P (Some clause) rest h all = (h, all)

pub by-place : (P : List Literal → Type 0) (b : Bool) (l : Literal) (o : Option (List Literal)) → P (l ∷ [])
    → IfKept P o
    → IfKept P (cond b (Some (l ∷ [])) o)
by-place P true l o here rest = here
by-place P false l o here rest = rest

pub by-satisfied : (P : List Literal → Type 0) (b : Bool) (o : Option (List Literal)) (left : List Literal)
    → IfKept P o
    → P left → IfKept P (cond b o (Some left))
by-satisfied P true o left h1 h2 = h1
by-satisfied P false o left h1 h2 = h2

taken_at-true : (m : Assignment) (place : ℕ) (units : List Taken) → AllTrue m (taken_literals units)
    → IfKept (Holds m) (taken_at place units)
taken_at-true m place [] all = tt
taken_at-true m place (u ∷ us) all = search (arith, by-place, or_left, (taken_at-true m place us all.1))

kept-follows : (s : Setting) (units : List Taken) → AreUnits s.f units → Solves s.choice s.f → (m : Assignment)
    → Follows s.f s.choice m →
    (place : ℕ) (clauses : List (List Literal)) → All (All (λ l. Contains (declared s.f) (variable_of l))) clauses →
    ((n : Assignment) → Follows s.f s.choice n → All (Holds n) clauses)
    → AllByRecursion (Holds m) (kept_clauses s.f units place clauses)
kept-follows s units are solves m follows place [] bound truth = tt
kept-follows s units are solves m follows place (clause ∷ clauses) bound truth =
    let Bound : List Literal → Type 0 = All (λ l. Contains (declared s.f) (variable_of l)) in
    let all = units-true s units are solves in
    let rest = kept-follows s units are solves m follows (suc place) clauses (All-tail Bound clause clauses bound)
    (λ n too. All-tail (Holds n) clause clauses (truth n too)) in
    let left = left-follows s (taken_literals units) clause (All-head Bound clause clauses bound) all
    (λ n too. All-head (Holds n) clause clauses (truth n too)) m follows in
    all-with (Holds m) (kept_clause s.f units place clause) (kept_clauses s.f units (suc place) clauses)
    (by-satisfied (Holds m) (is_satisfied (taken_literals units) clause) (taken_at place units)
    (left_of s.f (taken_literals units) clause) (taken_at-true m place units (all m follows)) left)
    rest

-- a clause that is kept stands among those that are left
pub kept-stands : (f : Dqbf) (units : List Taken) (place : ℕ) (clauses : List (List Literal)) (k : ℕ)
    (d kept : List Literal) → k < length clauses →
    kept_clause f units (place + k) (get_or clauses k d) ≡ Some kept
    → Contains (kept_clauses f units place clauses) kept
kept-stands f units place [] k d kept below is = absurd (omega arith)
kept-stands f units place (clause ∷ clauses) zero d kept below is = search arith
kept-stands f units place (clause ∷ clauses) (suc k) d kept below is =
    let later : kept_clause f units (suc place + k) (get_or clauses k d) ≡ Some kept =
    ap (λ p. kept_clause f units p (get_or clauses k d)) (omega arith) ∙ is in
    behind (kept_clause f units place clause) (kept_clauses f units (suc place) clauses) kept
    (kept-stands f units (suc place) clauses k d kept (omega arith) later)
  where
    behind : (o : Option (List Literal)) (rest : List (List Literal)) (kept : List Literal) → Contains rest kept
        → Contains (cons_option o rest) kept
    behind None rest kept h = h
    behind (Some c) rest kept h = (suc h.0, omega (arith, h.1), h.2)

kept-true : (f : Dqbf) (units : List Taken) (m : Assignment) (k : ℕ) (d kept : List Literal)
    → MatrixHolds (simplified_formula f units) m → k < length f.matrix →
    kept_clause f units k (get_or f.matrix k d) ≡ Some kept → Holds m kept
kept-true f units m k d kept holds below is =
    All-contains (Holds m) (kept_clauses f units 0 f.matrix) kept holds
    (kept-stands f units 0 f.matrix k d kept below
    (ap (λ p. kept_clause f units p (get_or f.matrix k d)) (omega arith) ∙ is))

all-true : (m : Assignment) (units : List Taken)
    → ((k : ℕ) (d : Taken) → k < length units → literal_true m (get_or units k d).literal ≡ true)
    → AllTrue m (taken_literals units)
all-true m [] each = tt
all-true m (u ∷ us) each = (each 0 u (omega arith), all-true m us (λ k d below. each (suc k) d (omega arith)))

single-true : (m : Assignment) (l : Literal) → Holds m (l ∷ []) → literal_true m l ≡ true
single-true m l h = elim (or_cases (literal_true m l) false h) [ inl here ↦ here | inr none ↦ cc ]

-- the units are true where what is left holds
units-hold : (f : Dqbf) (units : List Taken) (m : Assignment) → AreUnits f units
    → MatrixHolds (simplified_formula f units) m → AllTrue m (taken_literals units)
units-hold f units m are holds' = all-true m units (λ k d below.
    let u = get_or units k d in
    let c = unit-clause f units k d are below in
    let at = get-at f.matrix u.place c.0 c.1 in
    let satisfied = satisfied-by (taken_literals units) c.0 u.literal c.2 (taken-holds units k d below) in
    let kept : kept_clause f units u.place (get_or f.matrix u.place []) ≡ Some (u.literal ∷ []) =
    ap (kept_clause f units u.place) (at.1 [])
    ∙ cond-true (is_satisfied (taken_literals units) c.0) (taken_at u.place units)
    (Some (left_of f (taken_literals units) c.0)) satisfied
    ∙ unit-taken f units k d are below in
    single-true m u.literal (kept-true f units m u.place [] (u.literal ∷ []) holds' at.0 kept))

-- so each clause is true
clause-holds : (f : Dqbf) (units : List Taken) (m : Assignment) → AreUnits f units
    → MatrixHolds (simplified_formula f units) m → MatrixHolds f m
clause-holds f units m are holds' k d below =
    let clause = get_or f.matrix k d in
    let trues = taken_literals units in
    elim (true-or-false (is_satisfied trues clause)) [
      | inl satisfied ↦ satisfied-true m trues clause (units-hold f units m are holds') satisfied
      | inr open' ↦
          let kept : kept_clause f units k clause ≡ Some (left_of f trues clause) =
          cond-false (is_satisfied trues clause) (taken_at k units) (Some (left_of f trues clause)) open' in
          left-true f m trues clause (kept-true f units m k d (left_of f trues clause) holds' below kept)
    ]

pub keeps : Extending → (f : Dqbf) (units : List Taken) (choice : HenkinChoice) → IsWellFormed f → IsLawful f
    → AreUnits f units →
    (Solves choice f → Solves choice (simplified_formula f units)) ×
    (Solves choice (simplified_formula f units) → Solves choice f)
keeps extends f units choice well lawful are =
    let s : Setting = record { extends = extends; f = f; well = well; lawful = lawful; choice = choice } in (
      λ solves m follows. All-from_recursion (Holds m) (kept_clauses f units 0 f.matrix)
          (kept-follows s units are solves m follows 0 f.matrix well.bound solves),
      λ solves m follows. clause-holds f units m are (solves m follows),
    )
