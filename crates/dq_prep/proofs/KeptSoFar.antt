-- What is left is written down, clause by clause.
use Rattle.std.proofs.Common.{◌≡◌, ℕ, suc, ◌+◌, ◌<◌, ◌≤◌, true, false, List, [], ◌∷◌, ◌++◌, take, length, get_or, Option, Some, None, refl, sym, ◌∙◌, ap, subst, arith}
use Rattle.std.specs.Prelude.{slice_index_or}
use Rattle.std.specs.List.{All, cons_option, filter}
use Rattle.std.proofs.lemmas.Bool.{cond-true, cond-false}
use Rattle.std.proofs.lemmas.List.{get_or_default, append-nil, take_more, length-take}
use Rattle.dq_lits.specs.Literal.{Literal, variable_of}
use Rattle.dq_lits.specs.Formula.{Dqbf, IsWellFormed}
use Rattle.dq_lits.specs.Derivation.{is_tautology}
use Rattle.dq_formula.specs.Prefix.{IsLawful}
use Rattle.dq_formula.specs.declared.formula.TheConstants.{MAX_CLAUSES}
use Rattle.dq_prep.specs.declared.traces.Taken.{Taken}
use Rattle.dq_prep.specs.declared.takings.Taking.{Taking}
use Rattle.dq_prep.specs.Reduction.{stays}
use Rattle.dq_prep.specs.Units.{taken_literals, AreUnits, is_satisfied, without_false, left_of}
use Rattle.dq_prep.specs.Simplified.{taken_at, kept_clause, kept_clauses}
use Rattle.dq_prep.specs.KeptClauses.{unit_clause, IsTableOf, AreKeptBefore}
use Rattle.dq_prep.proofs.Kept.{IfKept}
use Rattle.dq_prep.proofs.LeftLiterals.{tautology-stays}
use Rattle.dq_prep.proofs.WellFormed.{IsBound, unit-bound, all-left, bound-small}

-- a clause that may be there, as a list
abbrev as_list : Option (List Literal) → List (List Literal)
as_list o = cons_option o []

cons-joined : (o : Option (List Literal)) (xs ys : List (List Literal))
    → cons_option o (xs ++ ys) ≡ cons_option o xs ++ ys
cons-joined None xs ys = refl
cons-joined (Some c) xs ys = refl

kept-append : (f : Dqbf) (units : List Taken) (place : ℕ) (clauses : List (List Literal)) (clause : List Literal)
    → kept_clauses f units place (clauses ++ clause ∷ [])
    ≡ kept_clauses f units place clauses ++ as_list (kept_clause f units (place + length clauses) clause)
kept-append f units place [] clause = ap (λ p. as_list (kept_clause f units p clause)) (omega arith)
kept-append f units place (c ∷ cs) clause =
    let last : Option (List Literal) = kept_clause f units (suc place + length cs) clause in
    ap (cons_option (kept_clause f units place c)) (kept-append f units (suc place) cs clause)
    ∙ cons-joined (kept_clause f units place c) (kept_clauses f units (suc place) cs) (as_list last)
    ∙ ap (λ p. cons_option (kept_clause f units place c) (kept_clauses f units (suc place) cs) ++ as_list
    (kept_clause f units p clause))
    (omega arith)

pub kept-few : (f : Dqbf) (units : List Taken) (place : ℕ) (clauses : List (List Literal))
    → length (kept_clauses f units place clauses) ≤ length clauses
kept-few f units place [] = omega arith
kept-few f units place (c ∷ cs) = by (kept_clause f units place c) (kept-few f units (suc place) cs)
  where
    rest : List (List Literal)
    rest = kept_clauses f units (suc place) cs

    by : (o : Option (List Literal)) → length rest ≤ length cs → length (cons_option o rest) ≤ suc (length cs)
    by None few = omega (arith, few)
    by (Some x) few = omega (arith, few)

-- there is room for one more clause
pub kept-room : (t : Taking) (g : Dqbf) (place : ℕ) → IsLawful t.formula.now → AreKeptBefore t g place
    → place < length t.formula.now.matrix → length g.matrix < MAX_CLAUSES
kept-room t g place lawful before within = search (arith, kept-few, length-take)

-- the next clause
kept-next : (t : Taking) (g : Dqbf) (place : ℕ) (o : Option (List Literal)) → AreKeptBefore t g place
    → place < length t.formula.now.matrix
    → kept_clause t.formula.now t.trace place (slice_index_or t.formula.now.matrix place []) ≡ o
    → AreKeptBefore t (record g { matrix = g.matrix ++ as_list o }) (place + 1)
kept-next t g place o before within is =
    let f = t.formula.now in
    let front = take place f.matrix in
    let clause = slice_index_or f.matrix place [] in
    let With : List (List Literal) → Dqbf = λ cs. record f { matrix = cs } in
    let More : Dqbf → Dqbf = λ q. record q { matrix = q.matrix ++ as_list o } in
    let size : length front ≡ place = length-take place f.matrix ∙ omega (arith, within) in
    ap More before
    ∙ ap (λ x. With (kept_clauses f t.trace 0 front ++ as_list x)) (sym is)
    ∙ ap (λ p. With (kept_clauses f t.trace 0 front ++ as_list (kept_clause f t.trace p clause)))
    (omega (arith, size))
    ∙ ap With (sym (kept-append f t.trace 0 front clause))
    ∙ ap (λ cs. With (kept_clauses f t.trace 0 cs)) (sym (take_more f.matrix place [] within))

satisfied-kept : (f : Dqbf) (units : List Taken) (place : ℕ) (clause : List Literal)
    → is_satisfied (taken_literals units) clause ≡ true → kept_clause f units place clause ≡ taken_at place units
satisfied-kept f units place clause h = search (arith, cond-true)

-- the entry of a table
table-entry : (units : List Taken) (n : ℕ) (table : List (Option Literal)) (place : ℕ) (entry d : Option Literal)
    → IsTableOf units n table → place < n → slice_index_or table place d ≡ entry
    → taken_at place units ≡ unit_clause entry
table-entry units n table place entry d are below is = search (arith, get_or_default)

pub unit-next : (t : Taking) (g : Dqbf) (table : List (Option Literal)) (place : ℕ) (l : Literal) (d : Option Literal)
    → IsTableOf t.trace (length t.formula.now.matrix) table → AreKeptBefore t g place
    → place < length t.formula.now.matrix
    → is_satisfied (taken_literals t.trace) (slice_index_or t.formula.now.matrix place []) ≡ true
    → slice_index_or table place d ≡ Some l
    → AreKeptBefore t (record g { matrix = g.matrix ++ (l ∷ []) ∷ [] }) (place + 1)
unit-next t g table place l d are before within satisfied is =
    kept-next t g place (Some (l ∷ [])) before within
    (satisfied-kept t.formula.now t.trace place (slice_index_or t.formula.now.matrix place []) satisfied
    ∙ table-entry t.trace (length t.formula.now.matrix) table place (Some l) d are within is)

pub nothing-next : (t : Taking) (g : Dqbf) (table : List (Option Literal)) (place : ℕ) (d : Option Literal)
    → IsTableOf t.trace (length t.formula.now.matrix) table → AreKeptBefore t g place
    → place < length t.formula.now.matrix
    → is_satisfied (taken_literals t.trace) (slice_index_or t.formula.now.matrix place []) ≡ true
    → slice_index_or table place d ≡ None → AreKeptBefore t g (place + 1)
nothing-next t g table place d are before within satisfied is =
    let With : List (List Literal) → Dqbf = λ cs. record g { matrix = cs } in
    subst (λ h. AreKeptBefore t h (place + 1)) (ap With (append-nil g.matrix))
    (kept-next t g place None before within
    (satisfied-kept t.formula.now t.trace place (slice_index_or t.formula.now.matrix place []) satisfied
    ∙ table-entry t.trace (length t.formula.now.matrix) table place None d are within is))

pub left-next : (t : Taking) (g : Dqbf) (place : ℕ) (left : List Literal) → AreKeptBefore t g place
    → place < length t.formula.now.matrix
    → is_satisfied (taken_literals t.trace) (slice_index_or t.formula.now.matrix place []) ≡ false
    → left ≡ left_of t.formula.now (taken_literals t.trace) (slice_index_or t.formula.now.matrix place [])
    → AreKeptBefore t (record g { matrix = g.matrix ++ left ∷ [] }) (place + 1)
left-next t g place left before within unsatisfied is =
    let f = t.formula.now in
    let clause = slice_index_or f.matrix place [] in
    let trues = taken_literals t.trace in
    kept-next t g place (Some left) before within
    (cond-false (is_satisfied trues clause) (taken_at place t.trace) (Some (left_of f trues clause)) unsatisfied
    ∙ ap Some (sym is))

-- variables of what is added are in range
pub unit-small : (t : Taking) (g : Dqbf) (table : List (Option Literal)) (place : ℕ) (l : Literal)
    (d : Option Literal)
    → IsWellFormed t.formula.now → AreUnits t.formula.now t.trace
    → IsTableOf t.trace (length t.formula.now.matrix) table → AreKeptBefore t g place
    → place < length t.formula.now.matrix → slice_index_or table place d ≡ Some l
    → All (λ k. variable_of k ≤ g.variables) (l ∷ [])
unit-small t g table place l d well units are before within is =
    let f = t.formula.now in
    let same = ap (λ q. q.variables) before in
    let entry = table-entry t.trace (length f.matrix) table place (Some l) d are within is in
    let bound : All (IsBound f) (l ∷ []) =
    subst (IfKept (All (IsBound f))) entry (unit-bound f t.trace well units place) in
    subst (λ n. All (λ k. variable_of k ≤ n) (l ∷ [])) (sym same)
    (λ k d below. bound-small f (get_or (l ∷ []) k d) well (bound k d below))

pub left-small : (t : Taking) (g : Dqbf) (place : ℕ) (left : List Literal) → IsWellFormed t.formula.now
    → AreKeptBefore t g place → place < length t.formula.now.matrix
    → left ≡ left_of t.formula.now (taken_literals t.trace) (slice_index_or t.formula.now.matrix place [])
    → All (λ k. variable_of k ≤ g.variables) left
left-small t g place left well before within is =
    let f = t.formula.now in
    let same = ap (λ q. q.variables) before in
    let all = all-left f (IsBound f) (taken_literals t.trace) (slice_index_or f.matrix place [])
    (well.bound place [] within) in
    subst (λ n. All (λ k. variable_of k ≤ n) left) (sym same)
    (λ k d below. bound-small f (get_or left k d) well (subst (All (IsBound f)) (sym is) all k d below))

-- what is left of a clause that isn't satisfied, by whether it is a tautology
pub left-tautology : (f : Dqbf) (trues clause : List Literal) → is_satisfied trues clause ≡ false
    → is_tautology clause ≡ true → without_false trues clause ≡ left_of f trues clause
left-tautology f trues clause unsatisfied both = search (arith, cond-true, tautology-stays)

pub left-reduced : (f : Dqbf) (trues clause : List Literal) → is_satisfied trues clause ≡ false
    → is_tautology clause ≡ false
    → filter (stays f (without_false trues clause)) (without_false trues clause) ≡ left_of f trues clause
left-reduced f trues clause unsatisfied plain = search (arith, cond-false, tautology-stays)
