-- A derived line is true where the clauses of its hints are.
use Rattle.std.proofs.Common.{◌≡◌, ℕ, ◌+◌, ◌==◌, Bool, true, false, cond, List, [], ◌∷◌, map, get_or, None, Some, refl, ◌∙◌, ap}
use Rattle.std.specs.List.{All, list_any}
use Rattle.std.proofs.lemmas.Bool.{eq-eqb, cond-true}
use Rattle.std.proofs.lemmas.List.Elements.{All-contains, All-head, All-tail}
use Rattle.std.proofs.lemmas.List.Folds.{list_any_at}
use Rattle.list_laws.proofs.Members.{contains_listed}
use Rattle.dq_lits.specs.Literal.{Assignment, Literal, opposite, clause_true}
use Rattle.dq_lits.specs.Derivation.{LiveClauses, MakesTrue, IsDerived, status_of, fault_by, hint_fault, is_tautology}
use Rattle.dq_lits.proofs.HeldLiterals.{fault_by-same}

-- the law of derived lines
abbrev pub LinesAreImplied : Type 0
LinesAreImplied = (live : LiveClauses) (literals : List Literal) (hints : List ℕ) → IsDerived live literals hints →
    (m : Assignment) → MakesTrue m live → clause_true m literals ≡ true

-- the clauses of these ids alone
abbrev only : List ℕ → LiveClauses → LiveClauses
only ids live id = cond (list_any (λ i. i == id) ids) (live id) None

-- where the id has a clause, it is true
abbrev pub IsTrueAt : Assignment → LiveClauses → ℕ → Type 0
IsTrueAt m live id = (c : List Literal) → live id ≡ Some c → clause_true m c ≡ true

same_fault : (live other : LiveClauses) (hints : List ℕ) → All (λ i. live i ≡ other i) hints →
    (trues : List Literal) (place : ℕ) →
    hint_fault live trues place hints ≡ hint_fault other trues place hints
same_fault live other [] same trues place = refl
same_fault live other (h ∷ hs) same trues place =
    ap (λ c. fault_by (status_of trues c) place hs (λ l. hint_fault live (l ∷ trues) (place + 1) hs))
    (All-head (λ i. live i ≡ other i) h hs same)
    ∙ fault_by-same (status_of trues (other h)) place hs (λ l. hint_fault live (l ∷ trues) (place + 1) hs)
    (λ l. hint_fault other (l ∷ trues) (place + 1) hs)
    (λ l. same_fault live other hs (All-tail (λ i. live i ≡ other i) h hs same) (l ∷ trues) (place + 1))

kept : (ids : List ℕ) (live : LiveClauses) → All (λ i. only ids live i ≡ live i) ids
kept ids live k d below =
    let i = get_or ids k d in
    cond-true (list_any (λ x. x == i) ids) (live i) None (list_any_at (λ x. x == i) ids k d below (eq-eqb i i refl))

pub true_by_hints : LinesAreImplied → (live : LiveClauses) (literals : List Literal) (hints : List ℕ) →
    IsDerived live literals hints →
    (m : Assignment) → All (IsTrueAt m live) hints → clause_true m literals ≡ true
true_by_hints implied live literals hints derived m truth =
    implied (only hints live) literals hints
    (ap (λ fault. cond (is_tautology literals) (Some 0) fault)
    (same_fault (only hints live) live hints (kept hints live) (map opposite literals) 1) ∙ derived)
    m (λ id c is. by_bit id c (list_any (λ i. i == id) hints) refl is)
  where
    by_bit : (id : ℕ) (c : List Literal) (b : Bool) → list_any (λ i. i == id) hints ≡ b →
        cond b (live id) None ≡ Some c → clause_true m c ≡ true
    by_bit id c true among is = All-contains (IsTrueAt m live) hints id truth (contains_listed id hints among) c is
    by_bit id c false among is = cc
