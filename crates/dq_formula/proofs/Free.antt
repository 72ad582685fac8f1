-- The variables that occur undeclared, in ascending order.
use Rattle.std.proofs.Common.{◌≡◌, ℕ, ◌+◌, ◌≤◌, ◌<◌, Bool, true, false, true≢false, not, ◌||◌, ◌&&◌, List, [], ◌∷◌, ◌++◌, length, refl, ap, sym, ◌∙◌, subst, arith, cond, eqb, filter}
use Rattle.std.proofs.lemmas.List.Elements.{All-nil, All-push, All-filter, All-from_recursion, recursion_from_All, filter_agree}
use Rattle.std.proofs.lemmas.List.FromFn.{length-range_with_len, get_or-range_with_len}
use Rattle.std.proofs.lemmas.List.Folds.{list_any-append}
use Rattle.std.proofs.lemmas.List.Sorted.{list_any-IsPermutation, All-permutation, IsNonDecreasingBy-from_sort}
use Rattle.std.proofs.lemmas.Map.Keys.{IsStrictlyIncreasing-from_distinct, IsDistinct-IsPermutation, IsDistinct-from_apart, IsDistinct-push, IsDistinct-head, IsDistinct-tail, IsDistinct-cons}
use Rattle.std.specs.List.{list_any, All, AllByRecursion, IsDistinct, range_with_len}
use Rattle.std.specs.List.Sorted.{IsPermutation, IsSorted}
use Rattle.std.specs.Ordering.{nat_cmp}
use Rattle.std.proofs.lemmas.Bool.{eqb-true}
use Rattle.list_laws.proofs.Numbers.{eqb-flip}
use Rattle.number_tables.specs.Numbers.{with_number}
use Rattle.dq_lits.specs.Formula.{Dqbf}
use Rattle.dq_formula.specs.Prefix.{occurs, is_declared, free_variables, AreUndeclaredIn}
use Rattle.dq_lits.specs.Literal.{Literal, variable_of}
use Rattle.dq_formula.proofs.Places.{has, Rise, at, at-filter, ne-false}
use Rattle.dq_formula.proofs.Sorted.{Rise-from_increasing}

pub IsDistinct-range_with_len : (a n : ℕ) → IsDistinct eqb (range_with_len a n)
IsDistinct-range_with_len a n =
    search (arith, IsDistinct-from_apart, length-range_with_len, get_or-range_with_len, ne-false)

-- each number stands at its own place in a range
at-range_with_len : (low n high : ℕ) (ps : List ℕ) → Rise high (low + n) ps → low ≤ high →
    at (range_with_len low n) low ps ≡ ps
at-range_with_len low n high [] h le = refl
at-range_with_len low n high (p ∷ ps) h le =
    search (arith, get_or-range_with_len, (at-range_with_len low n (p + 1) ps h.2))

-- distinct numbers of a range, sorted, are those of the range that are among them
pub range-filter : (low n : ℕ) (vs sorted : List ℕ) → All (λ v. (low ≤ v) × (v < low + n)) vs → IsDistinct eqb vs →
    IsPermutation vs sorted → IsSorted nat_cmp sorted
    → sorted ≡ filter (has vs) (range_with_len low n)
range-filter low n vs sorted within distinct moved order =
    let us = range_with_len low n in
    let below : All (λ p. (low ≤ p) × (p < low + n)) sorted = search (arith, All-permutation) in
    let apart : IsDistinct eqb sorted = IsDistinct-IsPermutation eqb eqb-flip vs sorted moved distinct in
    let up = IsStrictlyIncreasing-from_distinct sorted (IsNonDecreasingBy-from_sort (λ x. x) sorted order) apart in
    let rise : Rise low (low + n) sorted = Rise-from_increasing low (low + n) sorted up below in
    let size : low + n ≡ low + length us = ap (λ k. low + k) (sym (length-range_with_len low n)) in
    let picked : at us low sorted ≡ filter (has (at us low sorted)) us =
    at-filter us low sorted (IsDistinct-range_with_len low n) (subst (λ k. Rise low k sorted) size rise) in
    let plain : at us low sorted ≡ sorted = at-range_with_len low n low sorted rise (omega arith) in
    let kept : sorted ≡ filter (has sorted) us = subst (λ qs. qs ≡ filter (has qs) us) plain picked in
    kept ∙ filter_agree (has sorted) (has vs) (λ u. sym (list_any-IsPermutation (λ x. eqb x u) vs sorted moved)) us

-- the undeclared variables that occur, sorted
pub free-variables : (f : Dqbf) (vs sorted : List ℕ) → AreUndeclaredIn f f.matrix vs → IsPermutation vs sorted →
    IsSorted nat_cmp sorted → sorted ≡ free_variables f
free-variables f vs sorted are moved order = search (arith, (range-filter 1 f.variables vs sorted), filter_agree)

-- no clause, and an empty one more
pub none_undeclared : (f : Dqbf) → AreUndeclaredIn f [] []
none_undeclared f = search (arith, IsDistinct-from_apart, All-nil)

occurs-push : (clauses : List (List Literal)) (c : List Literal) (v : ℕ) →
    occurs (clauses ++ c ∷ []) v ≡ (occurs clauses v || (list_any (λ l. eqb (variable_of l) v) c || false))
occurs-push clauses c v = list_any-append (list_any (λ l. eqb (variable_of l) v)) clauses (c ∷ [])

-- a literal more in the last clause
occurs-literal : (clauses : List (List Literal)) (c : List Literal) (l : Literal) (v : ℕ) →
    occurs (clauses ++ (c ++ l ∷ []) ∷ []) v ≡ (occurs (clauses ++ c ∷ []) v || eqb (variable_of l) v)
occurs-literal clauses c l v = search (arith, occurs-push, list_any-append)

-- on a declared variable
pub declared_literal : (f : Dqbf) (clauses : List (List Literal)) (c : List Literal) (l : Literal) (vs : List ℕ) →
    is_declared f (variable_of l) ≡ true
    → AreUndeclaredIn f (clauses ++ c ∷ []) vs → AreUndeclaredIn f (clauses ++ (c ++ l ∷ []) ∷ []) vs
declared_literal f clauses c l vs declared are = record {
  distinct = are.distinct;
  in_range = are.in_range;
  complete = λ v. are.complete v ∙ same v (eqb (variable_of l) v) refl ∙ ap (λ b. not (is_declared f v) && b)
      (sym (occurs-literal clauses c l v));
}
  where
    absorbed : (d o : Bool) → d ≡ true → (not d && o) ≡ (not d && (o || true))
    absorbed true o e = refl
    absorbed false o e = absurd (true≢false (sym e))

    or-no : (b : Bool) → b ≡ (b || false)
    or-no true = refl
    or-no false = refl

    same : (v : ℕ) (e : Bool) → eqb (variable_of l) v ≡ e → (not (is_declared f v) && occurs (clauses ++ c ∷ []) v) ≡
        (not (is_declared f v) && (occurs (clauses ++ c ∷ []) v || eqb (variable_of l) v))
    same v true e = rw e (absorbed (is_declared f v) (occurs (clauses ++ c ∷ []) v)
        (ap (is_declared f) (sym (eqb-true (variable_of l) v e)) ∙ declared))
    same v false e = rw e (ap (λ b. not (is_declared f v) && b) (or-no (occurs (clauses ++ c ∷ []) v)))

-- on an undeclared one
has-insert : (vs : List ℕ) (w v : ℕ) → has (with_number vs w) v ≡ (has vs v || eqb w v)
has-insert vs w v = search (arith, eqb-true, list_any-append)

distinct-insert : (vs : List ℕ) (w : ℕ) → IsDistinct eqb vs → IsDistinct eqb (with_number vs w)
distinct-insert vs w distinct = search (arith, IsDistinct-push)

pub undeclared_literal : (f : Dqbf) (clauses : List (List Literal)) (c : List Literal) (l : Literal) (vs vs' : List ℕ) →
    is_declared f (variable_of l) ≡ false → 1 ≤ variable_of l → variable_of l ≤ f.variables
    → vs' ≡ with_number vs (variable_of l) → AreUndeclaredIn f (clauses ++ c ∷ []) vs →
    AreUndeclaredIn f (clauses ++ (c ++ l ∷ []) ∷ []) vs'
undeclared_literal f clauses c l vs vs' undeclared low high inserted are = record {
  distinct = subst (IsDistinct eqb) (sym inserted) (distinct-insert vs (variable_of l) are.distinct);
  in_range = subst (All (λ v. (1 ≤ v) × (v ≤ f.variables))) (sym inserted) (within (has vs (variable_of l)) refl);
  complete = λ v. ap (λ ks. has ks v) inserted ∙ has-insert vs (variable_of l) v ∙ ap (λ b. b || eqb (variable_of l) v)
      (are.complete v)
      ∙ same v (eqb (variable_of l) v) refl ∙ ap (λ b. not (is_declared f v) && b) (sym (occurs-literal clauses c l v));
}
  where
    within : (b : Bool) → has vs (variable_of l) ≡ b → All (λ v. (1 ≤ v) × (v ≤ f.variables))
        (with_number vs (variable_of l))
    within true h = rw h are.in_range
    within false h = rw h (All-push (λ v. (1 ≤ v) × (v ≤ f.variables)) vs (variable_of l) are.in_range (low, high))

    new : (d o : Bool) → d ≡ false → ((not d && o) || true) ≡ (not d && (o || true))
    new true o e = absurd (true≢false e)
    new false true e = refl
    new false false e = refl

    old : (d o : Bool) → ((not d && o) || false) ≡ (not d && (o || false))
    old true o = refl
    old false o = refl

    same : (v : ℕ) (e : Bool) → eqb (variable_of l) v ≡ e → ((not (is_declared f v) && occurs (clauses ++ c ∷ []) v) ||
        eqb (variable_of l) v) ≡ (not (is_declared f v) && (occurs (clauses ++ c ∷ []) v || eqb (variable_of l) v))
    same v true e = rw e (new (is_declared f v) (occurs (clauses ++ c ∷ []) v)
        (ap (is_declared f) (sym (eqb-true (variable_of l) v e)) ∙ undeclared))
    same v false e = rw e (old (is_declared f v) (occurs (clauses ++ c ∷ []) v))

pub IsDistinct-filter : (p : ℕ → Bool) (xs : List ℕ) → IsDistinct eqb xs → IsDistinct eqb (filter p xs)
IsDistinct-filter p [] d = d
IsDistinct-filter p (x ∷ xs) d = by (IsDistinct-filter p xs (IsDistinct-tail eqb x xs d)) (p x) refl
  where
    kept : (ys : List ℕ) → AllByRecursion (λ y. eqb x y ≡ false) ys →
        AllByRecursion (λ y. eqb x y ≡ false) (filter p ys)
    kept ys h = recursion_from_All (λ y. eqb x y ≡ false) (filter p ys)
        (All-filter p (λ y. eqb x y ≡ false) ys (All-from_recursion (λ y. eqb x y ≡ false) ys h))

    by : IsDistinct eqb (filter p xs) → (b : Bool) → p x ≡ b →
        IsDistinct eqb (cond (p x) (x ∷ filter p xs) (filter p xs))
    by rest true e = rw e (IsDistinct-cons eqb x (filter p xs) (kept xs (IsDistinct-head eqb x xs d)) rest)
    by rest false e = rw e rest

pub All-range : (low n : ℕ) → All (λ v. (low ≤ v) × (v < low + n)) (range_with_len low n)
All-range low n k d l = search (arith, length-range_with_len, get_or-range_with_len)
