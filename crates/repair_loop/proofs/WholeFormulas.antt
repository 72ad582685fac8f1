-- The formula of all clauses of a file is the file's.
use Rattle.std.proofs.Common.{◌≡◌, ◌+◌, ◌≤◌, ◌<◌, ◌⊎◌, inl, inr, ℕ, zero, suc, List, [], ◌∷◌, ◌++◌, length, map, slice_get, Some, refl, sym, ◌∙◌, ap, arith, append_assoc}
use Rattle.std.specs.List.{Contains, filter_map, cons_option, range_with_len}
use Rattle.std.proofs.lemmas.Bool.{cases_lt}
use Rattle.std.proofs.lemmas.List.{append-nil}
use Rattle.dq_lits.specs.Formula.{Dqbf}
use Rattle.dq_lits.specs.Literal.{Literal}
use Rattle.dq_formula.proofs.ClauseBlocks.{size}
use Rattle.hint_log.specs.Live.{with_matrix, formula_of}
use Rattle.hint_log.specs.Naming.{numbered_from_one}
use Rattle.dq_session.specs.Databases.{all_of, live_of, now_of}
use Rattle.dq_session.specs.Changes.{begun, file_live}
use Rattle.dq_session.specs.declared.live.Live.{Live}
use Rattle.expansion.specs.Table.{TableState}

abbrev numbers : ℕ → ℕ → List ℕ
numbers a n = map (λ (l : Live). l.clause) (map file_live (range_with_len a n))

at_end : (xs : List (List Literal)) (y : List Literal) (ys : List (List Literal)) →
    slice_get (xs ++ y ∷ ys) (length xs) ≡ Some y
at_end [] y ys = refl
at_end (x ∷ xs) y ys = at_end xs y ys

-- the clauses behind some are taken by their numbers
behind : (front m : List (List Literal)) (a : ℕ) → a ≡ suc (length front) →
    filter_map (numbered_from_one (front ++ m)) (numbers a (length m)) ≡ m
behind front [] a at = refl
behind front (x ∷ m) a at =
    let whole : (front ++ x ∷ []) ++ m ≡ front ++ x ∷ m = append_assoc front (x ∷ []) m in
    let long = size front x in
    let next : a + 1 ≡ suc (length (front ++ x ∷ [])) = omega (arith, at, long) in
    let taken : filter_map (numbered_from_one (front ++ x ∷ m)) (numbers (a + 1) (length m)) ≡ m =
    ap (λ xs. filter_map (numbered_from_one xs) (numbers (a + 1) (length m))) (sym whole)
    ∙ behind (front ++ x ∷ []) m (a + 1) next in
    let first : numbered_from_one (front ++ x ∷ m) a ≡ Some x =
    ap (numbered_from_one (front ++ x ∷ m)) at ∙ at_end front x m in
    ap (λ o. cons_option o (filter_map (numbered_from_one (front ++ x ∷ m)) (numbers (a + 1) (length m)))) first
    ∙ ap (λ cs. x ∷ cs) taken

pub whole_file : (f : Dqbf) → formula_of f (numbers 1 (length f.matrix)) ≡ f
whole_file f = ap (with_matrix f) (behind [] f.matrix 1 refl)

pub all_is_file : (f : Dqbf) (t : TableState) → all_of (begun f t) ≡ f
all_is_file f t = ap (with_matrix f) (append-nil f.matrix)

-- and so of its database
pub now_is_file : (f : Dqbf) (t : TableState) → f ≡ now_of (begun f t)
now_is_file f t = sym (ap (λ g. formula_of g (numbers 1 (length f.matrix))) (all_is_file f t) ∙ whole_file f)

numbers_have : (n a j : ℕ) → a ≤ j → j + 1 ≤ a + n → Contains (numbers a n) j
numbers_have zero a j low high = absurd (omega (arith, low, high))
numbers_have (suc n) a j low high =
    by (λ less. numbers_have n (a + 1) j (omega (arith, less)) (omega (arith, high))) (cases_lt a j)
  where
    by : (a < j → Contains (numbers (a + 1) n) j) → (a < j) ⊎ (j ≤ a) → Contains (numbers a (suc n)) j
    by later (inl less) = let r = later less in let below = r.1 in (suc r.0, omega (arith, below), r.2)
    by later (inr same) = (0, omega arith, (let e : a ≡ j = omega (arith, low, same) in e))

pub all_live : (f : Dqbf) (t : TableState) (j : ℕ) → 1 ≤ j → j ≤ length f.matrix →
    Contains (live_of (begun f t)) j
all_live f t j low high = numbers_have (length f.matrix) 1 j low (omega (arith, high))
