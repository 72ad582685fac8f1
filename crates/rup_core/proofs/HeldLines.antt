-- Lines by the places of their clauses.
use Rattle.std.proofs.Common.{◌≡◌, ℕ, zero, suc, ◌+◌, ◌<◌, ◌≤◌, ◌==◌, Bool, not, cond, inl, inr, List, [], ◌∷◌, ◌++◌, length, Option, None, Some, IsSome, refl, sym, ◌∙◌, ap, ap₂, subst, arith, length-append, eq-eqb}
use Rattle.std.specs.List.{All, filter}
use Rattle.std.proofs.Math.ListN.{get_or-append}
use Rattle.std.proofs.lemmas.Bool.{cases_Bool, cases_eq, cases_lt, ne_eqb}
use Rattle.std.proofs.lemmas.List.{append-nil, get_or-append-add}
use Rattle.std.proofs.lemmas.List.Elements.{filter-append}
use Rattle.dq_lits.specs.Literal.{Literal}
use Rattle.rup_core.specs.Lines.{clause_of_id, line_at, lines_below}
use Rattle.rup_core.specs.Paging.{Sets}

abbrev Places : Type 0
Places = ℕ → Option (List Literal)

-- places that agree have the same lines
pub lines_same : (first n : ℕ) (at at' : Places) → ((k : ℕ) → k < n → at' k ≡ at k) →
    lines_below first n at' ≡ lines_below first n at
lines_same first zero at at' same = refl
lines_same first (suc n) at at' same =
    ap₂ (λ xs o. xs ++ line_at (first + n) o) (lines_same first n at at' (λ k below. same k (omega (arith, below))))
    (same n (omega arith))

-- places without a clause behind the others
pub lines_longer : (first n m : ℕ) (at : Places) → n ≤ m → ((k : ℕ) → n ≤ k → at k ≡ None) →
    lines_below first m at ≡ lines_below first n at
lines_longer first n zero at le none = ap (λ k. lines_below first k at) (let e : 0 ≡ n = omega (arith, le) in e)
lines_longer first n (suc m) at le none = elim (cases_eq n (suc m)) [
  | inl same ↦ ap (λ k. lines_below first k at) (sym same)
  | inr other ↦
      let below : n ≤ m = omega (arith, le, other) in
      ap (λ o. lines_below first m at ++ line_at (first + m) o) (none m below) ∙ append-nil (lines_below first m at)
      ∙ lines_longer first n m at below none
]

pub lines_enough : (first n m : ℕ) (at : Places) → ((k : ℕ) → n ≤ k → at k ≡ None) → ((k : ℕ) → m ≤ k → at k ≡ None) →
    lines_below first m at ≡ lines_below first n at
lines_enough first n m at none none' = elim (cases_lt n m) [
  | inl less ↦ lines_longer first n m at (omega (arith, less)) none
  | inr more ↦ sym (lines_longer first m n at more none')
]

-- one more line behind the others
pub line_put : (first n m p : ℕ) (at at' : Places) (clause : List Literal) → ((k : ℕ) → n ≤ k → at k ≡ None) →
    ((k : ℕ) → p ≤ k → at k ≡ None) → Sets at at' p (Some clause) →
    p < m → lines_below first m at' ≡ lines_below first n at ++ (first + p, clause) ∷ []
line_put first n m p at at' clause none free sets below =
    let behind : (k : ℕ) → suc p ≤ k → at' k ≡ None = λ k past. sets k ∙ ap (λ b. cond b (Some clause) (at k))
    (ne_eqb k p (λ e. omega (arith, e, past))) ∙ free k (omega (arith, past)) in
    let before : (k : ℕ) → k < p → at' k ≡ at k = λ k less. sets k ∙ ap (λ b. cond b (Some clause) (at k))
    (ne_eqb k p (λ e. omega (arith, e, less))) in
    let here : at' p ≡ Some clause = sets p ∙ ap (λ b. cond b (Some clause) (at p)) (eq-eqb p p refl) in
    lines_longer first (suc p) m at' below behind
    ∙ ap₂ (λ xs o. xs ++ line_at (first + p) o) (lines_same first p at at' before) here
    ∙ ap (λ xs. xs ++ (first + p, clause) ∷ []) (lines_enough first n p at none free)

-- the clause of an id
clause_of_id-append : (xs ys : List (ℕ × List Literal)) (id : ℕ) → clause_of_id xs id ≡ None →
    clause_of_id (xs ++ ys) id ≡ clause_of_id ys id
clause_of_id-append [] ys id none = refl
clause_of_id-append (x ∷ xs) ys id none = elim (cases_Bool (x.0 == id)) [
  | inl same ↦ (let bad : Some x.1 ≡ None = sym (ap (λ b. cond b (Some x.1) (clause_of_id xs id)) same) ∙ none in cc)
  | inr other ↦
      ap (λ b. cond b (Some x.1) (clause_of_id (xs ++ ys) id)) other
      ∙ clause_of_id-append xs ys id (sym (ap (λ b. cond b (Some x.1) (clause_of_id xs id)) other) ∙ none)
]

clause_of_id-first : (xs ys : List (ℕ × List Literal)) (id : ℕ) → clause_of_id ys id ≡ None →
    clause_of_id (xs ++ ys) id ≡ clause_of_id xs id
clause_of_id-first [] ys id none = none
clause_of_id-first (x ∷ xs) ys id none = ap (λ o. cond (x.0 == id) (Some x.1) o) (clause_of_id-first xs ys id none)

other_line : (own id : ℕ) (o : Option (List Literal)) → (own ≡ id → ⊥) → clause_of_id (line_at own o) id ≡ None
other_line own id None other = refl
other_line own id (Some clause) other = ap (λ b. cond b (Some clause) None) (ne_eqb own id other)

own_line : (id : ℕ) (o : Option (List Literal)) → clause_of_id (line_at id o) id ≡ o
own_line id None = refl
own_line id (Some clause) = ap (λ b. cond b (Some clause) None) (eq-eqb id id refl)

no_line : (first n : ℕ) (at : Places) (id : ℕ) → ((k : ℕ) → k < n → first + k ≡ id → ⊥) →
    clause_of_id (lines_below first n at) id ≡ None
no_line first zero at id apart = refl
no_line first (suc n) at id apart =
    clause_of_id-append (lines_below first n at) (line_at (first + n) (at n)) id
    (no_line first n at id (λ k below. apart k (omega (arith, below))))
    ∙ other_line (first + n) id (at n) (apart n (omega arith))

pub id_before : (first n : ℕ) (at : Places) (id : ℕ) → id < first → clause_of_id (lines_below first n at) id ≡ None
id_before first n at id before = no_line first n at id (λ k below e. omega (arith, before, e))

id_below : (first n k : ℕ) (at : Places) → k < n → clause_of_id (lines_below first n at) (first + k) ≡ at k
id_below first zero k at below = absurd (omega (arith, below))
id_below first (suc n) k at below = elim (cases_eq k n) [
  | inl same ↦
      let P : ℕ → Type 0 = λ j. clause_of_id (lines_below first (suc n) at) (first + j) ≡ at j in
      subst P (sym same)
      (clause_of_id-append (lines_below first n at) (line_at (first + n) (at n)) (first + n)
      (no_line first n at (first + n) (λ j less e. omega (arith, less, e)))
      ∙ own_line (first + n) (at n))
  | inr other ↦
      clause_of_id-first (lines_below first n at) (line_at (first + n) (at n)) (first + k)
      (other_line (first + n) (first + k) (at n) (λ e. other (omega (arith, e))))
      ∙ id_below first n k at (omega (arith, below, other))
]

pub clause_of_place : (first n k : ℕ) (at : Places) → ((j : ℕ) → n ≤ j → at j ≡ None) →
    clause_of_id (lines_below first n at) (first + k) ≡ at k
clause_of_place first n k at none = elim (cases_lt k n) [
  | inl below ↦ id_below first n k at below
  | inr past ↦ no_line first n at (first + k) (λ j less e. omega (arith, less, past, e)) ∙ sym (none k past)
]

-- the line that is gone
abbrev is_other : ℕ → ℕ × List Literal → Bool
is_other id line = not (line.0 == id)

filter_other : (own id : ℕ) (o : Option (List Literal)) → (own ≡ id → ⊥) →
    filter (is_other id) (line_at own o) ≡ line_at own o
filter_other own id None other = refl
filter_other own id (Some clause) other = ap (λ b. cond (not b) ((own, clause) ∷ []) []) (ne_eqb own id other)

filter_own : (id : ℕ) (o : Option (List Literal)) → filter (is_other id) (line_at id o) ≡ []
filter_own id None = refl
filter_own id (Some clause) = ap (λ b. cond (not b) ((id, clause) ∷ []) []) (eq-eqb id id refl)

pub line_gone : (first n p : ℕ) (at at' : Places) → Sets at at' p None →
    lines_below first n at' ≡ filter (is_other (first + p)) (lines_below first n at)
line_gone first zero p at at' sets = refl
line_gone first (suc n) p at at' sets =
    ap₂ (λ xs ys. xs ++ ys) (line_gone first n p at at' sets) (here n)
    ∙ sym (filter-append (is_other (first + p)) (lines_below first n at) (line_at (first + n) (at n)))
  where
    here : (k : ℕ) → line_at (first + k) (at' k) ≡ filter (is_other (first + p)) (line_at (first + k) (at k))
    here k = elim (cases_eq k p) [
      | inl same ↦
          let P : ℕ → Type 0 = λ j. line_at (first + k) (at' k) ≡ filter (is_other (first + j))
          (line_at (first + k) (at k)) in
          subst P same (ap (line_at (first + k)) (sets k ∙ ap (λ b. cond b None (at k)) (eq-eqb k p same)) ∙ sym
          (filter_own (first + k) (at k)))
      | inr other ↦
          ap (line_at (first + k)) (sets k ∙ ap (λ b. cond b None (at k)) (ne_eqb k p other))
          ∙ sym (filter_other (first + k) (first + p) (at k) (λ e. other (omega (arith, e))))
    ]

pub before_stays : (first n id : ℕ) (at : Places) → id < first →
    filter (is_other id) (lines_below first n at) ≡ lines_below first n at
before_stays first zero id at before = refl
before_stays first (suc n) id at before =
    filter-append (is_other id) (lines_below first n at) (line_at (first + n) (at n))
    ∙ ap₂ (λ xs ys. xs ++ ys) (before_stays first n id at before)
    (filter_other (first + n) id (at n) (λ e. omega (arith, e, before)))

pub nothing_gone : (at : Places) (p : ℕ) → at p ≡ None → Sets at at p None
nothing_gone at p none k = elim (cases_eq k p) [
  | inl same ↦ ap at same ∙ none ∙ sym (ap (λ b. cond b None (at k)) (eq-eqb k p same))
  | inr other ↦ sym (ap (λ b. cond b None (at k)) (ne_eqb k p other))
]

-- how many lines there are
length-line_at : (id : ℕ) (o : Option (List Literal)) → length (line_at id o) ≤ 1
length-line_at id None = omega arith
length-line_at id (Some clause) = omega arith

few_lines : (first n : ℕ) (at : Places) → length (lines_below first n at) ≤ n
few_lines first zero at = omega arith
few_lines first (suc n) at =
    omega (
      arith,
      few_lines first n at,
      length-line_at (first + n) (at n),
      length-append (lines_below first n at) (line_at (first + n) (at n)),
    )

pub lines_before : (first n p : ℕ) (at : Places) → ((k : ℕ) → n ≤ k → at k ≡ None) → ((k : ℕ) → p ≤ k → at k ≡ None) →
    length (lines_below first n at) ≤ p
lines_before first n p at none free = omega (
  arith,
  few_lines first p at,
  ap length (lines_enough first n p at none free),
)

length-some : (id : ℕ) (o : Option (List Literal)) → IsSome o → length (line_at id o) ≡ 1
length-some id None some = cc
length-some id (Some clause) some = refl

one_less : (first n p : ℕ) (at at' : Places) → Sets at at' p None → IsSome (at p) → p < n →
    length (lines_below first n at') + 1 ≡ length (lines_below first n at)
one_less first zero p at at' sets some below = absurd (omega (arith, below))
one_less first (suc n) p at at' sets some below = elim (cases_eq p n) [
  | inl same ↦
      let gone : at' n ≡ None = sets n ∙ ap (λ b. cond b None (at n)) (eq-eqb n p (sym same)) in
      let Q : ℕ → Type 0 = λ j. IsSome (at j) in
      let one = length-some (first + n) (at n) (subst Q same some) in
      let none : length (line_at (first + n) (at' n)) ≡ 0 = ap (λ o. length (line_at (first + n) o)) gone in
      let rest : length (lines_below first n at') ≡ length (lines_below first n at) =
      ap length (lines_same first n at at' (λ k less. sets k ∙ ap (λ b. cond b None (at k))
      (ne_eqb k p (λ e. omega (arith, e, less, same))))) in
      omega (
        arith,
        one,
        none,
        rest,
        length-append (lines_below first n at) (line_at (first + n) (at n)),
        length-append (lines_below first n at') (line_at (first + n) (at' n)),
      )
  | inr other ↦
      let kept : at' n ≡ at n = sets n ∙ ap (λ b. cond b None (at n)) (ne_eqb n p (λ e. other (sym e))) in
      let same : length (line_at (first + n) (at' n)) ≡ length (line_at (first + n) (at n)) =
      ap (λ o. length (line_at (first + n) o)) kept in
      let rest = one_less first n p at at' sets some (omega (arith, below, other)) in
      omega (
        arith,
        rest,
        same,
        length-append (lines_below first n at) (line_at (first + n) (at n)),
        length-append (lines_below first n at') (line_at (first + n) (at' n)),
      )
]

pub one_line_less : (first n p : ℕ) (at at' : Places) → ((k : ℕ) → n ≤ k → at k ≡ None) → Sets at at' p None →
    IsSome (at p) →
    length (lines_below first n at') + 1 ≡ length (lines_below first n at)
one_line_less first n p at at' none sets some = elim (cases_lt p n) [
  | inl below ↦ one_less first n p at at' sets some below
  | inr past ↦ (let P : Option (List Literal) → Type 0 = λ o. IsSome o in
      let bad : P None = subst P (none p past) some in cc)
]

-- ids below another one
all_left : (P : ℕ × List Literal → Type 0) (xs ys : List (ℕ × List Literal)) → All P (xs ++ ys) → All P xs
all_left P xs ys all i d below = subst P (get_or-append xs ys d i below)
    (all i d (omega (arith, below, length-append xs ys)))

all_right : (P : ℕ × List Literal → Type 0) (xs ys : List (ℕ × List Literal)) → All P (xs ++ ys) → All P ys
all_right P xs ys all i d below = subst P (get_or-append-add xs ys i d)
    (all (length xs + i) d (omega (arith, below, length-append xs ys)))

pub none_from : (first n p : ℕ) (at : Places) → All (λ line. line.0 < first + p) (lines_below first n at) → (k : ℕ) →
    p ≤ k → k < n → at k ≡ None
none_from first zero p at above k past below = absurd (omega (arith, below))
none_from first (suc n) p at above k past below = elim (cases_eq k n) [
  | inl same ↦ ap at same ∙ by (at n) (all_right (λ line. line.0 < first + p) (lines_below first n at)
      (line_at (first + n) (at n)) above)
  | inr other ↦ none_from first n p at (all_left (λ line. line.0 < first + p) (lines_below first n at)
      (line_at (first + n) (at n)) above) k past (omega (arith, below, other))
]
  where
    by : (o : Option (List Literal)) → All (λ line. line.0 < first + p) (line_at (first + n) o) → o ≡ None
    by None all = refl
    by (Some clause) all = absurd (let bad = all 0 (first + n, clause) (omega arith) in omega (arith, bad, past, below))

pub no_lines : (first n : ℕ) (at : Places) (id : ℕ) → All (λ line. line.0 < id) (lines_below first n at) → id < first →
    lines_below first n at ≡ []
no_lines first zero at id above before = refl
no_lines first (suc n) at id above before =
    ap₂ (λ xs ys. xs ++ ys) (no_lines first n at id (all_left (λ line. line.0 < id) (lines_below first n at)
    (line_at (first + n) (at n)) above) before)
    (by (at n) (all_right (λ line. line.0 < id) (lines_below first n at) (line_at (first + n) (at n)) above))
  where
    by : (o : Option (List Literal)) → All (λ line. line.0 < id) (line_at (first + n) o) → line_at (first + n) o ≡ []
    by None all = refl
    by (Some clause) all = absurd (let bad = all 0 (first + n, clause) (omega arith) in omega (arith, bad, before))
