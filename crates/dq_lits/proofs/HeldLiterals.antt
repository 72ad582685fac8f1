-- Lemmas on which literals a list holds.
use Rattle.std.proofs.Common.{◌≡◌, Bool, true, inl, inr, List, [], ◌∷◌, sym, ◌∙◌, ap, refl, false, ◌||◌, cond, not, ℕ, Option, subst, map, ◌++◌, Some, Contains, zero, ◌+◌, arith, suc, slice_get, ◌⊎◌}
use Rattle.std.specs.List.{list_any, All, filter}
use Rattle.std.proofs.lemmas.Bool.{or_cases, or_left, or_right, true≢false, cases_Bool, false≢true}
use Rattle.std.proofs.lemmas.List.Elements.{All-cons, All-nil, All-head, All-tail, Contains-append_right}
use Rattle.std.proofs.lemmas.List.Folds.{list_any-append}
use Rattle.std.proofs.lemmas.Option.{same_Some}
use Rattle.dq_lits.specs.Literal.{Literal, same_literal, opposite}
use Rattle.dq_lits.specs.Derivation.{holds, ClauseStatus, falsified, unit, stuck, fault_by, LiveClauses, is_tautology, IsDerived, status_of, hint_fault}
use Rattle.dq_lits.proofs.Truth.{same_literal-sound}
use Rattle.dq_lits.proofs.SignedLiterals.{same_literal-refl, same_opposite, opposite-opposite}

-- a literal that is held and passes
pub any_one : (p : Literal → Bool) (xs : List Literal) (l : Literal) → holds xs l ≡ true → p l ≡ true
    → list_any p xs ≡ true
any_one p [] l here passes = here
any_one p (x ∷ xs) l here passes = elim (or_cases (same_literal l x) (holds xs l) here) [
  | inl same ↦ or_left (p x) (list_any p xs) (ap p (sym (same_literal-sound l x same)) ∙ passes)
  | inr later ↦ or_right (p x) (list_any p xs) (any_one p xs l later passes)
]

-- a literal that passes
pub any_gives : (p : Literal → Bool) (xs : List Literal) → list_any p xs ≡ true →
    (l : Literal) × (holds xs l ≡ true) × (p l ≡ true)
any_gives p [] some = cc
any_gives p (x ∷ xs) some = elim (or_cases (p x) (list_any p xs) some) [
  | inl here ↦ (x, or_left (same_literal x x) (holds xs x) (same_literal-refl x), here)
  | inr later ↦ (let r = any_gives p xs later in (r.0, or_right (same_literal r.0 x) (holds xs r.0) r.1, r.2))
]

pub all_held : (P : Literal → Type 0) (clause : List Literal) → ((l : Literal) → holds clause l ≡ true → P l) → All P clause
all_held P [] each = All-nil P
all_held P (l ∷ ls) each = All-cons P l ls (each l (or_left (same_literal l l) (holds ls l) (same_literal-refl l)))
    (all_held P ls (λ k h. each k (or_right (same_literal k l) (holds ls k) h))) where
      or_left : (a b : Bool) → a ≡ true → (a || b) ≡ true
      or_left true b h = refl
      or_left false b h = absurd (true≢false (sym h))

      or_right : (a b : Bool) → b ≡ true → (a || b) ≡ true
      or_right true b h = refl
      or_right false b h = h

pub holds_here : (l : Literal) (rest : List Literal) → holds (l ∷ rest) l ≡ true
holds_here l rest = or_left (same_literal l l) (holds rest l) (same_literal-refl l)

pub holds_later : (x : Literal) (xs : List Literal) (l : Literal) → holds xs l ≡ true → holds (x ∷ xs) l ≡ true
holds_later x xs l h = or_right (same_literal l x) (holds xs l) h

abbrev pub not_false : List Literal → List Literal → List Literal
not_false trues clause = filter (λ l. not (holds trues (opposite l))) clause

-- what is left is of the clause, and isn't false
pub left_among : (trues clause : List Literal) (l : Literal) → holds (not_false trues clause) l ≡ true →
    (holds clause l ≡ true) × (holds trues (opposite l) ≡ false)
left_among trues [] l h = absurd (false≢true h)
left_among trues (x ∷ c) l h =
    elim (cases_Bool (holds trues (opposite x))) [
      | inl e ↦
          let r = left_among trues c l (sym (ap (λ b. holds (cond (not b) (x ∷ not_false trues c) (not_false trues c))
          l) e) ∙ h) in
          (holds_later x c l r.0, r.1)
      | inr e ↦
          let k : holds (x ∷ not_false trues c) l ≡ true = sym
          (ap (λ b. holds (cond (not b) (x ∷ not_false trues c) (not_false trues c)) l) e) ∙ h in
          elim (or_cases (same_literal l x) (holds (not_false trues c) l) k) [
            | inl s ↦
                let q = same_literal-sound l x s in
                (ap (holds (x ∷ c)) q ∙ holds_here x c, ap (λ y. holds trues (opposite y)) q ∙ e)
            | inr later ↦ let r = left_among trues c l later in (holds_later x c l r.0, r.1)
          ]
    ]

pub fault_by-same : (s : ClauseStatus) (place : ℕ) (hints : List ℕ) (f g : Literal → Option ℕ) → ((l : Literal) → f l ≡ g l) →
    fault_by s place hints f ≡ fault_by s place hints g
fault_by-same falsified place [] f g same = refl
fault_by-same falsified place (_ ∷ _) f g same = refl
fault_by-same (unit l) place hints f g same = same l
fault_by-same stuck place hints f g same = refl

pub filter-holds : (g : Literal → Bool) (xs : List Literal) (l : Literal) → holds xs l ≡ true → g l ≡ true
    → holds (filter g xs) l ≡ true
filter-holds g [] l here passes = here
filter-holds g (x ∷ xs) l here passes = elim (or_cases (same_literal l x) (holds xs l) here) [
  | inl same ↦
      let it : g x ≡ true = ap g (sym (same_literal-sound l x same)) ∙ passes in
      ap (λ b. holds (cond b (x ∷ filter g xs) (filter g xs)) l) it
      ∙ or_left (same_literal l x) (holds (filter g xs) l) same
  | inr later ↦ behind (g x) (filter-holds g xs l later passes)
]
  where
    behind : (b : Bool) → holds (filter g xs) l ≡ true → holds (cond b (x ∷ filter g xs) (filter g xs)) l ≡ true
    behind true h = or_right (same_literal l x) (holds (filter g xs) l) h
    behind false h = h

-- a literal that is true in a list of true ones
pub held_of_all : (P : Literal → Type 0) (xs : List Literal) → All P xs → (l : Literal) → holds xs l ≡ true → P l
held_of_all P [] all l h = cc
held_of_all P (x ∷ xs) all l h = elim (or_cases (same_literal l x) (holds xs l) h) [
  | inl same ↦ subst P (sym (same_literal-sound l x same)) (All-head P x xs all)
  | inr later ↦ held_of_all P xs (All-tail P x xs all) l later
]

pub negated-held : (ls : List Literal) (l : Literal) → holds ls l ≡ true → holds (map opposite ls) (opposite l) ≡ true
negated-held [] l h = h
negated-held (k ∷ ks) l h = elim (or_cases (same_literal l k) (holds ks l) h) [
  | inl same ↦
      or_left (same_literal (opposite l) (opposite k)) (holds (map opposite ks) (opposite l))
      (ap (λ x. same_literal (opposite l) (opposite x)) (sym (same_literal-sound l k same))
      ∙ same_literal-refl (opposite l))
  | inr later ↦
      or_right (same_literal (opposite l) (opposite k)) (holds (map opposite ks) (opposite l))
      (negated-held ks l later)
]

pub filter-passes : (g : Literal → Bool) (xs : List Literal) (l : Literal) → holds (filter g xs) l ≡ true → g l ≡ true
filter-passes g [] l held = absurd (true≢false (sym held))
filter-passes g (x ∷ xs) l held = by (filter-passes g xs l) (g x) refl held
  where
    by : (holds (filter g xs) l ≡ true → g l ≡ true) → (b : Bool) → g x ≡ b → holds (cond b (x ∷ filter g xs) (filter g xs)) l ≡ true → g l ≡ true
    by rest true e h = elim (or_cases (same_literal l x) (holds (filter g xs) l) h) [
      | inl same ↦ ap g (same_literal-sound l x same) ∙ e
      | inr later ↦ rest later
    ]
    by rest false e h = rest h

pub holds-map : (line : List Literal) (l : Literal) → holds (map opposite line) (opposite l) ≡ holds line l
holds-map [] l = refl
holds-map (k ∷ line) l = ap (λ b. b || holds (map opposite line) (opposite l)) (same_opposite l k) ∙ ap
    (λ b. same_literal l k || b) (holds-map line l)

-- a literal stands in the negated clause where its negation stands in the clause
pub holds-opposites : (clause : List Literal) (l : Literal) → holds (map opposite clause) l ≡ holds clause (opposite l)
holds-opposites clause l = ap (holds (map opposite clause)) (sym (opposite-opposite l)) ∙ holds-map clause (opposite l)

pub holds-append : (xs ys : List Literal) (k : Literal) → holds (xs ++ ys) k ≡ (holds xs k || holds ys k)
holds-append xs ys k = list_any-append (same_literal k) xs ys

hint_fault-live : (live other : LiveClauses) (hints : List ℕ) → ((id : ℕ) → Contains hints id → live id ≡ other id) →
    (trues : List Literal) (place : ℕ) → hint_fault live trues place hints ≡ hint_fault other trues place hints
hint_fault-live live other [] same trues place = refl
hint_fault-live live other (h ∷ hints) same trues place =
    ap (λ c. fault_by (status_of trues c) place hints (λ l. hint_fault live (l ∷ trues) (place + 1) hints))
    (same h (zero, omega arith, refl))
    ∙ fault_by-same (status_of trues (other h)) place hints (λ l. hint_fault live (l ∷ trues) (place + 1) hints)
    (λ l. hint_fault other (l ∷ trues) (place + 1) hints)
    (λ l. hint_fault-live live other hints (λ id has. same id (Contains-append_right (h ∷ []) hints id has))
    (l ∷ trues) (place + 1))

pub derived-on : (live other : LiveClauses) (clause : List Literal) (hints : List ℕ) → ((id : ℕ) → Contains hints id →
    live id ≡ other id) → IsDerived live clause hints → IsDerived other clause hints
derived-on live other clause hints same derived =
    ap (λ x. cond (is_tautology clause) (Some 0) x) (sym (hint_fault-live live other hints same
    (map opposite clause) 1)) ∙ derived

pub held-at : (clause : List Literal) (k : ℕ) (l : Literal) → slice_get clause k ≡ Some l → holds clause l ≡ true
held-at [] k l at = cc
held-at (x ∷ xs) zero l at =
    or_left (same_literal l x) (holds xs l) (ap (λ y. same_literal l y) (same_Some x l at) ∙ same_literal-refl l)
held-at (x ∷ xs) (suc k) l at = or_right (same_literal l x) (holds xs l) (held-at xs k l at)

pub holds_cases : (x : Literal) (xs : List Literal) (l : Literal) → holds (x ∷ xs) l ≡ true →
    (l ≡ x) ⊎ (holds xs l ≡ true)
holds_cases x xs l h = elim (or_cases (same_literal l x) (holds xs l) h)
    [ inl same ↦ inl (same_literal-sound l x same) | inr later ↦ inr later ]

-- a literal of a part is one of the clause
pub holds_of_filter : (l : Literal) (g : Literal → Bool) (clause : List Literal) → holds (filter g clause) l ≡ true
    → holds clause l ≡ true
holds_of_filter l g [] h = h
holds_of_filter l g (k ∷ ks) h = by (g k) (holds_of_filter l g ks) h
  where
    by : (b : Bool) → (holds (filter g ks) l ≡ true → holds ks l ≡ true)
        → holds (cond b (k ∷ filter g ks) (filter g ks)) l ≡ true → holds (k ∷ ks) l ≡ true
    by true step h = elim (or_cases (same_literal l k) (holds (filter g ks) l) h) [
      | inl here ↦ or_left (same_literal l k) (holds ks l) here
      | inr later ↦ or_right (same_literal l k) (holds ks l) (step later)
    ]
    by false step h = or_right (same_literal l k) (holds ks l) (step h)
