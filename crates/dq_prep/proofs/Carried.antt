-- Lines stay derived by other ids, and units make a clause shorter.
use Rattle.std.proofs.Common.{◌≡◌, ℕ, ◌+◌, Bool, true, false, not, cond, ◌&&◌, inl, inr, List, [], ◌∷◌, ◌++◌, map, length, get_or, Option, Some, None, refl, sym, ◌∙◌, ap, arith}
use Rattle.std.specs.List.{All, list_all, filter}
use Rattle.std.proofs.lemmas.Bool.{true≢false, eq-eqb, or_cases, or_left, or_right, and_parts}
use Rattle.std.proofs.lemmas.List.Elements.{All-head, All-tail, filter_passes}
use Rattle.list_laws.proofs.Truths.{not_true}
use Rattle.list_laws.proofs.Options.{cond-none}
use Rattle.dq_lits.specs.Literal.{Literal, opposite, same_literal}
use Rattle.dq_lits.specs.Derivation.{LiveClauses, falsified, unit, stuck, holds, status_by, status_of, fault_by, hint_fault, is_tautology}
use Rattle.dq_lits.proofs.Truth.{same_literal-sound}
use Rattle.dq_lits.proofs.SignedLiterals.{opposite-opposite}
use Rattle.dq_lits.proofs.HeldLiterals.{holds-opposites}
use Rattle.dq_prep.proofs.Reduction.{true-or-false}
use Rattle.dq_prep.specs.Lifted.{IsCarried, LinesAreCarried, AreFalsifying, FalsifyingDerives}
use Rattle.dq_prep.proofs.SignedLiterals.{not-same, pair-in, pair-any}

-- a clause whose literals are all false is falsified
none-left : (trues clause : List Literal) → All (λ l. holds trues (opposite l) ≡ true) clause
    → filter (λ l. not (holds trues (opposite l))) clause ≡ []
none-left trues [] all = refl
none-left trues (l ∷ ls) all =
    let False : Literal → Type 0 = λ k. holds trues (opposite k) ≡ true in
    ap (λ b. cond (not b) (l ∷ filter (λ k. not (holds trues (opposite k))) ls)
    (filter (λ k. not (holds trues (opposite k))) ls)) (All-head False l ls all)
    ∙ none-left trues ls (All-tail False l ls all)

unit-status : (trues : List Literal) (l : Literal) → holds trues l ≡ false → holds trues (opposite l) ≡ false
    → status_of trues (Some (l ∷ [])) ≡ unit l
unit-status trues l here there = search arith

falsifying : (live : LiveClauses) (trues : List Literal) (units : List (ℕ × Literal)) (last place : ℕ)
    → AreFalsifying live trues units last →
    hint_fault live trues place (map (λ u. u.0) units ++ last ∷ []) ≡ None
falsifying live trues [] last place (clause, at, all) = search (arith, none-left)
falsifying live trues (u ∷ us) last place are =
    let rest : List ℕ = map (λ x. x.0) us ++ last ∷ [] in
    ap (λ o. fault_by (status_of trues o) place rest (λ l. hint_fault live (l ∷ trues) (place + 1) rest)) are.0
    ∙ ap (λ s. fault_by s place rest (λ l. hint_fault live (l ∷ trues) (place + 1) rest))
    (unit-status trues u.1 are.1 are.2)
    ∙ falsifying live (u.1 ∷ trues) us last (place + 1) are.3

pub derives : FalsifyingDerives
derives live literals units last plain are = search (arith, falsifying)

-- no literal stands beside its negation
abbrev IsConsistent : List Literal → Type 0
IsConsistent trues = (l : Literal) → holds trues l ≡ true → holds trues (opposite l) ≡ false

member-open : (trues clause : List Literal) (l : Literal) → holds clause l ≡ true → holds trues (opposite l) ≡ false
    → holds (filter (λ k. not (holds trues (opposite k))) clause) l ≡ true
member-open trues [] l here open' = here
member-open trues (k ∷ ks) l here open' =
    search (arith, or_cases, same_literal-sound, or_left, or_right, (member-open trues ks l))

-- all literals of a list are one
one-literal : (l k : Literal) (rest : List Literal) → list_all (same_literal l) rest ≡ true
    → holds (l ∷ rest) k ≡ true → k ≡ l
one-literal l k rest all h = elim (or_cases (same_literal k l) (holds rest k) h) [
  | inl same ↦ same_literal-sound k l same
  | inr later ↦ in-rest rest all later
]
  where
    in-rest : (rest : List Literal) → list_all (same_literal l) rest ≡ true → holds rest k ≡ true → k ≡ l
    in-rest [] all h = cc
    in-rest (q ∷ qs) all h = search (arith, and_parts, or_cases, same_literal-sound, (in-rest qs))

-- a clause that isn't stuck: what is left of it, and its status
data Moves (trues open' : List Literal) : Type 0 where
  all_false : open' ≡ [] → Moves trues open'
  one_left : (l : Literal) → (rest : List Literal) → open' ≡ l ∷ rest → list_all (same_literal l) rest ≡ true
      → holds trues l ≡ false → Moves trues open'

moves-by : (trues open' : List Literal) → (status_by trues open' ≡ stuck → ⊥) → Moves trues open'
moves-by trues [] free = all_false refl
moves-by trues (l ∷ rest) free = by (list_all (same_literal l) rest && not (holds trues l)) refl
  where
    by : (b : Bool) → (list_all (same_literal l) rest && not (holds trues l)) ≡ b → Moves trues (l ∷ rest)
    by false e = absurd (free (ap (λ b. cond b (unit l) stuck) e))
    by true e =
        let parts = and_parts (list_all (same_literal l) rest) (not (holds trues l)) e in
        one_left l rest refl parts.0 (not_true (holds trues l) parts.1)

two-open : (trues open' : List Literal) (p : Literal) → Moves trues open' → holds open' p ≡ true
    → holds open' (opposite p) ≡ true → ⊥
two-open trues open' p (all_false e) h1 h2 = true≢false (sym h1 ∙ ap (λ o. holds o p) e)
two-open trues open' p (one_left l rest e all none) h1 h2 = search (arith, one-literal, true≢false, not-same, eq-eqb)

true-open : (trues open' : List Literal) (p : Literal) → Moves trues open' → holds open' p ≡ true
    → holds trues p ≡ true → ⊥
true-open trues open' p (all_false e) h1 h2 = true≢false (sym h1 ∙ ap (λ o. holds o p) e)
true-open trues open' p (one_left l rest e all none) h1 h2 = search (arith, one-literal, true≢false)

abbrev open-part : List Literal → List Literal → List Literal
open-part trues clause = filter (λ l. not (holds trues (opposite l))) clause

-- what propagation can use is no tautology
plain-hint : (trues clause : List Literal) → IsConsistent trues → Moves trues (open-part trues clause)
    → is_tautology clause ≡ false
plain-hint trues clause consistent moves = elim (true-or-false (is_tautology clause)) [
  | inr plain ↦ plain
  | inl both ↦
      let r = pair-in clause clause both in
      let p = r.0 in
      absurd (elim (true-or-false (holds trues p)) [
        | inl here ↦ true-open trues (open-part trues clause) p moves
            (member-open trues clause p r.1 (consistent p here)) here
        | inr none ↦
            let open-q = member-open trues clause (opposite p) r.2
            (ap (holds trues) (opposite-opposite p) ∙ none) in
            elim (true-or-false (holds trues (opposite p))) [
              | inl there ↦ true-open trues (open-part trues clause) (opposite p) moves open-q there
              | inr neither ↦ two-open trues (open-part trues clause) p moves
                  (member-open trues clause p r.1 neither) open-q
            ]
      ])
]

more-consistent : (trues : List Literal) (l : Literal) → IsConsistent trues → holds trues (opposite l) ≡ false
    → IsConsistent (l ∷ trues)
more-consistent trues l consistent none k h =
    search (arith, or_cases, same_literal-sound, not-same, true-or-false, true≢false, opposite-opposite)

carry : (to : ℕ → ℕ) (live other : LiveClauses) (hints : List ℕ) (trues : List Literal) (place : ℕ)
    → IsConsistent trues → All (IsCarried to live other) hints →
    hint_fault live trues place hints ≡ None → hint_fault other trues place (map to hints) ≡ None
carry to live other [] trues place consistent all h = h
carry to live other (x ∷ xs) trues place consistent all h =
    by (live x) refl (All-head (IsCarried to live other) x xs all) h
    (λ l more. carry to live other xs (l ∷ trues) (place + 1) more (All-tail (IsCarried to live other) x xs all))
  where
    Next : LiveClauses → List ℕ → Literal → Option ℕ
    Next base ys = λ l. hint_fault base (l ∷ trues) (place + 1) ys

    ends : (ys : List ℕ) → fault_by falsified place ys (λ l. hint_fault live (l ∷ trues) (place + 1) ys) ≡ None
        → fault_by falsified place (map to ys) (λ l. hint_fault other (l ∷ trues) (place + 1) (map to ys)) ≡ None
    ends [] g = refl
    ends (y ∷ ys) g = cc

    go : (c : List Literal) → Moves trues (open-part trues c)
        → All (λ l. not (holds trues (opposite l)) ≡ true) (open-part trues c) →
        fault_by (status_by trues (open-part trues c)) place xs
        (λ l. hint_fault live (l ∷ trues) (place + 1) xs) ≡ None →
        ((l : Literal) → IsConsistent (l ∷ trues) → hint_fault live (l ∷ trues) (place + 1) xs ≡ None
        → hint_fault other (l ∷ trues) (place + 1) (map to xs) ≡ None) →
        fault_by (status_by trues (open-part trues c)) place (map to xs)
        (λ l. hint_fault other (l ∷ trues) (place + 1) (map to xs)) ≡ None
    go c (all_false e) passes g later = search (arith, ends)
    go c (one_left l rest e same none) passes g later =
        let is-unit : status_by trues (open-part trues c) ≡ unit l =
        ap (status_by trues) e ∙ ap (λ b. cond (b && not (holds trues l)) (unit l) stuck) same
        ∙ ap (λ b. cond (not b) (unit l) stuck) none in
        let at0 : get_or (open-part trues c) 0 l ≡ l = ap (λ o. get_or o 0 l) e in
        let long : length (open-part trues c) ≡ length (l ∷ rest) = ap (λ o. length o) e in
        let fresh = not_true (holds trues (opposite l))
        (ap (λ k. not (holds trues (opposite k))) (sym at0) ∙ passes 0 l (omega (arith, long))) in
        ap (λ s. fault_by s place (map to xs) (λ k. hint_fault other (k ∷ trues) (place + 1) (map to xs))) is-unit
        ∙ later l (more-consistent trues l consistent fresh)
        (sym (ap (λ s. fault_by s place xs (λ k. hint_fault live (k ∷ trues) (place + 1) xs)) is-unit) ∙ g)

    by : (o : Option (List Literal)) → live x ≡ o → IsCarried to live other x →
        fault_by (status_of trues o) place xs (λ l. hint_fault live (l ∷ trues) (place + 1) xs) ≡ None →
        ((l : Literal) → IsConsistent (l ∷ trues) → hint_fault live (l ∷ trues) (place + 1) xs ≡ None
        → hint_fault other (l ∷ trues) (place + 1) (map to xs) ≡ None) →
        fault_by (status_of trues (other (to x))) place (map to xs)
        (λ l. hint_fault other (l ∷ trues) (place + 1) (map to xs)) ≡ None
    by None e carried g later = cc
    by (Some c) e carried g later =
        let free : status_by trues (open-part trues c) ≡ stuck → ⊥ =
        λ s. stuck-stops (sym (ap (λ t. fault_by t place xs (λ l. hint_fault live (l ∷ trues) (place + 1) xs)) s)
        ∙ g) in
        let moves = moves-by trues (open-part trues c) free in
        let there = carried c e (plain-hint trues c consistent moves) in
        ap (λ o. fault_by (status_of trues o) place (map to xs)
        (λ l. hint_fault other (l ∷ trues) (place + 1) (map to xs))) there
        ∙ go c moves (filter_passes (λ l. not (holds trues (opposite l))) c) g later
      where
        stuck-stops : Some place ≡ None → ⊥
        stuck-stops w = cc

start-consistent : (ls : List Literal) → is_tautology ls ≡ false → IsConsistent (map opposite ls)
start-consistent ls plain l h = search (arith, holds-opposites, true-or-false, true≢false, pair-any)

pub carries : LinesAreCarried
carries to live other literals hints all derived =
    let parts = cond-none (is_tautology literals) (hint_fault live (map opposite literals) 1 hints) derived in
    ap (λ b. cond b (Some 0) (hint_fault other (map opposite literals) 1 (map to hints))) parts.0
    ∙ carry to live other hints (map opposite literals) 1 (start-consistent literals parts.0) all parts.1
