-- The replay of a derived line: each hinted clause but the last leads to a pivot, and the last one is false.
use Rattle.std.proofs.Common.{◌≡◌, ◌⊎◌, ℕ, ◌+◌, ◌<◌, ◌≤◌, Bool, true, false, not, cond, ◌||◌, ◌&&◌, inl, inr, List, [], ◌∷◌, map, drop, length, get_or, Option, None, Some, Contains, refl, sym, ◌∙◌, ap, subst, add-one, arith}
use Rattle.std.specs.List.{list_all, filter, find}
use Rattle.std.proofs.Math.Seq.{drop-cons}
use Rattle.std.proofs.lemmas.Bool.{cases_Bool, and_parts, or_cases}
use Rattle.std.proofs.lemmas.List.{get_or_default, drop_all}
use Rattle.dq_lits.specs.Literal.{Literal, opposite, same_literal}
use Rattle.dq_lits.specs.Derivation.{LiveClauses, unit, stuck, holds, status_by, status_of, fault_by, hint_fault, IsDerived, AreSame}
use Rattle.dq_lits.proofs.Truth.{same_literal-sound}
use Rattle.dq_lits.proofs.HeldLiterals.{filter-holds}
use Rattle.interpolants.specs.Replay.{trues_of, Leads, IsReplay, is_open, IsReplaying}
use Rattle.interpolants.specs.declared.chains.Link.{Link}
use Rattle.dq_lits.proofs.LiteralValues.{all_give}
use Rattle.dq_lits.proofs.EqualTruths.{hint_fault-same}

-- the first open literal, and the others
none_open : (p : Literal → Bool) (xs : List Literal) → find p xs ≡ None → (l : Literal) → holds xs l ≡ true →
    p l ≡ false
none_open p [] e l h = cc
none_open p (x ∷ xs) e l h = search (arith, cases_Bool, or_cases, same_literal-sound, (none_open p xs))

first_open : (p : Literal → Bool) (xs : List Literal) (l : Literal) → find p xs ≡ Some l →
    (rest : List Literal) × (filter p xs ≡ l ∷ rest)
first_open p [] l e = cc
first_open p (x ∷ xs) l e =
    elim (cases_Bool (p x)) [
      | inl here ↦
          let is : Some x ≡ Some l = sym (ap (λ b. cond b (Some x) (find p xs)) here) ∙ e in
          let same : x ≡ l = cc in
          (filter p xs, ap (λ b. cond b (x ∷ filter p xs) (filter p xs)) here ∙ ap (λ y. y ∷ filter p xs) same)
      | inr not_here ↦
          let r = first_open p xs l (sym (ap (λ b. cond b (Some x) (find p xs)) not_here) ∙ e) in
          (r.0, ap (λ b. cond b (x ∷ filter p xs) (filter p xs)) not_here ∙ r.1)
    ]

open_is : (trues : List Literal) (l : Literal) → is_open trues l ≡ false → holds trues (opposite l) ≡ true
open_is trues l h = by (holds trues (opposite l)) h
  where
    by : (b : Bool) → not b ≡ false → b ≡ true
    by true h = refl
    by false h = cc

unit_or_stuck : (b : Bool) (l : Literal) (place : ℕ) (hints : List ℕ) (next : Literal → Option ℕ) →
    fault_by (cond b (unit l) stuck) place hints next ≡ None →
    (b ≡ true) × (next l ≡ None)
unit_or_stuck true l place hints next h = (refl, h)
unit_or_stuck false l place hints next h = cc

-- a hint that isn't at fault, by its clause's first open literal
pub hint_leads : (live : LiveClauses) (trues : List Literal) (place hint : ℕ) (hints : List ℕ) (clause : List Literal)
    (l : Literal) → live hint ≡ Some clause →
    find (is_open trues) clause ≡ Some l → hint_fault live trues place (hint ∷ hints) ≡ None →
    (hint_fault live (l ∷ trues) (place + 1) hints ≡ None) ×
    ((k : Literal) → holds clause k ≡ true → (k ≡ l) ⊎ (holds trues (opposite k) ≡ true))
hint_leads live trues place hint hints clause l found first h =
    let next : Literal → Option ℕ = λ k. hint_fault live (k ∷ trues) (place + 1) hints in
    let f = first_open (is_open trues) clause l first in
    let here : fault_by (status_by trues (filter (is_open trues) clause)) place hints next ≡ None =
    sym (ap (λ o. fault_by (status_of trues o) place hints next) found) ∙ h in
    let split : fault_by (status_by trues (l ∷ f.0)) place hints next ≡ None =
    sym (ap (λ xs. fault_by (status_by trues xs) place hints next) f.1) ∙ here in
    let r = unit_or_stuck (list_all (same_literal l) f.0 && not (holds trues l)) l place hints next split in
    let same = (and_parts (list_all (same_literal l) f.0) (not (holds trues l)) r.0).0 in (
      r.1,
      λ k is.
          elim (cases_Bool (is_open trues k)) [
            | inl opened ↦
                let kept : holds (l ∷ f.0) k ≡ true = sym (ap (λ xs. holds xs k) f.1) ∙ filter-holds
                (is_open trues) clause k is opened in
                elim (or_cases (same_literal k l) (holds f.0 k) kept) [
                  | inl this ↦ inl (same_literal-sound k l this)
                  | inr rest ↦ inl (sym (same_literal-sound l k (all_give (same_literal l) f.0 k same rest)))
                ]
            | inr closed ↦ inr (open_is trues k closed)
          ],
    )

hints_left : (hints : List ℕ) (i hint : ℕ) → i < length hints → get_or hints i 0 ≡ hint →
    drop i hints ≡ hint ∷ drop (i + 1) hints
hints_left hints i hint lt at = search (arith, add-one, drop-cons)

contains_at : (hints : List ℕ) (i hint : ℕ) → i < length hints → get_or hints i 0 ≡ hint → Contains hints hint
contains_at hints i hint lt at = (i, lt, get_or_default hints i hint 0 lt ∙ at)

pub replaying_more : (live : LiveClauses) (first : List Literal) (hints : List ℕ) (i hint : ℕ)
    (trues more clause : List Literal) (l : Literal) (link : Link) (links longer : List Link) →
    IsReplaying live first hints i trues links → i < length hints → get_or hints i 0 ≡ hint → live hint ≡ Some clause →
    find (is_open trues) clause ≡ Some l →
    ((k : Literal) → holds more k ≡ (same_literal k l || holds trues k)) → link.pivot ≡ l → link.hint ≡ hint →
    longer ≡ link ∷ links →
    IsReplaying live first hints (i + 1) more longer
replaying_more live first hints i hint trues more clause l link links longer before lt at found opened added pivot
    hint_is longer_is =
    let now : hint_fault live trues (i + 1) (hint ∷ drop (i + 1) hints) ≡ None =
    sym (ap (hint_fault live trues (i + 1)) (hints_left hints i hint lt at)) ∙ before.left in
    let r = hint_leads live trues (i + 1) hint (drop (i + 1) hints) clause l found opened now in
    let leads : Leads live (trues_of first links) link = record {
      clause = clause;
      clause_is = ap live hint_is ∙ found;
      leads = search arith;
    } in
    let P : List Link → Type 0 = λ ls. IsReplaying live first hints (i + 1) more ls in
    subst P (sym longer_is) (record {
      same = λ k. added k ∙ ap (λ b. same_literal k l || b) (before.same k) ∙ ap
          (λ p. same_literal k p || holds (trues_of first links) k) (sym pivot);
      left = hint_fault-same live (drop (i + 1) hints) more (l ∷ trues) (i + 1 + 1) added ∙ r.0;
      led = (leads, before.led);
      hinted = (subst (Contains hints) (sym hint_is) (contains_at hints i hint lt at), before.hinted);
    })

pub replay_ends : (live : LiveClauses) (first : List Literal) (hints : List ℕ) (i hint : ℕ)
    (trues clause : List Literal) (links : List Link) →
    IsReplaying live first hints i trues links → i < length hints → get_or hints i 0 ≡ hint → live hint ≡ Some clause →
    find (is_open trues) clause ≡ None →
    IsReplay live first hints links hint
replay_ends live first hints i hint trues clause links before lt at found closed = record {
  led = before.led;
  hinted = before.hinted;
  last_hinted = contains_at hints i hint lt at;
  conflict = record {
    clause = clause;
    clause_is = found;
    is_false = λ k h. sym (before.same (opposite k)) ∙ open_is trues k (none_open (is_open trues) clause closed k h);
  };
}

pub replay_has_end : (live : LiveClauses) (first : List Literal) (hints : List ℕ) (i : ℕ) (trues : List Literal)
    (links : List Link) →
    IsReplaying live first hints i trues links → length hints ≤ i → ⊥
replay_has_end live first hints i trues links before all = search (arith, drop_all)

-- what a derived line's propagation starts with
pub derived_starts : (live : LiveClauses) (clause : List Literal) (hints : List ℕ) (trues : List Literal) →
    IsDerived live clause hints → AreSame trues (map opposite clause) →
    hint_fault live trues 1 hints ≡ None
derived_starts live clause hints trues derived same = search (arith, hint_fault-same)

pub replay_starts : (live : LiveClauses) (clause : List Literal) (hints : List ℕ) (trues : List Literal)
    (links : List Link) → IsDerived live clause hints →
    AreSame trues (map opposite clause) → links ≡ [] → IsReplaying live (map opposite clause) hints 0 trues links
replay_starts live clause hints trues links derived same none = search (arith, derived_starts)
