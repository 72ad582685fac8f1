-- A derived line stays derived under a partial renaming of its variables.
use Rattle.std.proofs.Common.{◌≡◌, ℕ, ◌+◌, ◌==◌, Bool, true, false, not, cond, ◌&&◌, List, [], ◌∷◌, map, Option, Some, None, refl, sym, ◌∙◌, ap, subst, arith}
use Rattle.std.specs.List.{list_any, list_all, filter, filter_map, cons_option, All}
use Rattle.std.specs.Option.{option_map}
use Rattle.std.proofs.lemmas.List.Elements.{All-head, All-tail}
use Rattle.std.proofs.lemmas.Bool.{cases_Bool, and_parts, eqb-true, eq-eqb, ne_eqb, false≢true, or_cases, or_left, or_right, cond-false}
use Rattle.list_laws.proofs.Options.{cond-none}
use Rattle.dq_lits.specs.Literal.{Literal, positive, negative, variable_of, on_variable, opposite, same_literal}
use Rattle.dq_lits.specs.Derivation.{LiveClauses, ClauseStatus, falsified, unit, stuck, holds, status_by, status_of, fault_by, hint_fault, is_tautology, IsDerived}
use Rattle.dq_lits.proofs.Truth.{same_literal-sound}
use Rattle.dq_lits.proofs.SignedLiterals.{same_literal-refl, opposite_variable}
use Rattle.cert_export.specs.Renaming.{Renaming, IsInjective, renamed_literal, renamed_clause, cut_by, cut_hints, IsRenamedAt, RenamedLinesAreDerived}

on_variable-opposite : (w : ℕ) (l : Literal) → on_variable w (opposite l) ≡ opposite (on_variable w l)
on_variable-opposite w (positive v) = refl
on_variable-opposite w (negative v) = refl

module _ (r : Renaming) (injective : IsInjective r) where
  abbrev ren : Literal → Option Literal
  ren l = renamed_literal r l

  opposite_by : (o : Option ℕ) (l : Literal) → option_map (λ w. on_variable w (opposite l)) o ≡ option_map opposite
      (option_map (λ w. on_variable w l) o)
  opposite_by None l = refl
  opposite_by (Some w) l = ap Some (on_variable-opposite w l)

  ren_opposite : (l : Literal) → ren (opposite l) ≡ option_map opposite (ren l)
  ren_opposite l = search (arith, opposite_variable, opposite_by)

  same_numbers : (a b v w : ℕ) → r a ≡ Some v → r b ≡ Some w → (v == w) ≡ (a == b)
  same_numbers a b v w e h = search (arith, cases_Bool, eqb-true, eq-eqb, ne_eqb)

  same_by : (k l : Literal) (v w : ℕ) → r (variable_of k) ≡ Some v → r (variable_of l) ≡ Some w →
      same_literal (on_variable v k) (on_variable w l) ≡ same_literal k l
  same_by (positive a) (positive b) v w e h = same_numbers a b v w e h
  same_by (positive a) (negative b) v w e h = refl
  same_by (negative a) (positive b) v w e h = refl
  same_by (negative a) (negative b) v w e h = same_numbers a b v w e h

  -- renamed literals are the same where the literals are
  pub same_renamed : (k l k' l' : Literal) → ren k ≡ Some k' → ren l ≡ Some l' → same_literal k' l' ≡ same_literal k l
  same_renamed k l k' l' e h = search (arith, same_by)

  none_differs : (k l k' : Literal) → ren k ≡ Some k' → ren l ≡ None → same_literal k l ≡ false
  none_differs k l k' e h = search (arith, cases_Bool, same_literal-sound)

  pub holds_renamed : (l l' : Literal) → ren l ≡ Some l' → (xs : List Literal) →
      holds (filter_map ren xs) l' ≡ holds xs l
  holds_renamed l l' e [] = refl
  holds_renamed l l' e (x ∷ xs) = search (arith, (holds_renamed l l' e xs), none_differs, same_renamed)

  abbrev pub open_in : List Literal → List Literal → List Literal
  open_in trues clause = filter (λ l. not (holds trues (opposite l))) clause

  -- the literals that aren't false
  pub open_renamed : (trues clause : List Literal) →
      open_in (filter_map ren trues) (filter_map ren clause) ≡ filter_map ren (open_in trues clause)
  open_renamed trues [] = refl
  open_renamed trues (l ∷ ls) = search (arith, (open_renamed trues ls), ren_opposite, holds_renamed)

  all_dropped : (l : Literal) (rest : List Literal) → ren l ≡ None → list_all (same_literal l) rest ≡ true →
      filter_map ren rest ≡ []
  all_dropped l [] h all = refl
  all_dropped l (k ∷ ks) h all = search (arith, and_parts, same_literal-sound, (all_dropped l ks h))

  all_same : (l l' : Literal) (rest : List Literal) → ren l ≡ Some l' → list_all (same_literal l) rest ≡ true →
      list_all (same_literal l') (filter_map ren rest) ≡ true
  all_same l l' [] h all = refl
  all_same l l' (k ∷ ks) h all =
      search (arith, and_parts, same_literal-sound, same_literal-refl, (all_same l l' ks h))

  module _ (renamed live : LiveClauses) (to : ℕ → ℕ) where
    -- the rest of a line's hints
    abbrev Goes : List Literal → ℕ → ℕ → List ℕ → Type 0
    Goes trues place place' hints =
        hint_fault live trues place hints ≡ None → hint_fault renamed (filter_map ren trues) place'
        (cut_hints renamed (filter_map ren trues) (map to hints)) ≡ None

    stopped : (s : ClauseStatus) (place : ℕ) (next : Literal → List ℕ) (follow : List ℕ → Literal → Option ℕ) →
        s ≡ falsified → fault_by s place (cut_by s next) (follow (cut_by s next)) ≡ None
    stopped s place next follow h = subst (λ q. fault_by q place (cut_by q next) (follow (cut_by q next)) ≡ None)
        (sym h) refl

    went_on : (s : ClauseStatus) (l' : Literal) (place : ℕ) (next : Literal → List ℕ) (follow : List ℕ → Literal → Option ℕ) →
        s ≡ unit l' → follow (next l') l' ≡ None →
        fault_by s place (cut_by s next) (follow (cut_by s next)) ≡ None
    went_on s l' place next follow h t = search arith

    abbrev status_after : List Literal → List Literal → ClauseStatus
    status_after trues open' = status_by (filter_map ren trues) (filter_map ren open')

    abbrev next_hints : List Literal → List ℕ → Literal → List ℕ
    next_hints trues hints k = cut_hints renamed (k ∷ filter_map ren trues) (map to hints)

    abbrev follow_hints : List Literal → ℕ → List ℕ → Literal → Option ℕ
    follow_hints trues place hs k = hint_fault renamed (k ∷ filter_map ren trues) (place + 1) hs

    -- the hint and those behind it, cut, have no fault
    abbrev IsCutRight : List Literal → ℕ → List ℕ → ClauseStatus → Type 0
    IsCutRight trues place hints s = fault_by s place (cut_by s (next_hints trues hints))
        (follow_hints trues place (cut_by s (next_hints trues hints))) ≡ None

    by_name : (trues : List Literal) (l : Literal) (rest : List Literal) (place place' : ℕ) (hints : List ℕ) →
        Goes (l ∷ trues) (place + 1) (place' + 1) hints →
        (list_all (same_literal l) rest && not (holds trues l)) ≡ true →
        hint_fault live (l ∷ trues) (place + 1) hints ≡ None → (o : Option Literal) → ren l ≡ o →
        IsCutRight trues place' hints (status_after trues (l ∷ rest))
    by_name trues l rest place place' hints later e h None is =
        let parts = and_parts (list_all (same_literal l) rest) (not (holds trues l)) e in
        let none : filter_map ren (l ∷ rest) ≡ [] = ap (λ o. cons_option o (filter_map ren rest)) is
        ∙ all_dropped l rest is parts.0 in
        stopped (status_after trues (l ∷ rest)) place' (next_hints trues hints) (follow_hints trues place')
        (ap (status_by (filter_map ren trues)) none)
    by_name trues l rest place place' hints later e h (Some l') is =
        let parts = and_parts (list_all (same_literal l) rest) (not (holds trues l)) e in
        let head : filter_map ren (l ∷ rest) ≡ l' ∷ filter_map ren rest =
        ap (λ o. cons_option o (filter_map ren rest)) is in
        let unit_again : status_after trues (l ∷ rest) ≡ unit l' = ap (status_by (filter_map ren trues)) head
        ∙ ap (λ b. cond (b && not (holds (filter_map ren trues) l')) (unit l') stuck) (all_same l l' rest is parts.0)
        ∙ ap (λ b. cond (not b) (unit l') stuck) (holds_renamed l l' is trues)
        ∙ ap (λ b. cond b (unit l') stuck) parts.1 in
        let t = later h in
        let ts : filter_map ren (l ∷ trues) ≡ l' ∷ filter_map ren trues =
        ap (λ o. cons_option o (filter_map ren trues)) is in
        let t' = subst (λ us. hint_fault renamed us (place' + 1) (cut_hints renamed us (map to hints)) ≡ None) ts t in
        went_on (status_after trues (l ∷ rest)) l' place' (next_hints trues hints)
        (follow_hints trues place') unit_again t'

    with_open : (trues open' : List Literal) (place place' : ℕ) (hints : List ℕ) →
        ((l : Literal) → Goes (l ∷ trues) (place + 1) (place' + 1) hints) →
        fault_by (status_by trues open') place hints (λ l. hint_fault live (l ∷ trues) (place + 1) hints) ≡ None →
        IsCutRight trues place' hints (status_after trues open')
    with_open trues [] place place' hints later h = refl
    with_open trues (l ∷ rest) place place' hints later h = by_bit
        (list_all (same_literal l) rest && not (holds trues l)) refl h where
          by_bit : (b : Bool) → (list_all (same_literal l) rest && not (holds trues l)) ≡ b →
              fault_by (cond b (unit l) stuck) place hints (λ k. hint_fault live (k ∷ trues) (place + 1) hints) ≡ None →
              IsCutRight trues place' hints (status_after trues (l ∷ rest))
          by_bit true e h = by_name trues l rest place place' hints (later l) e h (ren l) refl
          by_bit false e h = cc

    goes : (hints : List ℕ) → All (IsRenamedAt r to live renamed) hints → (trues : List Literal) (place place' : ℕ) →
        Goes trues place place' hints
    goes [] are trues place place' h = cc
    goes (hint ∷ hints) are trues place place' h =
        by_clause (λ l. goes hints (All-tail (IsRenamedAt r to live renamed) hint hints are) (l ∷ trues) (place + 1)
        (place' + 1)) (live hint) refl h where
          by_clause : ((l : Literal) → Goes (l ∷ trues) (place + 1) (place' + 1) hints) → (o : Option (List Literal)) →
              live hint ≡ o →
              fault_by (status_of trues o) place hints (λ l. hint_fault live (l ∷ trues) (place + 1) hints) ≡ None →
              IsCutRight trues place' hints (status_of (filter_map ren trues) (renamed (to hint)))
          by_clause later None e h = cc
          by_clause later (Some c) e h =
              let is = All-head (IsRenamedAt r to live renamed) hint hints are c e in
              let same : status_of (filter_map ren trues) (renamed (to hint)) ≡ status_after trues (open_in trues c) =
              ap (status_of (filter_map ren trues)) is ∙ ap (status_by (filter_map ren trues)) (open_renamed trues c) in
              subst (IsCutRight trues place' hints) (sym same)
              (with_open trues (open_in trues c) place place' hints later h)

  pub opposites_renamed : (ls : List Literal) → map opposite (filter_map ren ls) ≡ filter_map ren (map opposite ls)
  opposites_renamed [] = refl
  opposites_renamed (l ∷ ls) = search (arith, (opposites_renamed ls), ren_opposite)

  pub tautology_renamed : (xs ys : List Literal) → list_any (λ l. holds (filter_map ren xs) (opposite l))
      (filter_map ren ys) ≡ true → list_any (λ l. holds xs (opposite l)) ys ≡ true
  tautology_renamed xs [] h = h
  tautology_renamed xs (l ∷ ls) h =
      search (arith, (tautology_renamed xs ls), or_right, or_cases, ren_opposite, or_left, holds_renamed)

-- a derived clause has, renamed, no literal beside its negation
pub renamed_consistent : (r : Renaming) (live : LiveClauses) → IsInjective r →
    (literals : List Literal) (hints : List ℕ) → IsDerived live literals hints →
    is_tautology (renamed_clause r literals) ≡ false
renamed_consistent r live injective literals hints derived =
    search (arith, cond-none, cases_Bool, false≢true, (tautology_renamed r injective literals literals))

pub renamed_lines_are_derived : RenamedLinesAreDerived
renamed_lines_are_derived r to live renamed injective literals hints are derived =
    search (
      arith,
      cond-none,
      (renamed_consistent r live injective literals hints derived),
      (goes r injective renamed live to hints are),
      (opposites_renamed r injective literals),
      cond-false,
    )
