-- What a search is asked for, and the values that it found.
use Rattle.std.proofs.Common.{◌≡◌, ℕ, zero, suc, ◌≤◌, true, false, not, ◌⊎◌, inl, inr, List, [], ◌∷◌, ◌++◌, map, Some, None, IsSome, is_some, All, sym, ◌∙◌, ap, subst, arith}
use Rattle.std.specs.List.{list_any}
use Rattle.std.proofs.lemmas.Bool.{false≢true, false_from_ne_true}
use Rattle.std.proofs.lemmas.List.Elements.{All-head, All-tail, All-get_or}
use Rattle.std.proofs.lemmas.Option.{slice_get_within, get_or_from_slice_get}
use Rattle.dq_lits.specs.Literal.{Assignment, Literal, positive, negative, variable_of, is_negative, opposite, literal_true}
use Rattle.dq_lits.specs.Derivation.{holds, is_tautology}
use Rattle.dq_lits.proofs.HeldLiterals.{any_one, any_gives, all_held, held_of_all, holds_cases}
use Rattle.dq_lits.proofs.SignedLiterals.{opposite_variable, opposite-negative}
use Rattle.hint_log.specs.Entries.{Entry}
use Rattle.hint_log.specs.declared.names.Name.TheVariants.{Selector}
use Rattle.hint_log.specs.Entries.{ProofLog, clause_at, name_of}
use Rattle.hint_log.specs.Naming.{is_selector, is_selector_name}
use Rattle.oracle.specs.declared.groups.Group.{Group}
use Rattle.oracle.specs.Fit.{live_in}
use Rattle.learning_trail.specs.Resting.{rests, HeldFit}
use Rattle.learning_trail.proofs.RestingClauses.{IsKeptAs, kept_as}
use Rattle.oracle.specs.Calls.{IsMade, IsPlain, IsModelUnder, assumed}
use Rattle.learning_trail.specs.Growing.{HasLearned}
use Rattle.learning_trail.specs.Steps.{literals_of}
use Rattle.dq_lits.specs.Truth.{literal_value}
use Rattle.dq_lits.specs.declared.truth_values.TruthValue.TheVariants.{True}
use Rattle.learning_trail.specs.Searching.{Searched, AreAssumptions, IsSatisfied}
use Rattle.dq_lits.proofs.LiteralValues.{value_true}
use Rattle.learning_trail.proofs.ConflictAnalysis.{AreConsistent, sound_consistent}
use Rattle.learning_trail.proofs.SearchTurns.{assumptions_same}

pub clause_of_all : (P : List Literal → Type 0) (clauses : List (List Literal)) → All P clauses →
    (id : ℕ) (c : List Literal) → live_in clauses id ≡ Some c → P c
clause_of_all P clauses all zero c at = let n : None ≡ Some c = at in cc
clause_of_all P clauses all (suc i) c at =
    let lt = slice_get_within clauses i c at in
    subst P (get_or_from_slice_get clauses i c [] at) (All-get_or P clauses i [] lt all)

-- a selector that was switched on
pub record IsOn (es : List Entry) (l : Literal) : Type 0 where
  pub positive : is_negative l ≡ false
  pub named : name_of es (variable_of l) ≡ Some (Selector (variable_of l))

pub on_or_plain : (es : List Entry) (active : List Group) (assume : List Literal) → All (IsMade es) active →
    (l : Literal) → holds (map (λ g. g.selector) active ++ assume) l ≡ true
    → IsOn es l ⊎ (holds assume l ≡ true)
on_or_plain es [] assume made l h = inr h
on_or_plain es (g ∷ active) assume made l h =
    elim (holds_cases g.selector (map (λ k. k.selector) active ++ assume) l h) [
      | inl e ↦
          let m = All-head (IsMade es) g active made in
          inl (subst (IsOn es) (sym e) (record { positive = m.positive; named = m.named }))
      | inr later ↦ on_or_plain es active assume (All-tail (IsMade es) g active made) l later
    ]

on_selector : (es : List Entry) (l : Literal) → IsOn es l → is_selector es (variable_of l) ≡ true
on_selector es l on = ap is_selector_name on.named

pub assumptions_from : (log : ProofLog) (active : List Group) (assume : List Literal) →
    All (IsMade log.entries) active → All (IsPlain log.entries) assume → is_tautology assume ≡ false
    → AreAssumptions log (assumed active assume)
assumptions_from log active assume made plain apart =
    let es = log.entries in
    let plain_one : (l : Literal) → holds assume l ≡ true → IsPlain es l = held_of_all (IsPlain es) assume plain in
    let split : (l : Literal) → holds (assumed active assume) l ≡ true → IsOn es l ⊎ (holds assume l ≡ true) =
    on_or_plain es active assume made in
    let clash : (l k : Literal) → variable_of l ≡ variable_of k → IsOn es l → holds assume k ≡ true → ⊥ =
    λ l k same on h.
    false≢true (sym (plain_one k h).no_selector ∙ ap (is_selector es) (sym same) ∙ on_selector es l on) in
    record {
      named = λ l h. elim (split l h) [
        | inl on ↦ ap is_some on.named
        | inr k ↦ (plain_one l k).named
      ];
      apart = λ l h o. elim (split l h) [
        | inl on ↦ elim (split (opposite l) o) [
          | inl off ↦ false≢true (sym off.positive ∙ opposite-negative l ∙ ap not on.positive)
          | inr k ↦ clash l (opposite l) (sym (opposite_variable l)) on k
        ]
        | inr k ↦ elim (split (opposite l) o) [
          | inl off ↦ clash (opposite l) l (opposite_variable l) off k
          | inr m ↦ false≢true (sym apart ∙ any_one (λ x. holds assume (opposite x)) assume l k m)
        ]
      ];
      switched = λ l h sel. elim (split l h) [
        | inl on ↦ on.positive
        | inr k ↦ absurd (false≢true (sym (plain_one l k).no_selector ∙ sel))
      ];
    }

-- values that are true where the trail's are, among so many variables
abbrev pub AreKept : ℕ → Assignment → List Literal → Type 0
AreKept variables values trues =
    (v : ℕ) → 1 ≤ v → v ≤ variables → (values v ≡ true → literal_value trues (positive v) ≡ True)
    × (literal_value trues (positive v) ≡ True → values v ≡ true)

valued : (trues : List Literal) (l : Literal) → AreConsistent trues → holds trues l ≡ true →
    literal_value trues l ≡ True
valued trues l consistent h = search (arith, false_from_ne_true)

pub literal_kept : (variables : ℕ) (values : Assignment) (trues : List Literal) → AreKept variables values trues →
    AreConsistent trues → (l : Literal) → holds trues l ≡ true → 1 ≤ variable_of l → variable_of l ≤ variables →
    literal_true values l ≡ true
literal_kept variables values trues kept consistent (positive v) h low high = search (arith, valued)
literal_kept variables values trues kept consistent (negative v) h low high =
    search (arith, false_from_ne_true, value_true)

module _ (assumptions : List Literal) (s : Searched) (values : Assignment) (old new : ProofLog)
    (fit : HeldFit s.clauses s.resting s.variables new.entries) (learned : HasLearned old new) (are : AreAssumptions old assumptions)
    (satisfied : IsSatisfied assumptions s) (kept : AreKept s.variables values (literals_of s.trail.steps)) where
  abbrev trues : List Literal
  trues = literals_of s.trail.steps

  one : (l : Literal) → IsSome (name_of new.entries (variable_of l)) → holds trues l ≡ true →
      literal_true values l ≡ true
  one l named h = search (arith, literal_kept, sound_consistent)

  -- the selector of a group that rests is off
  off : (v : ℕ) → rests s.resting v ≡ true → values v ≡ false
  off v on = search (arith, false_from_ne_true, is_some, false≢true, value_true)

  clause_found : (id : ℕ) (c : List Literal) → clause_at new.entries id ≡ Some c →
      IsKeptAs s.clauses s.resting id c → list_any (literal_true values) c ≡ true
  clause_found id c at r = elim r.is [
    | inl same ↦
        let some = clause_of_all (λ d. list_any (holds trues) d ≡ true) s.clauses satisfied.clauses id r.put r.at in
        let k = any_gives (holds trues) c (ap (list_any (holds trues)) (sym same) ∙ some) in
        any_one (literal_true values) c k.0 k.1 (one k.0 (fit.fit.negated id c k.0 at k.1).named k.2)
    | inr p ↦ any_one (literal_true values) c (negative p.group) p.among (ap not (off p.group p.group_rests))
  ]

  pub found_model : IsModelUnder values (clause_at new.entries) assumptions
  found_model =
      let later = assumptions_same old new assumptions learned are in
      record {
        clauses = λ id c at.
            clause_found id c at (kept_as s.clauses s.resting s.variables new.entries fit id c at);
        assumptions_true = all_held (λ l. literal_true values l ≡ true) assumptions
            (λ l h. one l (later.named l h) (satisfied.assumed l h));
      }
