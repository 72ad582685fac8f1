-- Clauses that begin with the same literal.
use Rattle.std.proofs.Common.{◌≡◌, ℕ, zero, suc, ◌-◌, ◌<◌, ◌≤◌, true, ◌⊎◌, inl, inr, List, [], ◌∷◌, ◌++◌, length, get_or, slice_get, Option, Some, None, is_some, MatchOption, false, refl, sym, ◌∙◌, ap, subst, arith, length-append}
use Rattle.std.specs.List.{list_any}
use Rattle.std.proofs.lemmas.Bool.{cases_lt, false≢true}
use Rattle.std.proofs.lemmas.Option.{slice_get_within}
use Rattle.std.proofs.lemmas.List.{get_or_append_left, get_or-append-add}
use Rattle.list_laws.proofs.Options.{some_same}
use Rattle.list_laws.proofs.Elements.{last_there}
use Rattle.dq_lits.specs.Literal.{Literal}
use Rattle.dq_lits.specs.Derivation.{holds}
use Rattle.dq_lits.proofs.HeldLiterals.{any_one, holds_here}
use Rattle.oracle.specs.Fit.{live_in}
use Rattle.cdcl_core.specs.Passes.{AreTrueWithin}
use Rattle.learning_trail.specs.Pieces.{pieces, AreEnds}
use Rattle.cdcl_core.specs.Runs.{head_of, BeginsAlike, BeginsTrue, BeginAlike, IsNextStart, AreStarts}

get_front : (cs : List (List Literal)) (c : List Literal) (i : ℕ) → i < length cs →
    slice_get (cs ++ c ∷ []) i ≡ slice_get cs i
get_front [] c i lt = absurd (omega (arith, lt))
get_front (x ∷ cs) c zero lt = refl
get_front (x ∷ cs) c (suc i) lt = get_front cs c i (omega (arith, lt))

-- behind all others
pub start_behind : (clauses : List (List Literal)) (clause : List Literal) (start : ℕ) → start ≡ length clauses →
    IsNextStart clauses clause start
start_behind clauses clause start is = search (arith, slice_get_within)

-- as the last one begins
pub start_alike : (clauses : List (List Literal)) (last clause : List Literal) (start id : ℕ) → id ≡ length clauses →
    live_in clauses id ≡ Some last → BeginsAlike last clause → start < id
    → BeginAlike clauses start id → IsNextStart clauses clause start
start_alike clauses last clause start id is at both before alike = record {
  within = omega (arith, is, before);
  alike = λ i c l low here head.
      let lt = slice_get_within clauses i c here in
      alike i c last l low (omega (arith, lt, is)) here at (both.first ∙ sym both.second ∙ head);
}

pub starts_more : (clauses : List (List Literal)) (starts : List ℕ) (clause : List Literal) (start : ℕ) →
    length starts ≡ length clauses → AreStarts clauses starts
    → IsNextStart clauses clause start → AreStarts (clauses ++ clause ∷ []) (starts ++ start ∷ [])
starts_more clauses starts clause start count are next i lt =
    let n = length-append starts (start ∷ []) in
    elim (cases_lt i (length starts)) [
      | inl old ↦
          let read : get_or (starts ++ start ∷ []) i 0 ≡ get_or starts i 0 =
          get_or_append_left starts (start ∷ []) 0 i old in
          let a = are i old in
          let low = a.0 in (
            omega (arith, low, read),
            λ k c d l from before at here head.
                a.1 k c d l (omega (arith, from, read)) before
                (sym (get_front clauses clause k (omega (arith, before, old, count))) ∙ at)
                (sym (get_front clauses clause i (omega (arith, old, count))) ∙ here)
                head,
          )
      | inr ge ↦
          let same : i ≡ length starts = omega (arith, lt, n, ge) in
          let read : get_or (starts ++ start ∷ []) i 0 ≡ start =
          ap (λ k. get_or (starts ++ start ∷ []) k 0) (omega (arith, same)) ∙ get_or-append-add starts
          (start ∷ []) 0 0 in
          let within = next.within in (
            omega (arith, within, read, same, count),
            λ k c d l from before at here head.
                let is : d ≡ clause = some_same d clause (sym here ∙ ap (slice_get (clauses ++ clause ∷ []))
                (omega (arith, same, count)) ∙ last_there clauses clause) in
                elim (cases_lt k (length clauses)) [
                  | inl older ↦ next.alike k c l (omega (arith, from, read))
                      (sym (get_front clauses clause k older) ∙ at) (ap head_of (sym is) ∙ head)
                  | inr newest ↦
                      let e : c ≡ clause = some_same c clause
                      (sym at ∙ ap (slice_get (clauses ++ clause ∷ [])) (omega (arith, newest, before, same, count))
                      ∙ last_there clauses clause) in
                      ap head_of (e ∙ sym is) ∙ head
                ],
          )
    ]

head_among : (c : List Literal) (l : Literal) → head_of c ≡ Some l → holds c l ≡ true
head_among [] l is = let n : None ≡ Some l = is in cc
head_among (x ∷ c) l is = subst (λ k. holds (x ∷ c) k ≡ true) (some_same x l is) (holds_here x c)

-- a clause that begins as a clause does that begins with a true literal has a true literal
pub true_alike : (clauses : List (List Literal)) (trues d : List Literal) (start id : ℕ) → live_in clauses id ≡ Some d →
    BeginAlike clauses start id → BeginsTrue trues d
    → (i : ℕ) (c : List Literal) → start ≤ i → i < id → slice_get clauses i ≡ Some c → list_any (holds trues) c ≡ true
true_alike clauses trues d start id here alike begins i c low lt at = search (arith, any_one, head_among)

pub start_at : (clauses : List (List Literal)) (starts : List ℕ) (id r : ℕ) → AreStarts clauses starts → 1 ≤ id →
    id ≤ length starts → r ≡ get_or starts (id - 1) 0
    → (r < id) × BeginAlike clauses r id
start_at clauses starts zero r are low high read = absurd (omega (arith, low))
start_at clauses starts (suc k) r are low high read =
    let same : suc k - 1 ≡ k = omega arith in
    let is : r ≡ get_or starts k 0 = read ∙ ap (λ n. get_or starts n 0) same in
    let a = are k (omega (arith, high)) in
    let before = a.0 in
    (omega (arith, before, is), subst (λ n. BeginAlike clauses n (suc k)) (sym is) a.1)

-- what an arena keeps of its lists
pub record AreArranged (literals : List Literal) (ends starts : List ℕ) : Type 0 where
  pub are_ends : AreEnds 0 ends (length literals)
  pub count : length starts ≡ length ends
  pub are_starts : AreStarts (pieces literals 0 ends) starts

pub arranged_same : (literals literals' : List Literal) (ends ends' starts starts' : List ℕ) → literals' ≡ literals →
    ends' ≡ ends → starts' ≡ starts → AreEnds 0 ends (length literals)
    → length starts ≡ length ends → AreStarts (pieces literals 0 ends) starts → AreArranged literals' ends' starts'
arranged_same literals literals' ends ends' starts starts' is_literals is_ends is_starts are count begin =
    subst (λ xs. AreArranged xs ends' starts') (sym is_literals)
    (subst (λ xs. AreArranged literals xs starts') (sym is_ends)
    (subst (λ xs. AreArranged literals ends xs) (sym is_starts) (record {
      are_ends = are;
      count = count;
      are_starts = begin;
    })))

-- behind what was looked at
pub true_within : (clauses : List (List Literal)) (trues : List Literal) (id start down_to most : ℕ) →
    AreTrueWithin id most clauses trues → (most ≡ start) ⊎ (most ≡ down_to)
    → (i : ℕ) (c : List Literal) → start ≤ i → down_to ≤ i → i < id → slice_get clauses i ≡ Some c →
    list_any (holds trues) c ≡ true
true_within clauses trues id start down_to most seen (inl e) i c low down lt at = seen i c (omega (arith, e, low)) lt at
true_within clauses trues id start down_to most seen (inr e) i c low down lt at = search arith

pub true_further : (clauses : List (List Literal)) (trues : List Literal) (id start down_to from : ℕ)
    → ((i : ℕ) (c : List Literal) → id ≤ i → down_to ≤ i → i < from → slice_get clauses i ≡ Some c →
    list_any (holds trues) c ≡ true)
    → ((i : ℕ) (c : List Literal) → start ≤ i → down_to ≤ i → i < id → slice_get clauses i ≡ Some c →
    list_any (holds trues) c ≡ true)
    → (i : ℕ) (c : List Literal) → start ≤ i → down_to ≤ i → i < from → slice_get clauses i ≡ Some c →
    list_any (holds trues) c ≡ true
true_further clauses trues id start down_to from above here i c low down lt at = search (arith, cases_lt)

pub seen_none : {A : Type 0} (P : Type 0) (Q : A → Type 0) (o : Option A) → is_some o ≡ false → MatchOption o P Q → P
seen_none P Q None none h = h
seen_none P Q (Some x) none h = absurd (false≢true (sym none))
