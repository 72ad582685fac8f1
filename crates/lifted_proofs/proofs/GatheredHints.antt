-- Hints that are gathered, and the goals of the instances that they hint at.
use Rattle.std.proofs.Common.{◌≡◌, ℕ, zero, suc, ◌+◌, ◌<◌, ◌≤◌, ◌==◌, ◌||◌, inl, inr, List, [], ◌∷◌, ◌++◌, map, take, length, get_or, slice_get, Some, refl, sym, ◌∙◌, ap, subst, arith}
use Rattle.std.specs.List.{All, Contains}
use Rattle.std.proofs.lemmas.Bool.{or_cases, or_left, or_right, cases_Bool, eq-eqb, eqb-true}
use Rattle.std.proofs.lemmas.Option.{slice_get_within, get_or_from_slice_get}
use Rattle.std.proofs.lemmas.List.{take_more, append-nil, append_assoc, map-append}
use Rattle.std.proofs.lemmas.List.Elements.{All-tail, Contains-push, Contains-push_cases, Contains-append_left}
use Rattle.std.proofs.lemmas.List.Folds.{list_any-append}
use Rattle.number_tables.specs.Numbers.{has_number, with_number}
use Rattle.dq_lits.specs.Derivation.{ProofStep}
use Rattle.rup_core.specs.Items.{ProofItem, derived, gone}
use Rattle.lifted_proofs.specs.Carried.{lines_of, AreWanted, IsHinted, IsFirstGoal}
use Rattle.lifted_proofs.specs.Hinted.{AddsHints, AddsItem}
use Rattle.lifted_proofs.specs.Planned.{AreFirstGoals}
use Rattle.lifted_proofs.specs.declared.goals.Source.{Source}
use Rattle.lifted_proofs.specs.declared.goals.Goal.{Goal}

with-has : (xs : List ℕ) (n h : ℕ) → has_number (with_number xs n) h ≡ (has_number xs h || (n == h))
with-has xs n h = search (arith, cases_Bool, eqb-true, list_any-append)

pub hint-added : (last : ℕ) (hints : List ℕ) (i : ℕ) (start old new : List ℕ) → i < length hints
    → get_or hints i 0 ≤ last → AddsHints last (take i hints) start old → new ≡ with_number old (get_or hints i 0)
    → AddsHints last (take (i + 1) hints) start new
hint-added last hints i start old new within low was more =
    let n = get_or hints i 0 in
    let has : (h : ℕ) → has_number new h ≡ (has_number old h || (n == h)) =
    λ h. ap (λ xs. has_number xs h) more ∙ with-has old n h in
    subst (λ xs. AddsHints last xs start new) (sym (take_more hints i 0 within)) (record {
      kept = λ h there. has h ∙ or_left (has_number old h) (n == h) (was.kept h there);
      all = λ h inside low-h. elim (Contains-push_cases (take i hints) n h inside) [
        | inl before ↦ has h ∙ or_left (has_number old h) (n == h) (was.all h before low-h)
        | inr is ↦ has h ∙ or_right (has_number old h) (n == h) (eq-eqb n h is)
      ];
      each = λ h there. elim (or_cases (has_number old h) (n == h) (sym (has h) ∙ there)) [
        | inl before ↦ search (arith, Contains-append_left)
        | inr is ↦
            let same = eqb-true n h is in
            inr (
              subst (Contains (take i hints ++ n ∷ [])) same (Contains-push (take i hints) n),
              subst (λ k. k ≤ last) same low,
            )
      ];
    })

pub hint-skipped : (last : ℕ) (hints : List ℕ) (i : ℕ) (start old new : List ℕ) → i < length hints
    → last < get_or hints i 0 → AddsHints last (take i hints) start old → new ≡ old
    → AddsHints last (take (i + 1) hints) start new
hint-skipped last hints i start old new within high was same =
    let n = get_or hints i 0 in
    subst (λ xs. AddsHints last xs start new) (sym (take_more hints i 0 within))
    (subst (AddsHints last (take i hints ++ n ∷ []) start) (sym same) (record {
      kept = was.kept;
      all = λ h inside low-h. elim (Contains-push_cases (take i hints) n h inside) [
        | inl before ↦ was.all h before low-h
        | inr is ↦ absurd (omega (arith, is, high, low-h))
      ];
      each = search (arith, Contains-append_left);
    }))

lines-append : (xs : List ProofItem) (item : ProofItem)
    → lines_of (xs ++ item ∷ []) ≡ lines_of xs ++ lines_of (item ∷ [])
lines-append [] item = refl
lines-append (derived s ∷ xs) item = ap (λ ys. s ∷ ys) (lines-append xs item)
lines-append (gone ids ∷ xs) item = lines-append xs item

pub next-line : (items : List ProofItem) (k : ℕ) (item : ProofItem) → slice_get items k ≡ Some item
    → lines_of (take (k + 1) items) ≡ lines_of (take k items) ++ lines_of (item ∷ [])
next-line items k item at =
    search (
      arith,
      (take_more items k item (slice_get_within items k item at)),
      (slice_get_within items k item at),
      (get_or_from_slice_get items k item item at),
      (lines-append (take k items) item),
    )

hinted-before : (xs : List ProofStep) (s : ProofStep) (h : ℕ) → IsHinted xs h → IsHinted (xs ++ s ∷ []) h
hinted-before xs s h (t, (inside, hint)) = (t, (Contains-append_left xs (s ∷ []) t inside, hint))

pub wanted-more : (items : List ProofItem) (k last : ℕ) (s : ProofStep) (old new : List ℕ)
    → slice_get items k ≡ Some (derived s) → AreWanted (lines_of (take k items)) last old
    → AddsHints last s.hints old new → AreWanted (lines_of (take (k + 1) items)) last new
wanted-more items k last s old new at was added =
    let xs = lines_of (take k items) in
    subst (λ ls. AreWanted ls last new) (sym (next-line items k (derived s) at)) (record {
      all = λ h hinted low. elim (Contains-push_cases xs s hinted.0 hinted.1.0) [
        | inl before ↦ added.kept h (was.all h (hinted.0, (before, hinted.1.1)) low)
        | inr is ↦ added.all h (subst (λ (x : ProofStep). Contains x.hints h) (sym is) hinted.1.1) low
      ];
      each = search (arith, hinted-before, Contains-push);
    })

pub wanted-same : (items : List ProofItem) (k last : ℕ) (ids : List ℕ) (old new : List ℕ)
    → slice_get items k ≡ Some (gone ids) → AreWanted (lines_of (take k items)) last old → new ≡ old
    → AreWanted (lines_of (take (k + 1) items)) last new
wanted-same items k last ids old new at was same =
    subst (λ ls. AreWanted ls last new) (sym (next-line items k (gone ids) at ∙ append-nil (lines_of (take k items))))
    (subst (AreWanted (lines_of (take k items)) last) (sym same) was)

first-append : (sources : List Source) (hs : List ℕ) (gs : List Goal) (h : ℕ) (g : Goal)
    → AreFirstGoals sources hs gs → IsFirstGoal sources h g → AreFirstGoals sources (hs ++ h ∷ []) (gs ++ g ∷ [])
first-append sources [] [] h g all it = (it, tt)
first-append sources [] (x ∷ gs) h g all it = absurd all
first-append sources (x ∷ hs) [] h g all it = absurd all
first-append sources (x ∷ hs) (y ∷ gs) h g all it = (all.0, first-append sources hs gs h g all.1 it)

pub first-more : (sources : List Source) (wanted : List ℕ) (i : ℕ) (g : Goal) (goals new : List Goal)
    → i < length wanted → AreFirstGoals sources (take i wanted) goals → IsFirstGoal sources (get_or wanted i 0) g
    → new ≡ goals ++ g ∷ [] → AreFirstGoals sources (take (i + 1) wanted) new
first-more sources wanted i g goals new within was it more =
    search (
      arith,
      (take_more wanted i 0 within),
      (first-append sources (take i wanted) goals (get_or wanted i 0) g was it),
    )

pub first-at : (sources : List Source) (hs : List ℕ) (gs : List Goal) (k h : ℕ) → AreFirstGoals sources hs gs
    → slice_get hs k ≡ Some h → (g : Goal) × ((slice_get gs k ≡ Some g) × IsFirstGoal sources h g)
first-at sources [] gs k h all at = cc
first-at sources (x ∷ hs) [] k h all at = absurd all
first-at sources (x ∷ hs) (g ∷ gs) zero h all at = search arith
first-at sources (x ∷ hs) (g ∷ gs) (suc k) h all at = first-at sources hs gs k h all.1 at

pub first-back : (sources : List Source) (hs : List ℕ) (gs : List Goal) (k : ℕ) (d : Goal) → AreFirstGoals sources hs gs
    → k < length gs → (h : ℕ) × ((slice_get hs k ≡ Some h) × IsFirstGoal sources h (get_or gs k d))
first-back sources [] [] k d all below = absurd (omega (arith, below))
first-back sources [] (g ∷ gs) k d all below = absurd all
first-back sources (x ∷ hs) [] k d all below = absurd (omega (arith, below))
first-back sources (x ∷ hs) (g ∷ gs) zero d all below = (x, (refl, all.0))
first-back sources (x ∷ hs) (g ∷ gs) (suc k) d all below = first-back sources hs gs k d all.1 (omega (arith, below))

pub wanted-item : (items : List ProofItem) (k last : ℕ) (item : ProofItem) (old new : List ℕ)
    → slice_get items k ≡ Some item → AreWanted (lines_of (take k items)) last old → AddsItem last item old new
    → AreWanted (lines_of (take (k + 1) items)) last new
wanted-item items k last (derived s) old new at was added = wanted-more items k last s old new at was added
wanted-item items k last (gone ids) old new at was same = wanted-same items k last ids old new at was same

pub carried-item : {X : Type 0} (to : ProofStep → X) (items : List ProofItem) (k : ℕ) (item : ProofItem)
    (start old new : List X) → slice_get items k ≡ Some item → old ≡ start ++ map to (lines_of (take k items))
    → new ≡ old ++ map to (lines_of (item ∷ [])) → new ≡ start ++ map to (lines_of (take (k + 1) items))
carried-item to items k item start old new at was more =
    search (arith, (append_assoc start), (map-append to), (next-line items k item at))

-- what holds of all lines holds of an item's
pub item-all : (P : ProofStep → Type 0) (items : List ProofItem) (k : ℕ) (item : ProofItem)
    → slice_get items k ≡ Some item → All P (lines_of items) → All P (lines_of (item ∷ []))
item-all P [] k item at all = cc
item-all P (derived s ∷ items) zero item at all =
    subst (λ x. All P (lines_of (x ∷ []))) (same-one (derived s) item at) (λ i d below.
    subst P (at-first i d below) (all 0 s (omega arith)))
  where
    same-one : (a b : ProofItem) → Some a ≡ Some b → a ≡ b
    same-one a b e = cc

    at-first : (i : ℕ) (d : ProofStep) → i < 1 → s ≡ get_or (s ∷ []) i d
    at-first zero d below = refl
    at-first (suc i) d below = absurd (omega (arith, below))
item-all P (gone ids ∷ items) zero item at all = search arith
item-all P (derived s ∷ items) (suc k) item at all = item-all P items k item at (All-tail P s (lines_of items) all)
item-all P (gone ids ∷ items) (suc k) item at all = item-all P items k item at all

pub line-all : (P : ProofStep → Type 0) (item : ProofItem) (s : ProofStep) → item ≡ derived s
    → All P (lines_of (item ∷ [])) → P s
line-all P item s is all = search arith
