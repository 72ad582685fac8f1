-- What a text can hold, it can hold with deletions.
use Rattle.std.proofs.Common.{◌≡◌, ℕ, zero, suc, ◌+◌, ◌-◌, ◌*◌, ◌≤◌, ◌<◌, Bool, true, false, true≢false, not, ◌&&◌, ◌||◌, ◌⊎◌, inl, inr, cond, List, [], ◌∷◌, ◌++◌, map, length, refl, sym, ◌∙◌, ap, subst, arith, eqb, filter}
use Rattle.std.specs.List.{All, range_with_len}
use Rattle.std.proofs.lemmas.Bool.{cases_eq, eqb-true, eq-eqb, or_left, or_right}
use Rattle.std.proofs.lemmas.List.{length-map}
use Rattle.std.proofs.lemmas.List.Elements.{All-nil, All-cons, All-head, All-tail}
use Rattle.list_laws.proofs.Truths.{false_unless, both_true, or_second}
use Rattle.list_laws.proofs.Numbers.{eqb-flip}
use Rattle.dq_lits.specs.Derivation.{ProofStep}
use Rattle.rup_core.specs.Items.{ProofItem, derived, gone, is_among}
use Rattle.cert_text.specs.Grammar.{AreItems, AreSteps, IsSmallItem}
use Rattle.cert_text.specs.Numbering.{Numbering, numbered_from, with_next, without, without_all, are_live}
use Rattle.cert_text.proofs.Numberings.{next_kept}
use Rattle.proof_deletions.specs.Deletions.{is_hinted, spent_ids, deletion, deleting_from, AreNumberedLines, lines_of, first_number, with_deletions}
use Rattle.proof_deletions.proofs.RangeFilters.{among_filter}
use Rattle.proof_deletions.proofs.SameFaults.{spent_isn't_hinted}

-- none stands twice
abbrev AreOnce : List ℕ → Type 0
AreOnce [] = Unit {0}
AreOnce (id ∷ ids) = (is_among ids id ≡ false) × AreOnce ids

once_by : (a : ℕ) (rest : List ℕ) → is_among rest a ≡ false → AreOnce rest → (b : Bool) → AreOnce
    (cond b (a ∷ rest) rest)
once_by a rest first others true = (first, others)
once_by a rest first others false = others

once : (p : ℕ → Bool) (a n : ℕ) → AreOnce (filter p (range_with_len a n))
once p a zero = tt
once p a (suc n) =
    let rest = filter p (range_with_len (a + 1) n) in
    once_by a rest
    (false_unless (is_among rest a) (λ h. let q = (among_filter p (a + 1) n a h).from in absurd (omega (arith, q))))
    (once p (a + 1) n) (p a)

kept_live : (b c d : Bool) → c ≡ true → (b || d) ≡ false → (not b && c) ≡ true
kept_live true c d live h = absurd (true≢false h)
kept_live false c d live h = live

-- and others live
live_same : (n : Numbering) (ids : List ℕ) (id : ℕ) → n.live id ≡ true → is_among ids id ≡ false →
    (without_all n ids).live id ≡ true
live_same n [] id live h = live
live_same n (other ∷ ids) id live h =
    live_same (without n other) ids id
    (kept_live (eqb id other) (n.live id) (is_among ids id) live (flipped h))
    (or_second (eqb other id) (is_among ids id) h)
  where
    flipped : (eqb other id || is_among ids id) ≡ false → (eqb id other || is_among ids id) ≡ false
    flipped g = subst (λ (b : Bool). (b || is_among ids id) ≡ false) (eqb-flip other id) g

all_live : (n : Numbering) (ids : List ℕ) → AreOnce ids → ((id : ℕ) → is_among ids id ≡ true → n.live id ≡ true) →
    are_live n ids ≡ true
all_live n [] apart live = refl
all_live n (id ∷ ids) apart live =
    both_true (n.live id) (are_live (without n id) ids) (live id (or_left (eqb id id) (is_among ids id) (eq-eqb id id refl)))
    (all_live (without n id) ids apart.1 others)
  where
    others : (other : ℕ) → is_among ids other ≡ true → (not (eqb other id) && n.live other) ≡ true
    others other among = by (cases_eq other id)
      where
        by : (other ≡ id) ⊎ (other ≡ id → ⊥) → (not (eqb other id) && n.live other) ≡ true
        by (inl same) = absurd (true≢false (sym among ∙ (ap (is_among ids) same ∙ apart.0)))
        by (inr differ) = both_true (not (eqb other id)) (n.live other)
            (ap not (false_unless (eqb other id) (λ h. differ (eqb-true other id h))))
            (live other (or_right (eqb id other) (is_among ids other) among))

-- what a later line hints is live
abbrev IsKept : ℕ → Numbering → List ProofStep → Type 0
IsKept first n steps = (id : ℕ) → first ≤ id → id < n.next → is_hinted steps id ≡ true → n.live id ≡ true

kept_behind : (first : ℕ) (n : Numbering) (step : ProofStep) (later : List ProofStep) → IsKept first n (step ∷ later) →
    IsKept first (with_next n) later
kept_behind first n step later kept id low below hinted = search (arith, cases_eq, or_left, eq-eqb, or_right)

spent_are_live : (first : ℕ) (n : Numbering) (step : ProofStep) (later : List ProofStep) → first ≤ n.next →
    step.id ≡ n.next →
    IsKept first n (step ∷ later) → (id : ℕ) → is_among (spent_ids first step later) id ≡ true →
    (with_next n).live id ≡ true
spent_are_live first n step later le numbered kept id among = search (arith, among_filter, or_right, or_left)

-- ids that live, each once, and no later line hints, may stand in a deletion
behind : (V : ℕ → Bool) (first : ℕ) (n : Numbering) (later : List ProofStep) (items : List ProofItem) (ids : List ℕ) →
    AreOnce ids → ((id : ℕ) → is_among ids id ≡ true → n.live id ≡ true) →
    ((id : ℕ) → is_among ids id ≡ true → is_hinted later id ≡ false) → IsKept first n later →
    ((m : Numbering) → m.next ≡ n.next → IsKept first m later → AreItems V m items) →
    AreItems V n (deletion ids ++ items)
behind V first n later items [] apart live free kept rest = rest n refl kept
behind V first n later items (id ∷ ids) apart live free kept rest = (
  record { some = omega arith; live = all_live n (id ∷ ids) apart live },
  rest (without_all n (id ∷ ids)) (next_kept n (id ∷ ids)) kept_then,
)
  where
    kept_then : IsKept first (without_all n (id ∷ ids)) later
    kept_then i low below hinted = search (arith, live_same, next_kept, false_unless)

allowed : (V : ℕ → Bool) (first : ℕ) (n : Numbering) (steps : List ProofStep) → first ≤ n.next →
    AreSteps V n.next steps →
    IsKept first n steps → AreItems V n (deleting_from first steps)
allowed V first n [] le are kept = tt
allowed V first n (step ∷ []) le are kept = (are.0, tt)
allowed V first n (step ∷ next ∷ later) le are kept = (
  are.0,
  behind V first (with_next n) (next ∷ later) (deleting_from first (next ∷ later)) (spent_ids first step (next ∷ later))
      (once (λ i. is_among step.hints i && not (is_hinted (next ∷ later) i)) first (step.id - first))
      (spent_are_live first n step (next ∷ later) le are.0.numbered kept)
      (spent_isn't_hinted first step (next ∷ later))
      (kept_behind first n step (next ∷ later) kept)
      (λ m same kept_then. allowed V first m (next ∷ later) (omega (arith, le, same))
      (subst (λ id. AreSteps V id (next ∷ later)) (sym same) are.1) kept_then),
)

steps_in : (V : ℕ → Bool) (n : Numbering) (steps : List ProofStep) → AreItems V n (map derived steps) →
    AreSteps V n.next steps
steps_in V n [] are = tt
steps_in V n (step ∷ steps) are = (are.0, steps_in V (with_next n) steps are.1)

lines_allowed : (V : ℕ → Bool) (first : ℕ) (steps : List ProofStep) → AreSteps V first steps →
    AreItems V (numbered_from first) (deleting_from (first_number steps) steps)
lines_allowed V first [] are = tt
lines_allowed V first (step ∷ steps) are =
    subst (λ id. AreItems V (numbered_from first) (deleting_from id (step ∷ steps))) (sym are.0.numbered)
    (allowed V first (numbered_from first) (step ∷ steps) (omega arith) are
    (λ id low below hinted. absurd (omega (arith, low, below))))

pub items_allowed : (V : ℕ → Bool) (first : ℕ) (items : List ProofItem) → AreNumberedLines items →
    AreItems V (numbered_from first) items → AreItems V (numbered_from first) (with_deletions items)
items_allowed V first items lines are =
    lines_allowed V first (lines_of items)
    (steps_in V (numbered_from first) (lines_of items) (subst (AreItems V (numbered_from first)) lines.lines are))

small_behind : (ids : List ℕ) (items : List ProofItem) → All IsSmallItem items → All IsSmallItem (deletion ids ++ items)
small_behind [] items small = small
small_behind (id ∷ ids) items small = All-cons IsSmallItem (gone (id ∷ ids)) items tt small

small_lines : (first : ℕ) (steps : List ProofStep) → All IsSmallItem (map derived steps) → All IsSmallItem
    (deleting_from first steps)
small_lines first [] small = All-nil IsSmallItem
small_lines first (step ∷ []) small = small
small_lines first (step ∷ next ∷ later) small =
    search (arith, All-cons, All-head, small_behind, (small_lines first (next ∷ later)), All-tail)

pub items_small : (items : List ProofItem) → AreNumberedLines items → All IsSmallItem items → All IsSmallItem
    (with_deletions items)
items_small items lines small = search (arith, small_lines)

few_behind : (ids : List ℕ) (items : List ProofItem) → length (deletion ids ++ items) ≤ length items + 1
few_behind [] items = omega arith
few_behind (id ∷ ids) items = omega arith

few_lines : (first : ℕ) (steps : List ProofStep) → length (deleting_from first steps) ≤ 2 * length steps
few_lines first [] = omega arith
few_lines first (step ∷ []) = omega arith
few_lines first (step ∷ next ∷ later) =
    let rest = few_lines first (next ∷ later) in
    let here = few_behind (spent_ids first step (next ∷ later)) (deleting_from first (next ∷ later)) in
    omega (arith, rest, here)

lines_fewer : (items : List ProofItem) → length (lines_of items) ≤ length items
lines_fewer [] = omega arith
lines_fewer (derived step ∷ items) = let rest = lines_fewer items in omega (arith, rest)
lines_fewer (gone ids ∷ items) = let rest = lines_fewer items in omega (arith, rest)

pub items_few : (items : List ProofItem) → length (with_deletions items) ≤ 2 * length items
items_few items =
    let a = few_lines (first_number (lines_of items)) (lines_of items) in
    let b = lines_fewer items in
    omega (arith, a, b)

more_behind : (ids : List ℕ) (items : List ProofItem) → length items ≤ length (deletion ids ++ items)
more_behind [] items = omega arith
more_behind (id ∷ ids) items = omega arith

no_fewer_lines : (first : ℕ) (steps : List ProofStep) → length steps ≤ length (deleting_from first steps)
no_fewer_lines first [] = omega arith
no_fewer_lines first (step ∷ []) = omega arith
no_fewer_lines first (step ∷ next ∷ later) = search (arith, (no_fewer_lines first (next ∷ later)), more_behind)

pub items_no_fewer : (items : List ProofItem) → AreNumberedLines items → length items ≤ length (with_deletions items)
items_no_fewer items lines = search (arith, no_fewer_lines, length-map)
