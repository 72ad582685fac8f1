-- Where marked literals stand on a trail, listed in order.
use Rattle.std.proofs.Common.{◌≡◌, ◌⊎◌, ℕ, zero, suc, ◌+◌, ◌-◌, ◌<◌, ◌≤◌, Bool, true, false, inl, inr, List, [], ◌∷◌, ◌++◌, length, take, reverse, get_or, Contains, refl, sym, ◌∙◌, ap, subst, arith}
use Rattle.std.specs.List.Sorted.{IsNonDecreasing}
use Rattle.std.proofs.lemmas.Bool.{cases_lt, false≢true, false_from_ne_true}
use Rattle.std.proofs.lemmas.List.{take_more, take_all, get_or-take, get_or_default, length-take-le}
use Rattle.std.proofs.lemmas.List.Elements.{Contains-append_right, Contains-append_cases}
use Rattle.list_laws.proofs.Members.{no_element}
use Rattle.dq_lits.specs.Literal.{Literal, variable_of}
use Rattle.dq_lits.specs.Derivation.{LiveClauses}
use Rattle.learning_trail.specs.declared.trails.Step.{Step}
use Rattle.learning_trail.specs.declared.notes.Mark.{Mark}
use Rattle.learning_trail.specs.declared.notes.Mark.TheVariants.{Clear}
use Rattle.learning_trail.specs.Steps.{IsAt}
use Rattle.learning_trail.specs.Marks.{marked}
use Rattle.learning_trail.specs.Noting.{Noted, is_marked, AreTouched}
use Rattle.learning_trail.specs.Backing.{IsTrimmed}
use Rattle.learning_trail.proofs.ConflictAnalysis.{contains_cases}
use Rattle.learning_trail.proofs.TouchedMarks.{touched_from}
use Rattle.learning_trail.proofs.AssignedLiterals.{at_place}
use Rattle.learning_trail.proofs.SetMarks.{turned}
use Rattle.learning_trail.proofs.MinimalClauses.{trimmed_past}

-- the marked ones of the first so many touched variables are listed
abbrev pub AreListed : List Step → List Mark → List ℕ → List ℕ → ℕ → Type 0
AreListed steps marks touched places i =
    (at v : ℕ) (k : Literal) → IsAt steps at k → variable_of k ≡ v → is_marked (get_or marks v Clear) ≡ true →
    Contains (take i touched) v → Contains places at

one_more : (touched : List ℕ) (i v w : ℕ) → i < length touched → get_or touched i v ≡ v →
    Contains (take (i + 1) touched) w → Contains (take i touched) w ⊎ (w ≡ v)
one_more touched i v w lt at h =
    elim (Contains-append_cases (take i touched) (v ∷ []) w (subst (λ (xs : List ℕ). Contains xs w)
    (take_more touched i v lt ∙ ap (λ x. take i touched ++ x ∷ []) at) h)) [
      | inl a ↦ inl a
      | inr b ↦ elim (contains_cases v [] w b) [
        | inl e ↦ inr e
        | inr none ↦ absurd (no_element w none)
      ]
    ]

-- one variable more was looked at
pub listed_next : (steps : List Step) (marks : List Mark) (touched old new : List ℕ) (i v : ℕ) → i < length touched →
    get_or touched i v ≡ v
    → ((at : ℕ) → Contains old at → Contains new at)
    → ((at : ℕ) (k : Literal) → IsAt steps at k → variable_of k ≡ v → is_marked (get_or marks v Clear) ≡ true →
    Contains new at)
    → AreListed steps marks touched old i → AreListed steps marks touched new (i + 1)
listed_next steps marks touched old new i v lt here kept one listed at w k h same on within =
    elim (one_more touched i v w lt here within) [
      | inl before ↦ kept at (listed at w k h same on before)
      | inr e ↦ one at k h (same ∙ e) (ap (λ n. is_marked (get_or marks n Clear)) (sym e) ∙ on)
    ]

-- one place was put to those that there were
pub contains_put : (old new : List ℕ) (p : ℕ) → new ≡ old ++ p ∷ [] → Contains new p
contains_put old new p put = subst (λ (xs : List ℕ). Contains xs p) (sym put)
    (Contains-append_right old (p ∷ []) p (zero, omega arith, refl))

pub listed_all : (steps : List Step) (marks : List Mark) (touched places : List ℕ) → AreTouched marks touched →
    AreListed steps marks touched places (length touched)
    → (at v : ℕ) (k : Literal) → IsAt steps at k → variable_of k ≡ v → is_marked (get_or marks v Clear) ≡ true →
    Contains places at
listed_all steps marks touched places are listed at v k h same on =
    listed at v k h same on (subst (λ (xs : List ℕ). Contains xs v)
    (sym (take_all (length touched) touched (omega arith))) (are.whole v (touched_from (get_or marks v Clear) on)))

-- the marked literals below an end stand at the first so many places
abbrev pub AreBelow : List Bool → List Step → List ℕ → ℕ → ℕ → Type 0
AreBelow marks items places at end =
    (i : ℕ) (s : Step) → i < end → i < length items → get_or items i s ≡ s →
    marked marks (variable_of s.literal) ≡ true → Contains (take at places) i

pub below_first : (marks : List Bool) (steps items : List Step) (places : List ℕ) → reverse items ≡ steps
    → ((at : ℕ) (l : Literal) → IsAt steps at l → marked marks (variable_of l) ≡ true → Contains places at) →
    AreBelow marks items places (length places) (length items)
below_first marks steps items places turn covered i s lt within here on =
    subst (λ (xs : List ℕ). Contains xs i) (sym (take_all (length places) places (omega arith)))
    (covered i s.literal (at_place items steps i s turn within (sym here)) on)

-- the last of the places is the greatest one
greatest : (places : List ℕ) (at i : ℕ) → IsNonDecreasing places → 0 < at → at ≤ length places →
    Contains (take at places) i → i ≤ get_or places (at - 1) 0
greatest places at i sorted some within c =
    let q = c.0 in
    let lt : q < length (take at places) = c.1 in
    let count = length-take-le at places within in
    let low : q < at = omega (arith, lt, count) in
    let read : get_or places q i ≡ i = sym (get_or-take at places q i low) ∙ c.2 in
    let le = sorted q (at - 1) i (omega (arith, low)) (omega (arith, some, within)) in
    let last : at - 1 < length places = omega (arith, some, within) in
    let same : get_or places (at - 1) i ≡ get_or places (at - 1) 0 = get_or_default places (at - 1) i 0 last in
    omega (arith, le, read, same)

-- where nothing was looked at yet
pub trimmed_start : (live : LiveClauses) (steps : List Step) (was now : Noted) →
    now ≡ record { marks = was.marks; places = now.places; hints = was.hints; literals = was.literals }
    → IsTrimmed live steps steps was now
trimmed_start live steps was now same = search (arith, false≢true)

-- an element at a place
some_at : (items : List Step) (i : ℕ) → i < length items → (s : Step) × (get_or items i s ≡ s)
some_at [] i lt = absurd (omega (arith, lt))
some_at (x ∷ xs) i lt = (get_or (x ∷ xs) i x, get_or_default (x ∷ xs) i (get_or (x ∷ xs) i x) x lt)

-- unmarked literals are passed
pub trimmed_skip : (live : LiveClauses) (steps items : List Step) (was now : Noted) (low end : ℕ) → end ≤ length items →
    low ≤ end
    → ((i : ℕ) (s : Step) → low ≤ i → i < end → get_or items i s ≡ s → marked now.marks (variable_of s.literal) ≡ false)
    → IsTrimmed live steps (reverse (take end items)) was now → IsTrimmed live steps (reverse (take low items)) was now
trimmed_skip live steps items was now low zero within le off inv = search arith
trimmed_skip live steps items was now low (suc end) within le off inv =
    elim (cases_lt low (suc end)) [
      | inl lt ↦
          let s = some_at items end (omega (arith, within)) in
          let one_is : end + 1 ≡ suc end = omega arith in
          let down : reverse (take (suc end) items) ≡ s.0 ∷ reverse (take end items) =
          ap (λ n. reverse (take n items)) (sym one_is) ∙ turned items end s.0 (omega (arith, within)) s.1 in
          trimmed_skip live steps items was now low end (omega (arith, within)) (omega (arith, lt))
          (λ i k above below at. off i k above (omega (arith, below)) at)
          (trimmed_past live steps (reverse (take end items)) was now s.0
          (subst (λ (xs : List Step). IsTrimmed live steps xs was now) down inv)
          (off end s.0 (omega (arith, lt)) (omega arith) s.1))
      | inr past ↦
          let e : suc end ≡ low = omega (arith, le, past) in
          subst (λ (n : ℕ). IsTrimmed live steps (reverse (take n items)) was now) e inv
    ]

-- one of the first so many places, where it is the last of them or stands before it
place_cases : (places : List ℕ) (at i : ℕ) → 0 < at → at ≤ length places → Contains (take at places) i →
    Contains (take (at - 1) places) i ⊎ (i ≡ get_or places (at - 1) 0)
place_cases places at i some within c =
    let one_is : at - 1 + 1 ≡ at = omega (arith, some) in
    let lt : at - 1 < length places = omega (arith, some, within) in
    one_more places (at - 1) (get_or places (at - 1) 0) i lt
    (get_or_default places (at - 1) (get_or places (at - 1) 0) 0 lt)
    (subst (λ (n : ℕ). Contains (take n places) i) (sym one_is) c)

-- the place is below the end, and the next one
pub below_next : (marks : List Bool) (items : List Step) (places : List ℕ) (at end p : ℕ) → 0 < at →
    at ≤ length places → p ≡ get_or places (at - 1) 0 → p < end
    → AreBelow marks items places at end → AreBelow marks items places (at - 1) p
below_next marks items places at end p some within is near below i s lt in_items here on =
    elim (place_cases places at i some within (below i s (omega (arith, lt, near)) in_items here on)) [
      | inl before ↦ before
      | inr e ↦ absurd (omega (arith, e, is, lt))
    ]

-- down to the next place
pub trimmed_to : (live : LiveClauses) (steps items : List Step) (was now : Noted) (places : List ℕ) (at end p : ℕ)
    (s : Step) → IsNonDecreasing places → 0 < at → at ≤ length places
    → p ≡ get_or places (at - 1) 0 → p < end → end ≤ length items → get_or items p s ≡ s →
    AreBelow was.marks items places at end
    → IsTrimmed live steps (reverse (take end items)) was now →
    IsTrimmed live steps (s ∷ reverse (take p items)) was now
trimmed_to live steps items was now places at end p s sorted some within is near long here below inv =
    let skipped = trimmed_skip live steps items was now (p + 1) end long (omega (arith, near)) (λ i k above under read.
    false_from_ne_true (marked now.marks (variable_of k.literal)) (λ on.
    let c = below i k under (omega (arith, under, long)) read (inv.fewer (variable_of k.literal) on) in
    let le = greatest places at i sorted some within c in
    absurd (omega (arith, le, is, above)))) inv in
    subst (λ (xs : List Step). IsTrimmed live steps xs was now)
    (turned items p s (omega (arith, near, long)) here) skipped

-- where no place is left
pub trimmed_rest : (live : LiveClauses) (steps items : List Step) (was now : Noted) (places : List ℕ) (at end : ℕ) →
    at ≡ 0 → end ≤ length items → AreBelow was.marks items places at end
    → IsTrimmed live steps (reverse (take end items)) was now → IsTrimmed live steps [] was now
trimmed_rest live steps items was now places at end none long below inv =
    trimmed_skip live steps items was now 0 end long (omega arith) (λ i k above under read.
    false_from_ne_true (marked now.marks (variable_of k.literal)) (λ on.
    let c = below i k under (omega (arith, under, long)) read (inv.fewer (variable_of k.literal) on) in
    no_element i (subst (λ (n : ℕ). Contains (take n places) i) none c))) inv
