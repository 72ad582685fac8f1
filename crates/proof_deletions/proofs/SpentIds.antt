-- Where a line's list has the places whose last use is noted at it, their numbers are the ids that are
-- spent there.
use Rattle.std.proofs.Common.{◌≡◌, ℕ, zero, suc, ◌+◌, ◌-◌, ◌≤◌, ◌<◌, nat_lt, Bool, true, false, true≢false, not, ◌&&◌, ◌⊎◌, inl, inr, if◌then◌else◌, cond, List, [], ◌∷◌, ◌++◌, map, length, refl, sym, ◌∙◌, ap, arith, eqb, filter}
use Rattle.std.specs.Prelude.{slice_index_or}
use Rattle.std.specs.List.{range_with_len}
use Rattle.std.proofs.lemmas.Bool.{eqb-true, eq-eqb, lt-ltb, ltb-true}
use Rattle.std.proofs.lemmas.List.{append-nil, append_assoc}
use Rattle.std.proofs.lemmas.List.Elements.{filter-append}
use Rattle.list_laws.proofs.Truths.{false_unless}
use Rattle.dq_lits.specs.Derivation.{ProofStep}
use Rattle.rup_core.specs.Items.{ProofItem, derived, is_among}
use Rattle.proof_deletions.specs.Chains.{used_at}
use Rattle.proof_deletions.specs.Deletions.{is_hinted, spent_ids, deletion, deleting_from}
use Rattle.proof_deletions.specs.LastUses.{later_of, last_use, AreLastUses, AreNoted}

later_none : (n : ℕ) → later_of 0 n ≡ n
later_none zero = refl
later_none (suc n) = refl

later_joins : (a b c : ℕ) → later_of a (later_of b c) ≡ later_of (later_of a b) c
later_joins a b zero = refl
later_joins a b (suc c) = refl

-- in two parts
pub last_use-append : (first place : ℕ) (xs ys : List ProofStep) (k : ℕ) →
    last_use first place (xs ++ ys) k ≡ later_of (last_use first place xs k) (last_use first (place + length xs) ys k)
last_use-append first place [] ys k = search (arith, later_none)
last_use-append first place (x ∷ xs) ys k = search (arith, (last_use-append first (place + 1) xs ys k), later_joins)

later_is : (a n : ℕ) → 0 < n → later_of a n ≡ n
later_is a zero h = absurd (omega (arith, h))
later_is a (suc n) h = refl

use_in : (first place : ℕ) (steps : List ProofStep) (k : ℕ) →
    (last_use first place steps k ≡ 0) ⊎ ((place < last_use first place steps k) ×
    (last_use first place steps k ≤ place + length steps))
use_in first place [] k = inl refl
use_in first place (step ∷ steps) k = search (arith, (use_in first (place + 1) steps k))

pub use_at_most : (first : ℕ) (steps : List ProofStep) (k : ℕ) → last_use first 0 steps k ≤ length steps
use_at_most first steps k = search (arith, use_in)

lt-false : (k place : ℕ) → place ≤ k → nat_lt k place ≡ false
lt-false k place h = false_unless (nat_lt k place) (λ e. let l = ltb-true k place e in absurd (omega (arith, h, l)))

suc-not-zero : (n : ℕ) → eqb (suc n) 0 ≡ false
suc-not-zero n = false_unless (eqb (suc n) 0) (λ h. let q = eqb-true (suc n) 0 h in absurd (omega (arith, q)))

not-zero : (n : ℕ) → eqb (n + 1) 0 ≡ false
not-zero n = false_unless (eqb (n + 1) 0) (λ h. let q = eqb-true (n + 1) 0 h in absurd (omega (arith, q)))

-- where a line stands before these, none of them hints it where its last use is none
none_by : (first place : ℕ) (steps : List ProofStep) (k : ℕ) → k < place →
    eqb (last_use first place steps k) 0 ≡ not (is_hinted steps (first + k))
none_by first place [] k h = refl
none_by first place (step ∷ steps) k h =
    search (arith, nat_lt, lt-ltb, (none_by first (place + 1) steps k), true≢false, not-zero, suc-not-zero)

-- the last use is at a line of the middle
here_by : (first : ℕ) (before : List ProofStep) (step : ProofStep) (later : List ProofStep) (k : ℕ) →
    k < length before →
    eqb (last_use first 0 (before ++ step ∷ later) k) (length before + 1)
    ≡ (is_among step.hints (first + k) && not (is_hinted later (first + k)))
here_by first before step later k h =
    ap (λ u. eqb u (p + 1)) (last_use-append first 0 before (step ∷ later) k)
    ∙ by (last_use first 0 before k) (last_use first (0 + p + 1) later k) (is_among step.hints (first + k))
    (nat_lt k (0 + p)) (not (is_hinted later (first + k))) (use_at_most first before k)
    (use_in first (0 + p + 1) later k) (lt-ltb k (0 + p) (omega (arith, h)))
    (none_by first (0 + p + 1) later k (omega (arith, h)))
  where
    p : ℕ
    p = length before

    by : (u later_use : ℕ) (b lt free : Bool) → u ≤ p →
        (later_use ≡ 0) ⊎ ((0 + p + 1 < later_use) × (later_use ≤ 0 + p + 1 + length later)) → lt ≡ true →
        eqb later_use 0 ≡ free →
        eqb (later_of u (later_of (if lt && b then 0 + p + 1 else 0) later_use)) (p + 1) ≡ (b && free)
    by u later_use b false free few within e none = absurd (true≢false (sym e))
    by u zero true true free few within e none = eq-eqb (later_of u (0 + p + 1)) (p + 1)
        (later_is u (0 + p + 1) (omega arith) ∙ omega arith) ∙ none
    by u zero false true free few within e none = false_unless (eqb u (p + 1))
        (λ g. let q = eqb-true u (p + 1) g in absurd (omega (arith, q, few)))
    by u (suc later_use) b true free few (inl none') e none = absurd (omega (arith, none'))
    by u (suc later_use) b true free few (inr within) e none =
        false_unless (eqb (suc later_use) (p + 1)) (λ g. let q = eqb-true (suc later_use) (p + 1) g in let w = within.0 in
        absurd (omega (arith, q, w)))
        ∙ sym (and-no b free (sym none ∙ suc-not-zero later_use))
      where
        and-no : (b c : Bool) → c ≡ false → (b && c) ≡ false
        and-no true c h = h
        and-no false c h = refl

-- and of no line from the middle on
not_here : (first : ℕ) (before : List ProofStep) (step : ProofStep) (later : List ProofStep) (k : ℕ) →
    length before ≤ k →
    eqb (last_use first 0 (before ++ step ∷ later) k) (length before + 1) ≡ false
not_here first before step later k h =
    search (arith, last_use-append, nat_lt, use_at_most, use_in, lt-false, true≢false, false_unless, eqb-true)

-- tests that agree in a range
filter_in : (t u : ℕ → Bool) (a n : ℕ) → ((k : ℕ) → a ≤ k → k < a + n → t k ≡ u k) →
    filter t (range_with_len a n) ≡ filter u (range_with_len a n)
filter_in t u a zero same = refl
filter_in t u a (suc n) same = search (arith, (filter_in t u (a + 1) n))

none_pass : (a n : ℕ) → filter (λ k. false) (range_with_len a n) ≡ []
none_pass a zero = refl
none_pass a (suc n) = none_pass (a + 1) n

range_in_two : (a n m : ℕ) → range_with_len a (n + m) ≡ range_with_len a n ++ range_with_len (a + n) m
range_in_two a zero m = search arith
range_in_two a (suc n) m =
    ap (range_with_len a) (let e : suc n + m ≡ suc (n + m) = omega arith in e)
    ∙ ap (λ ks. a ∷ ks) (range_in_two (a + 1) n m ∙ ap (λ b. range_with_len (a + 1) n ++ range_with_len b m)
    (omega arith))

mapped_by : (first a : ℕ) (rest : List ℕ) (b : Bool) →
    map (λ k. first + k) (cond b (a ∷ rest) rest) ≡ cond b ((first + a) ∷ map (λ k. first + k) rest)
    (map (λ k. first + k) rest)
mapped_by first a rest true = refl
mapped_by first a rest false = refl

shifted : (first : ℕ) (t : ℕ → Bool) (a n : ℕ) →
    map (λ k. first + k) (filter (λ k. t (first + k)) (range_with_len a n)) ≡ filter t (range_with_len (first + a) n)
shifted first t a zero = refl
shifted first t a (suc n) =
    mapped_by first a (filter (λ k. t (first + k)) (range_with_len (a + 1) n)) (t (first + a))
    ∙ ap (λ (ks : List ℕ). cond (t (first + a)) ((first + a) ∷ ks) ks)
    (shifted first t (a + 1) n ∙ ap (λ b. filter t (range_with_len b n))
    (let e : first + (a + 1) ≡ first + a + 1 = omega arith in e))

length_more : (before : List ProofStep) (step : ProofStep) (later : List ProofStep) →
    length before < length (before ++ step ∷ later)
length_more [] step later = omega arith
length_more (b ∷ before) step later = let rest = length_more before step later in omega (arith, rest)

-- the lists of a line's place
pub spent_by : (first : ℕ) (before : List ProofStep) (step : ProofStep) (later : List ProofStep) (table : List ℕ) →
    AreLastUses first (before ++ step ∷ later) (length (before ++ step ∷ later)) table →
    step.id ≡ first + length before →
    map (λ k. first + k) (used_at table 0 (length before)) ≡ spent_ids first step later
spent_by first before step later table are numbered =
    ap (map (λ k. first + k)) (ap (λ m. filter test (range_with_len 0 m)) many ∙ split ∙ kept)
    ∙ shifted first passes 0 p
    ∙ (let e : first + 0 ≡ first = omega arith in ap (λ a. filter passes (range_with_len a p)) e)
    ∙ ap (λ m. filter passes (range_with_len first m)) (let e : p ≡ step.id - first = omega (arith, numbered) in e)
  where
    p : ℕ
    p = length before

    n : ℕ
    n = length (before ++ step ∷ later)

    test : ℕ → Bool
    test k = eqb (slice_index_or table k 0) (p + 1)

    passes : ℕ → Bool
    passes id = is_among step.hints id && not (is_hinted later id)

    longer : p < n
    longer = length_more before step later

    many : length table - 0 ≡ p + (n - p)
    many = let e = are.many in omega (arith, e, longer)

    front : filter test (range_with_len 0 p) ≡ filter (λ k. passes (first + k)) (range_with_len 0 p)
    front = filter_in test (λ k. passes (first + k)) 0 p (λ k low below.
        ap (λ u. eqb u (p + 1)) (are.each k (omega (arith, below, longer))) ∙ here_by first before step later k
        (omega (arith, below)))

    back : filter test (range_with_len (0 + p) (n - p)) ≡ []
    back = filter_in test (λ k. false) (0 + p) (n - p) (λ k low below.
        ap (λ u. eqb u (p + 1)) (are.each k (omega (arith, below, longer))) ∙ not_here first before step later k
        (omega (arith, low)))
        ∙ none_pass (0 + p) (n - p)

    split : filter test (range_with_len 0 (p + (n - p))) ≡ filter test (range_with_len 0 p) ++ filter test
        (range_with_len (0 + p) (n - p))
    split = ap (filter test) (range_in_two 0 p (n - p)) ∙ filter-append test (range_with_len 0 p)
        (range_with_len (0 + p) (n - p))

    kept : filter test (range_with_len 0 p) ++ filter test (range_with_len (0 + p) (n - p)) ≡ filter
        (λ k. passes (first + k)) (range_with_len 0 p)
    kept = ap (λ ks. filter test (range_with_len 0 p) ++ ks) back ∙ append-nil (filter test (range_with_len 0 p))
        ∙ front

-- of lines in two parts
pub spent_at : (first n place : ℕ) (steps before later : List ProofStep) (step : ProofStep) (table : List ℕ) →
    AreLastUses first steps n table → steps ≡ before ++ step ∷ later → length before ≡ place → length steps ≡ n →
    step.id ≡ first + place → map (λ k. first + k) (used_at table 0 place) ≡ spent_ids first step later
spent_at first n place steps before later step table are cut here many id = search (arith, spent_by)

-- one line more
keeps_later : (a b : ℕ) (used : Bool) → later_of a (later_of (if used then b + 1 else 0) 0) ≡
    (if used then b + 1 else a)
keeps_later a b true = later_is a (b + 1) (omega arith)
keeps_later a b false = refl

pub noted_next : (first n : ℕ) (steps : List ProofStep) (step : ProofStep) (old new : List ℕ) →
    AreLastUses first steps n old →
    AreNoted first (length steps) step.hints old new → AreLastUses first (steps ++ step ∷ []) n new
noted_next first n steps step old new are noted = search (arith, last_use-append, keeps_later)

-- the lines behind a line, one more, and none
pub deleting_next : (first : ℕ) (items : List ProofItem) (step : ProofStep) (later : List ProofStep) (ids : List ℕ) →
    0 < length later →
    ids ≡ spent_ids first step later →
    ((items ++ derived step ∷ []) ++ deletion ids) ++ deleting_from first later ≡ items ++ deleting_from first
    (step ∷ later)
deleting_next first items step [] ids more are = absurd (omega (arith, more))
deleting_next first items step (next ∷ later) ids more are = search (arith, append_assoc)

pub deleting_last : (first : ℕ) (items : List ProofItem) (step : ProofStep) (later : List ProofStep) →
    length later ≤ 0 →
    (items ++ derived step ∷ []) ++ deleting_from first later ≡ items ++ deleting_from first (step ∷ later)
deleting_last first items step [] none = append-nil (items ++ derived step ∷ [])
deleting_last first items step (next ∷ later) none = absurd (omega (arith, none))
