-- Clauses that lie among the literals of a page.
use Rattle.std.proofs.Common.{◌≡◌, ℕ, zero, suc, ◌+◌, ◌-◌, ◌<◌, ◌≤◌, ◌==◌, nat_lt, Bool, true, false, cond, inl, inr, List, [], ◌∷◌, ◌++◌, map, take, drop, set, length, get_or, Option, None, Some, IsSome, Result, Ok, Err, OnErr, refl, sym, ◌∙◌, ap, subst, arith, length-append, eq-eqb}
use Rattle.std.specs.List.{All, count_by}
use Rattle.std.proofs.lemmas.Bool.{cases_Bool, cases_eq, cases_lt, leb-true, le-leb, ne_eqb}
use Rattle.std.proofs.lemmas.List.{get_or-set_same, get_or-set_other, get_or_past, get_or_default, length-map, take_all, drop_at}
use Rattle.std.proofs.lemmas.List.Elements.{All-get_or, All-set}
use Rattle.std.proofs.lemmas.List.Sums.{sum_by-cons, sum_by-set}
use Rattle.list_laws.proofs.Sequences.{take-inside}
use Rattle.dq_lits.specs.Literal.{Literal}
use Rattle.dq_lits.specs.declared.memory.Memory.{Memory}
use Rattle.rup_core.specs.Paging.{Clauses, clause_at, AreSameClauses, Sets}
use Rattle.rup_core.specs.Spans.{gone_span, is_span, clause_in, AreSameSpans, written_span}
use Rattle.rup_core.specs.declared.pages.Span.{Span}

-- by the spans alone
pub clause_of_span : (literals : List Literal) (spans : List Span) (k : ℕ) →
    clause_at (map (clause_in literals) spans) k ≡ clause_in literals (get_or spans k gone_span)
clause_of_span literals [] k = refl
clause_of_span literals (s ∷ spans) zero = refl
clause_of_span literals (s ∷ spans) (suc k) = clause_of_span literals spans k

clause_stays : (literals more : List Literal) (s : Span) → s.end ≤ length literals →
    clause_in (literals ++ more) s ≡ clause_in literals s
clause_stays literals more s within = elim (cases_Bool (is_span s)) [
  | inl is ↦
      let ordered = leb-true s.start s.end is in
      ap (λ b. cond b (Some (take (s.end - s.start) (drop s.start (literals ++ more)))) None) is
      ∙ ap Some (take-inside s.start (s.end - s.start) literals more (omega (arith, ordered, within))
      (omega (arith, ordered, within)))
      ∙ sym (ap (λ b. cond b (Some (take (s.end - s.start) (drop s.start literals))) None) is)
  | inr is ↦
      ap (λ b. cond b (Some (take (s.end - s.start) (drop s.start (literals ++ more)))) None) is
      ∙ sym (ap (λ b. cond b (Some (take (s.end - s.start) (drop s.start literals))) None) is)
]

at_within : (literals : List Literal) (spans : List Span) (k : ℕ) → All (λ s. s.end ≤ length literals) spans →
    (get_or spans k gone_span).end ≤ length literals
at_within literals spans k within = elim (cases_lt k (length spans)) [
  | inl below ↦ All-get_or (λ s. s.end ≤ length literals) spans k gone_span below within
  | inr past ↦ (let P : Span → Type 0 = λ s. s.end ≤ length literals in
      subst P (sym (get_or_past spans k gone_span past)) (omega arith))
]

-- the clause that was written
written : (literals more : List Literal) → clause_in (literals ++ more) (written_span literals (literals ++ more))
    ≡ Some more
written literals more =
    let long : length (literals ++ more) ≡ length literals + length more = length-append literals more in
    ap (λ b. cond b (Some (take (length (literals ++ more) - length literals)
    (drop (length literals) (literals ++ more)))) None) (le-leb (length literals) (length (literals ++ more))
    (omega (arith, long)))
    ∙ ap (λ xs. Some (take (length (literals ++ more) - length literals) xs))
    (drop_at literals more (length literals) refl)
    ∙ ap Some (take_all (length (literals ++ more) - length literals) more (omega (arith, long)))

pub put_sets : (literals more : List Literal) (spans : List Span) (place : ℕ) → place < length spans →
    All (λ s. s.end ≤ length literals) spans →
    Sets (clause_at (map (clause_in literals) spans)) (clause_at
    (map (clause_in (literals ++ more)) (set spans place (written_span literals (literals ++ more))))) place
    (Some more)
put_sets literals more spans place below within k =
    clause_of_span (literals ++ more) (set spans place (written_span literals (literals ++ more))) k
    ∙ elim (cases_eq k place) [
      | inl same ↦
          ap (λ j. clause_in (literals ++ more) (get_or (set spans place (written_span literals (literals ++ more))) j
          gone_span)) same
          ∙ ap (clause_in (literals ++ more)) (get_or-set_same spans place
          (written_span literals (literals ++ more)) gone_span below) ∙ written literals more
          ∙ sym (ap (λ b. cond b (Some more) (clause_at (map (clause_in literals) spans) k)) (eq-eqb k place same))
      | inr other ↦
          ap (clause_in (literals ++ more)) (get_or-set_other spans place k
          (written_span literals (literals ++ more)) gone_span other)
          ∙ clause_stays literals more (get_or spans k gone_span) (at_within literals spans k within)
          ∙ sym (clause_of_span literals spans k)
          ∙ sym (ap (λ b. cond b (Some more) (clause_at (map (clause_in literals) spans) k)) (ne_eqb k place other))
    ]

pub put_within : (literals more : List Literal) (spans : List Span) (place : ℕ) →
    All (λ s. s.end ≤ length literals) spans →
    All (λ s. s.end ≤ length (literals ++ more)) (set spans place (written_span literals (literals ++ more)))
put_within literals more spans place within =
    All-set (λ s. s.end ≤ length (literals ++ more)) spans place (written_span literals (literals ++ more))
    (omega arith)
    (λ i d below. let old = within i d below in omega (arith, old, length-append literals more))

-- the clause that was taken away
pub removed_sets : (literals : List Literal) (spans : List Span) (place : ℕ) → place < length spans →
    Sets (clause_at (map (clause_in literals) spans)) (clause_at (map (clause_in literals) (set spans place gone_span)))
    place None
removed_sets literals spans place below k =
    clause_of_span literals (set spans place gone_span) k
    ∙ elim (cases_eq k place) [
      | inl same ↦
          ap (λ j. clause_in literals (get_or (set spans place gone_span) j gone_span)) same
          ∙ ap (clause_in literals) (get_or-set_same spans place gone_span gone_span below)
          ∙ sym (ap (λ b. cond b None (clause_at (map (clause_in literals) spans) k)) (eq-eqb k place same))
      | inr other ↦
          ap (clause_in literals) (get_or-set_other spans place k gone_span gone_span other) ∙ sym
          (clause_of_span literals spans k)
          ∙ sym (ap (λ b. cond b None (clause_at (map (clause_in literals) spans) k)) (ne_eqb k place other))
    ]

-- how many there are
abbrev as_number : Bool → ℕ
as_number b = cond b 1 0

pub counted-set : (spans : List Span) (place : ℕ) (s : Span) → place < length spans →
    count_by is_span (set spans place s) + as_number (is_span (get_or spans place gone_span))
    ≡ count_by is_span spans + as_number (is_span s)
counted-set spans place s below = sum_by-set (λ x. as_number (is_span x)) spans place s gone_span below

none_is_no_span : (literals : List Literal) (s : Span) → clause_in literals s ≡ None → is_span s ≡ false
none_is_no_span literals s none = elim (cases_Bool (is_span s)) [
  | inl is ↦ (let bad : Some (take (s.end - s.start) (drop s.start literals)) ≡ None =
      sym (ap (λ b. cond b (Some (take (s.end - s.start) (drop s.start literals))) None) is) ∙ none in cc)
  | inr is ↦ is
]

some_is_span : (literals : List Literal) (s : Span) → IsSome (clause_in literals s) → is_span s ≡ true
some_is_span literals s some = elim (cases_Bool (is_span s)) [
  | inl is ↦ is
  | inr is ↦ (let P : Option (List Literal) → Type 0 = λ o. IsSome o in
      let bad : P None = subst P (ap (λ b. cond b (Some (take (s.end - s.start) (drop s.start literals))) None) is)
      some in cc)
]

pub counted-put : (literals more : List Literal) (spans : List Span) (place : ℕ) → place < length spans →
    clause_at (map (clause_in literals) spans) place ≡ None →
    count_by is_span (set spans place (written_span literals (literals ++ more))) ≡ count_by is_span spans + 1
counted-put literals more spans place below none =
    let old = none_is_no_span literals (get_or spans place gone_span)
    (sym (clause_of_span literals spans place) ∙ none) in
    let new : is_span (written_span literals (literals ++ more)) ≡ true =
    le-leb (length literals) (length (literals ++ more)) (omega (arith, length-append literals more)) in
    omega (
      arith,
      counted-set spans place (written_span literals (literals ++ more)) below,
      ap as_number old,
      ap as_number new,
    )

pub counted-removed : (literals : List Literal) (spans : List Span) (place : ℕ) → place < length spans →
    IsSome (clause_at (map (clause_in literals) spans) place) →
    count_by is_span (set spans place gone_span) + 1 ≡ count_by is_span spans
counted-removed literals spans place below some =
    let P : Option (List Literal) → Type 0 = λ o. IsSome o in
    let old = some_is_span literals (get_or spans place gone_span)
    (subst P (clause_of_span literals spans place) some) in
    omega (arith, counted-set spans place gone_span below, ap as_number old)

-- there is a place where there is a clause
pub place_of_some : (page : Clauses) (place : ℕ) → IsSome (clause_at page place) → place < length page
place_of_some page place some = elim (cases_lt place (length page)) [
  | inl below ↦ below
  | inr past ↦ (let P : Option (List Literal) → Type 0 = λ o. IsSome o in
      let bad : P None = subst P (get_or_past page place None past) some in cc)
]

-- more spans of clauses that are gone
pub same_spans : (literals : List Literal) (old new : List Span) → AreSameSpans old new →
    AreSameClauses (clause_at (map (clause_in literals) old)) (clause_at (map (clause_in literals) new))
same_spans literals old new same k = clause_of_span literals new k ∙ ap (clause_in literals) (same k) ∙ sym
    (clause_of_span literals old k)

within_same : (literals : List Literal) (old new : List Span) → AreSameSpans old new →
    All (λ s. s.end ≤ length literals) old → All (λ s. s.end ≤ length literals) new
within_same literals old new same within i d below =
    let P : Span → Type 0 = λ s. s.end ≤ length literals in
    subst P (sym (get_or_default new i d gone_span below ∙ same i)) (at_within literals old i within)

counted-cons : (s : Span) (spans : List Span) → count_by is_span (s ∷ spans) ≡ as_number
    (is_span s) + count_by is_span spans
counted-cons s spans = sum_by-cons (λ x. as_number (is_span x)) s spans

counted_same : (old new : List Span) → AreSameSpans old new → count_by is_span new ≡ count_by is_span old
counted_same [] [] same = refl
counted_same [] (s ∷ new) same =
    let here : is_span s ≡ false = ap is_span (same 0) in
    let rest = counted_same [] new (λ k. same (suc k)) in
    omega (arith, ap as_number here, rest, counted-cons s new)
counted_same (o ∷ old) [] same =
    let here : false ≡ is_span o = ap is_span (same 0) in
    let rest = counted_same old [] (λ k. same (suc k)) in
    omega (arith, ap as_number here, rest, counted-cons o old)
counted_same (o ∷ old) (s ∷ new) same =
    let here : is_span s ≡ is_span o = ap is_span (same 0) in
    let rest = counted_same old new (λ k. same (suc k)) in
    omega (arith, ap as_number here, rest, counted-cons o old, counted-cons s new)

pub record AreKept (literals : List Literal) (spans : List Span) (live : ℕ) : Type 0 where
  pub within : All (λ s. s.end ≤ length literals) spans
  pub counted : live ≡ count_by is_span spans

pub kept_same : (literals : List Literal) (old new : List Span) (live : ℕ) → AreSameSpans old new →
    AreKept literals old live → AreKept literals new live
kept_same literals old new live same kept = record {
  within = within_same literals old new same kept.within;
  counted = kept.counted ∙ sym (counted_same old new same);
}

module _ (literals literals' more : List Literal) (spans spans' : List Span) (place live : ℕ)
    (below : place < length spans) (kept : AreKept literals spans live)
    (longer : literals' ≡ literals ++ more) (span : spans' ≡ set spans place (written_span literals literals'))
    (free : clause_at (map (clause_in literals) spans) place ≡ None) where
  abbrev P : List Literal → Type 0
  P ls = AreKept ls (set spans place (written_span literals ls)) (live + 1)

  abbrev Q : List Literal → Type 0
  Q ls = Sets (clause_at (map (clause_in literals) spans)) (clause_at
      (map (clause_in ls) (set spans place (written_span literals ls)))) place (Some more)

  pub kept_put : AreKept literals' spans' (live + 1)
  kept_put =
      let R : List Span → Type 0 = λ ss. AreKept literals' ss (live + 1) in
      subst R (sym span) (subst P (sym longer) (record {
        within = put_within literals more spans place kept.within;
        counted = (let c = counted-put literals more spans place below free in let d = kept.counted in omega arith);
      }))

  pub sets_put : Sets (clause_at (map (clause_in literals) spans)) (clause_at (map (clause_in literals') spans')) place
      (Some more)
  sets_put =
      let R : List Span → Type 0 = λ ss. Sets (clause_at (map (clause_in literals) spans))
      (clause_at (map (clause_in literals') ss)) place (Some more) in
      subst R (sym span) (subst Q (sym longer) (put_sets literals more spans place below kept.within))

pub kept_removed : (literals : List Literal) (spans : List Span) (place live : ℕ) → place < length spans →
    AreKept literals spans live →
    IsSome (clause_at (map (clause_in literals) spans) place) → AreKept literals (set spans place gone_span) (live - 1)
kept_removed literals spans place live below kept some = record {
  within = All-set (λ s. s.end ≤ length literals) spans place gone_span (omega arith) kept.within;
  counted = (let c = counted-removed literals spans place below some in let d = kept.counted in omega arith);
}

-- where none is counted there is none
pub none_counted : (literals : List Literal) (spans : List Span) → count_by is_span spans ≡ 0 → (k : ℕ) →
    clause_at (map (clause_in literals) spans) k ≡ None
none_counted literals [] none k = refl
none_counted literals (s ∷ spans) none zero = elim (cases_Bool (is_span s)) [
  | inl is ↦ absurd (let one : as_number (is_span s) ≡ 1 = ap as_number is in
      omega (arith, none, one, counted-cons s spans))
  | inr is ↦ ap (λ b. cond b (Some (take (s.end - s.start) (drop s.start literals))) None) is
]
none_counted literals (s ∷ spans) none (suc k) = none_counted literals spans
    (omega (arith, none, counted-cons s spans)) k

-- through a view
pub set_along : (page page1 page2 : Clauses) (place : ℕ) (clause : Option (List Literal)) → page1 ≡ page →
    AreSameClauses (clause_at page1) (clause_at page2) → (page3 : Clauses) →
    Sets (clause_at page2) (clause_at page3) place clause → Sets (clause_at page) (clause_at page3) place clause
set_along page page1 page2 place clause view same page3 sets k =
    sets k ∙ ap (λ o. cond (k == place) clause o) (same k ∙ ap (λ p. clause_at p k) view)

pub some_counted : (literals : List Literal) (spans : List Span) (place live : ℕ) → place < length spans →
    AreKept literals spans live →
    IsSome (clause_at (map (clause_in literals) spans) place) → 1 ≤ live
some_counted literals spans place live below kept some = let c = counted-removed literals spans place below some in
    let d = kept.counted in omega arith

pub same_along : (page page1 page2 : Clauses) → page1 ≡ page → AreSameClauses (clause_at page1) (clause_at page2) →
    AreSameClauses (clause_at page) (clause_at page2)
same_along page page1 page2 view same k = same k ∙ ap (λ p. clause_at p k) view

-- a fact that holds anyway
pub on_err : (r : Result (Unit {0}) Memory) (P : Type 0) → P → OnErr r P
on_err (Ok done) P is = tt
on_err (Err refused) P is = is

-- a clause that wasn't written
pub same_unwritten : (literals literals' : List Literal) (old reached new : List Span) → AreSameSpans old reached →
    (new ≡ reached) × (literals' ≡ literals) →
    AreSameClauses (clause_at (map (clause_in literals) old)) (clause_at (map (clause_in literals') new))
same_unwritten literals literals' old reached new same unwritten =
    let P : List Span → Type 0 = λ ss. AreSameClauses (clause_at (map (clause_in literals) old))
    (clause_at (map (clause_in literals') ss)) in
    let Q : List Literal → Type 0 = λ ls. AreSameClauses (clause_at (map (clause_in literals) old))
    (clause_at (map (clause_in ls) reached)) in
    subst P (sym unwritten.0) (subst Q (sym unwritten.1) (same_spans literals old reached same))

pub kept_unwritten : (literals literals' : List Literal) (reached new : List Span) (live : ℕ) →
    (new ≡ reached) × (literals' ≡ literals) → AreKept literals reached live → AreKept literals' new live
kept_unwritten literals literals' reached new live unwritten kept =
    let P : List Span → Type 0 = λ ss. AreKept literals' ss live in
    let Q : List Literal → Type 0 = λ ls. AreKept ls reached live in
    subst P (sym unwritten.0) (subst Q (sym unwritten.1) kept)

pub some_along : (page page1 : Clauses) (place : ℕ) → page1 ≡ page → IsSome (clause_at page place) →
    IsSome (clause_at page1 place)
some_along page page1 place view some = let P : Clauses → Type 0 = λ p. IsSome (clause_at p place) in
    subst P (sym view) some

pub span_of_some : (literals : List Literal) (spans : List Span) (place : ℕ) →
    IsSome (clause_at (map (clause_in literals) spans) place) → place < length spans
span_of_some literals spans place some = omega (
  arith,
  place_of_some (map (clause_in literals) spans) place some,
  length-map spans (clause_in literals),
)

pub kept_erased : (literals : List Literal) (spans spans' : List Span) (place live : ℕ) →
    spans' ≡ set spans place gone_span → AreKept literals spans live →
    IsSome (clause_at (map (clause_in literals) spans) place) → AreKept literals spans' (live - 1)
kept_erased literals spans spans' place live erased kept some =
    let P : List Span → Type 0 = λ ss. AreKept literals ss (live - 1) in
    subst P (sym erased) (kept_removed literals spans place live (span_of_some literals spans place some) kept some)

pub sets_erased : (page : Clauses) (literals : List Literal) (spans spans' : List Span) (place : ℕ) →
    map (clause_in literals) spans ≡ page → spans' ≡ set spans place gone_span →
    IsSome (clause_at (map (clause_in literals) spans) place) →
    Sets (clause_at page) (clause_at (map (clause_in literals) spans')) place None
sets_erased page literals spans spans' place view erased some =
    let P : List Span → Type 0 = λ ss. Sets (clause_at page) (clause_at (map (clause_in literals) ss)) place None in
    let Q : Clauses → Type 0 = λ p. Sets (clause_at p) (clause_at
    (map (clause_in literals) (set spans place gone_span))) place None in
    subst P (sym erased) (subst Q view (removed_sets literals spans place (span_of_some literals spans place some)))

-- the first clauses of a page, in another one
abbrev pub HasFirst : Clauses → ℕ → Clauses → Type 0
HasFirst page n other = (k : ℕ) → clause_at other k ≡ cond (nat_lt k n) (clause_at page k) None
