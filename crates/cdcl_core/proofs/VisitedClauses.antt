-- Visits of clauses, one behind the other.
use Rattle.std.proofs.Common.{◌≡◌, ◌≢◌, ℕ, zero, suc, ◌+◌, ◌-◌, ◌<◌, ◌≤◌, true, false, ◌⊎◌, inl, inr, List, [], ◌∷◌, ◌++◌, length, length-append, take, drop, set, get_or, Option, None, Some, slice_get, MatchOption, Contains, refl, sym, ◌∙◌, ap, subst, arith, get_or-set_other, get_or-set_same}
use Rattle.std.specs.List.{list_any}
use Rattle.std.proofs.lemmas.Bool.{cases_Bool, cases_eq, cases_lt, false≢true}
use Rattle.std.proofs.lemmas.List.{length-set, get_or_past, get_or_default, append_assoc, append-nil, take_more}
use Rattle.std.proofs.lemmas.Option.{slice_get-get_or}
use Rattle.list_laws.proofs.Members.{no_element}
use Rattle.dq_lits.specs.Literal.{Literal, positive, opposite, variable_of, same_literal}
use Rattle.dq_lits.specs.Derivation.{unit, falsified, stuck, holds, status_of}
use Rattle.dq_lits.proofs.Truth.{same_literal-sound}
use Rattle.dq_lits.proofs.HeldLiterals.{any_one, any_gives, holds_here, holds_later}
use Rattle.dq_lits.proofs.SignedLiterals.{same_literal-refl, opposite-opposite}
use Rattle.oracle.specs.Fit.{live_in}
use Rattle.cdcl_core.specs.declared.propagation.Look.TheVariants.{Kept, Moved, Falsified}
use Rattle.learning_trail.specs.declared.trails.Step.{Step}
use Rattle.cdcl_core.specs.declared.watches.Watches.{Watches}
use Rattle.cdcl_core.specs.declared.watches.OpenList.{OpenList}
use Rattle.learning_trail.specs.Steps.{Trailed, literals_of, Grown, IsAt}
use Rattle.learning_trail.specs.Sound.{IsSound}
use Rattle.cdcl_core.specs.Chains.{left_to_visit, watch_at, place_of, has, IsLinked, HasList, FitIds, with_open, IsTaken, IsLeft}
use Rattle.cdcl_core.specs.Watching.{IsWatched, AreWatched, AreSame, AreShort, Guards, AreLevelsGuarded, IsMove, AreMoved, CanPropagate}
use Rattle.cdcl_core.specs.Visits.{IsVisitable, IsLooked, IsDone, IsVisited, IsListVisited, IsVisiting, IsPlaceVisited, KeepsShort, IsTrailVisited, IsSideProcessed, IsProcessed, AreOnTrail, IsPuttingBack, IsPassing}
use Rattle.learning_trail.proofs.ConflictAnalysis.{AreConsistent, sound_consistent, contains_cases}
use Rattle.cdcl_core.proofs.GuardedClauses.{Among, among_grown, among_suffix, any_more, same_stuck, watched_turned, guards_moved, guards_beside, short_moved, short_turned, levels_moved, levels_turned, levels_grown, short_kept, short_notes_turned, guards_visited, moved_both}
use Rattle.cdcl_core.proofs.LinkedLists.{place_of-one, chain_counted, has_first, has_later, has_cases, chain_short, chain_range}
use Rattle.learning_trail.proofs.LargerTrails.{grown_none, grown_one, grown_both, implied_step, literal_within, live_within}
use Rattle.learning_trail.proofs.StatusLaws.{is_falsified, is_unit, implied_from}

pub at_id : (clauses : List (List Literal)) (id : ℕ) (c : List Literal) → live_in clauses id ≡ Some c →
    slice_get clauses (id - 1) ≡ Some c
at_id clauses zero c is = let n : None ≡ Some c = is in cc
at_id clauses (suc i) c is = let e : suc i - 1 ≡ i = omega arith in ap (slice_get clauses) e ∙ is

pub some_clause : (clauses : List (List Literal)) (id : ℕ) → 1 ≤ id → id ≤ length clauses →
    (c : List Literal) × (live_in clauses id ≡ Some c)
some_clause clauses zero low high = absurd (omega (arith, low))
some_clause clauses (suc i) low high = (get_or clauses i [], slice_get-get_or clauses i [] (omega (arith, high)))

one_clause : (clauses : List (List Literal)) (i : ℕ) (c d : List Literal) → slice_get clauses i ≡ Some c →
    slice_get clauses i ≡ Some d → c ≡ d
one_clause clauses i c d a b = let e : Some c ≡ Some d = sym a ∙ b in cc

pub read_watch : (xs : List Literal) (i : ℕ) (l : Literal) → i < length xs → l ≡ get_or xs i l → l ≡ watch_at xs i
read_watch xs i l lt at = at ∙ get_or_default xs i l (positive 0) lt

pub visitable_next : (clauses : List (List Literal)) (old new : Trailed) (was now others : Watches) →
    IsVisitable clauses old was others → new.room ≡ old.room → IsSound (live_in clauses) new.steps
    → length new.steps ≤ new.room → AreWatched clauses now.literals.items others.literals.items →
    length now.literals.items ≡ length was.literals.items
    → length now.heads.items ≡ length was.heads.items → IsVisitable clauses new now others
visitable_next clauses old new was now others v room sound few watched long lists = search arith

pub visitable_turned : (clauses : List (List Literal)) (trail : Trailed) (first second : Watches) →
    IsVisitable clauses trail first second → IsVisitable clauses trail second first
visitable_turned clauses trail first second v = search (arith, watched_turned)

module _ (clauses : List (List Literal)) (old : Trailed) (was others : Watches) (l other : Literal) (id : ℕ)
    (c : List Literal)
    (v : IsVisitable clauses old was others) (is : live_in clauses id ≡ Some c)
    (here : watch_at was.literals.items (id - 1) ≡ l)
    (beside : other ≡ watch_at others.literals.items (id - 1))
    (false_now : holds (literals_of old.steps) (opposite l) ≡ true) where
  found_at : slice_get clauses (id - 1) ≡ Some c
  found_at = at_id clauses id c is

  pair : IsWatched c l other
  pair = search (arith, found_at)

  pub other_within : variable_of l ≤ old.room → variable_of other ≤ old.room
  other_within low = elim (cases_Bool (same_literal l other)) [
    | inl same ↦ let e = ap variable_of (same_literal-sound l other same) in omega (arith, e, low)
    | inr apart ↦ literal_within old.room c other (live_within clauses old.room id c is v.in_range) (pair.two apart).1
  ]

  -- the other literal isn't false, so it is another one of the clause
  other_among : holds (literals_of old.steps) (opposite other) ≡ false → holds c other ≡ true
  other_among free = elim (cases_Bool (same_literal l other)) [
    | inl same ↦ absurd (false≢true (sym free ∙ ap (λ k. holds (literals_of old.steps) (opposite k))
        (sym (same_literal-sound l other same)) ∙ false_now))
    | inr apart ↦ (pair.two apart).1
  ]

  pub visited_kept : (new : Trailed) (now : Watches) (next : ℕ) → length new.steps ≤ new.room →
      IsLooked c id old new other Kept → now.literals.items ≡ was.literals.items
      → length now.heads.items ≡ length was.heads.items → ((rest : List ℕ) → IsLinked was id (id ∷ rest) →
      IsLinked now next rest) → IsVisited clauses old new was now others l id (Some next)
  visited_kept new now next few looked same lists linked =
      let P : Trailed → Type 0 = λ t. (t.room ≡ old.room) × IsSound
      (live_in clauses) t.steps × Grown old.steps t.steps × (holds (literals_of t.steps) other ≡ true) in
      let all : P new = elim looked [
        | inl k ↦ subst P (sym k.0) (refl, v.sound, grown_none old.steps, k.1)
        | inr m ↦ subst P (sym m.is) (
          refl,
          (
            record {
              free = m.free;
              reasoned = ap (status_of (literals_of old.steps)) is ∙ is_unit (literals_of old.steps) c other
                  (other_among m.free.1)
                  (λ k h n. m.others k h (elim (cases_Bool (same_literal k other))
                  [ inl s ↦ absurd (n (same_literal-sound k other s)) | inr f ↦ f ])) m.free;
            },
            v.sound,
          ),
          grown_one old.steps old.steps other id (grown_none old.steps),
          holds_here other (literals_of old.steps),
        )
      ] in
      record {
        visitable = visitable_next clauses old new was now others v all.0 all.1 few
            (subst (λ ls. AreWatched clauses ls others.literals.items) (sym same) v.watched) (ap length same) lists;
        room = all.0;
        grown = all.2;
        moved = λ i. inl (ap (λ ls. watch_at ls i) same);
        elsewhere = λ i n. ap (λ ls. watch_at ls i) same;
        linked = linked;
        lists = lists;
        ended = λ apart e. ap (holds (literals_of new.steps)) (sym beside) ∙ all.3;
      }

  pub visited_moved : (new : Trailed) (now : Watches) (k : Literal) (next : ℕ) → length new.steps ≤ new.room →
      IsLooked c id old new other (Moved k) → 1 ≤ id → id ≤ length clauses
      → now.literals.items ≡ set was.literals.items (id - 1) k → length now.heads.items ≡ length was.heads.items →
      ((rest : List ℕ) → IsLinked was id (id ∷ rest) → IsLinked now next rest)
      → IsVisited clauses old new was now others l id (Some next)
  visited_moved new now k next few looked low high changed lists linked =
      let i = id - 1 in
      let o = looked.1 in
      let count = v.count in
      let lt : i < length was.literals.items = omega (arith, low, high, count) in
      let new_here : watch_at now.literals.items i ≡ k = ap (λ ls. watch_at ls i) changed
      ∙ get_or-set_same was.literals.items i k (positive 0) lt in
      let elsewhere : (j : ℕ) → (j ≡ i → ⊥) → watch_at now.literals.items j ≡ watch_at was.literals.items j = λ j n.
      ap (λ ls. watch_at ls j) changed ∙ get_or-set_other was.literals.items i j k (positive 0) n in
      let was_apart : same_literal l other ≡ false = elim (cases_Bool (same_literal l other)) [
        | inl s ↦
            let e : k ≡ other = pair.one s k o.among ∙ same_literal-sound l other s in
            absurd (false≢true (sym o.apart ∙ ap (same_literal k) (sym e) ∙ same_literal-refl k))
        | inr f ↦ f
      ] in
      let move : IsMove (literals_of old.steps) (watch_at was.literals.items i) (watch_at now.literals.items i)
      (watch_at others.literals.items i) =
      subst (λ b. IsMove (literals_of old.steps) (watch_at was.literals.items i)
      (watch_at now.literals.items i) b) beside
      (subst (λ n. IsMove (literals_of old.steps) (watch_at was.literals.items i) n other) (sym new_here)
      (subst (λ w. IsMove (literals_of old.steps) w k other) (sym here)
      (record { was_false = false_now; not_false = o.not_false; was_apart = was_apart; apart = o.apart }))) in
      let watched : AreWatched clauses now.literals.items others.literals.items = λ j d at_j. elim (cases_eq j i) [
        | inl e ↦
            let same : d ≡ c = one_clause clauses i d c (ap (slice_get clauses) (sym e) ∙ at_j) found_at in
            let w : IsWatched c k other = record {
              two = λ _. (o.among, (pair.two was_apart).1);
              one = λ s. absurd (false≢true (sym o.apart ∙ s));
            } in
            subst (λ n. IsWatched d (watch_at now.literals.items n) (watch_at others.literals.items n)) (sym e)
            (subst (λ b. IsWatched d (watch_at now.literals.items i) b) beside
            (subst (λ n. IsWatched d n other) (sym new_here) (subst (λ x. IsWatched x k other) (sym same) w)))
        | inr n ↦ subst (λ w. IsWatched d w (watch_at others.literals.items j)) (sym (elsewhere j n))
            (v.watched j d at_j)
      ] in
      let P : Trailed → Type 0 = λ t. (t.room ≡ old.room) × IsSound
      (live_in clauses) t.steps × Grown old.steps t.steps in
      let all : P new = subst P (sym looked.0) (refl, v.sound, grown_none old.steps) in
      record {
        visitable = visitable_next clauses old new was now others v all.0 all.1 few watched
            (ap length changed ∙ length-set was.literals.items i k) lists;
        room = all.0;
        grown = all.2;
        moved = λ j. elim (cases_eq j i) [
          | inl e ↦ inr (subst (λ n. IsMove (literals_of old.steps) (watch_at was.literals.items n)
              (watch_at now.literals.items n) (watch_at others.literals.items n)) (sym e) move)
          | inr n ↦ inl (elsewhere j n)
        ];
        elsewhere = elsewhere;
        linked = linked;
        lists = lists;
        ended = λ apart e.
            let same : k ≡ l = sym new_here ∙ e in
            absurd (false≢true (sym o.not_false ∙ ap (λ x. holds (literals_of old.steps) (opposite x)) same
            ∙ false_now));
      }

  pub visited_falsified : (new : Trailed) → length new.steps ≤ new.room → IsLooked c id old new other Falsified →
      IsVisited clauses old new was was others l id None
  visited_falsified new few looked =
      let P : Trailed → Type 0 = λ t. (t.room ≡ old.room) × IsSound
      (live_in clauses) t.steps × Grown old.steps t.steps ×
      (status_of (literals_of t.steps) (live_in clauses id) ≡ falsified) in
      let all : P new = subst P (sym looked.0) (
        refl,
        v.sound,
        grown_none old.steps,
        ap (status_of (literals_of old.steps)) is ∙ is_falsified (literals_of old.steps) c looked.1,
      ) in
      record {
        visitable = visitable_next clauses old new was was others v all.0 all.1 few v.watched refl refl;
        room = all.0;
        grown = all.2;
        moved = λ i. inl refl;
        elsewhere = λ i n. refl;
        linked = λ rest k. k;
        lists = refl;
        ended = (refl, all.3);
      }

-- the clauses that are left
pub record IsFirstLeft (w : Watches) (at : ℕ) (rest : List ℕ) : Type 0 where
  pub later : List ℕ
  pub is : rest ≡ at ∷ later
  pub is_id : at ≤ length w.nexts.items

pub first_left : (w : Watches) (at : ℕ) (rest : List ℕ) → IsLinked w at rest → at ≢ 0 → IsFirstLeft w at rest
first_left w at [] k n = absurd (n k.links.rest_chain)
first_left w at (id ∷ later) k n = search arith

pub none_left : (w : Watches) (at : ℕ) (rest : List ℕ) → IsLinked w at rest → at ≡ 0 → rest ≡ []
none_left w at [] k e = refl
none_left w at (id ∷ later) k e = search arith

pub linked_end : (w : Watches) (at : ℕ) (rest : List ℕ) → IsLinked w at rest → at ≡ 0 → IsLinked w 0 []
linked_end w at rest k e = subst (λ xs. IsLinked w 0 xs) (none_left w at rest k e) (subst (λ n. IsLinked w n rest) e k)

pub left_short : (w : Watches) (at : ℕ) (rest : List ℕ) → IsLinked w at rest → length rest ≤ length w.nexts.items
left_short w at rest k = chain_short w.nexts.items at rest k.links.rest_chain k.links.rest_once

pub left_range : (w : Watches) (at : ℕ) (rest : List ℕ) (id : ℕ) → IsLinked w at rest → has rest id ≡ true → 1 ≤ id
left_range w at rest id k h = (chain_range w.nexts.items at id rest k.links.rest_chain h).0

-- one clause fewer is left, where the first one was
fewer : (now new : Watches) (at next : ℕ) (later : List ℕ) → IsLinked now at (at ∷ later) → IsLinked new next later
    → left_to_visit new next < left_to_visit now at
fewer now new at next later before after =
    let here = chain_counted (length now.nexts.items) now.nexts.items at (at ∷ later) before.links.rest_chain
    (left_short now at (at ∷ later) before) in
    let there = chain_counted (length new.nexts.items) new.nexts.items next later after.links.rest_chain
    (left_short new next later after) in
    omega (arith, here, there)

-- clauses are put back
pub putting_first : (w : Watches) (at : ℕ) (l : Literal) → IsLeft w at l → IsPuttingBack w w l at
putting_first w at l left = record { left = left; literals = refl; lists = refl }

module _ (was now new : Watches) (l : Literal) (at next : ℕ) (p : IsPuttingBack was now l at) (n : at ≢ 0)
    (linked : (rest : List ℕ) → IsLinked now at (at ∷ rest) → IsLinked new next rest) where
  first_back : IsFirstLeft now at p.left.rest
  first_back = first_left now at p.left.rest p.left.linked n

  was_linked : IsLinked now at (at ∷ first_back.later)
  was_linked = subst (λ xs. IsLinked now at xs) first_back.is p.left.linked

  pub putting_next : new.literals.items ≡ now.literals.items → length new.heads.items ≡ length now.heads.items
      → IsPuttingBack was new l next
  putting_next literals lists = record {
    left = record {
      rest = first_back.later;
      linked = linked first_back.later was_linked;
      watched = λ id h. ap (λ ls. watch_at ls (id - 1)) literals ∙ p.left.watched id
          (ap (λ xs. has xs id) first_back.is ∙ has_later at id first_back.later h);
    };
    literals = literals ∙ p.literals;
    lists = lists ∙ p.lists;
  }

  pub putting_fewer : left_to_visit new next < left_to_visit now at
  putting_fewer = fewer now new at next first_back.later was_linked (linked first_back.later was_linked)

-- the visits of a list
pub off_end : (these others : List Literal) (i : ℕ) → length these ≤ i → length others ≤ i →
    same_literal (watch_at these i) (watch_at others i) ≡ false → ⊥
off_end these others i a b apart = search (arith, false≢true, get_or_past, same_literal-refl)

pub visiting_first : (clauses : List (List Literal)) (trail : Trailed) (was now others : Watches) (l : Literal) (at : ℕ)
    → IsVisitable clauses trail was others → IsTaken now l at
    → now.literals.items ≡ was.literals.items → length now.heads.items ≡ length was.heads.items →
    IsVisiting clauses trail trail was now others l at
visiting_first clauses trail was now others l at v taken same lists =
    let count = v.count in
    let other_count = v.other_count in
    let nexts : length now.nexts.items ≡ length clauses = sym taken.linked.links.count ∙ ap length same ∙ count in
    record {
      visitable = visitable_next clauses trail trail was now others v refl v.sound v.few
          (subst (λ ls. AreWatched clauses ls others.literals.items) (sym same) v.watched) (ap length same) lists;
      room = refl;
      grown = grown_none trail.steps;
      moved = λ i. inl (ap (λ ls. watch_at ls i) same);
      rest = taken.rest;
      linked = taken.linked;
      watched = taken.watched;
      done = λ i. elim (cases_lt i (length clauses)) [
        | inl lt ↦ elim (cases_Bool (same_literal (watch_at now.literals.items i) l)) [
          | inl s ↦
              let one : suc i - 1 ≡ i = omega arith in
              inl (taken.whole (suc i) (omega arith) (omega (arith, lt, nexts))
              (ap (watch_at now.literals.items) one ∙ same_literal-sound (watch_at now.literals.items i) l s))
          | inr n ↦ inr (λ apart e. absurd (false≢true (sym n ∙ ap (λ k. same_literal k l) e ∙ same_literal-refl l)))
        ]
        | inr past ↦ inr (λ apart e. absurd (off_end now.literals.items others.literals.items i
            (omega (arith, past, count, ap length same)) (omega (arith, past, other_count)) apart))
      ];
    }

pub visiting_end : (clauses : List (List Literal)) (old new : Trailed) (was now others : Watches) (l : Literal)
    (at : ℕ) → (p : IsVisiting clauses old new was now others l at) → at ≡ 0
    → IsListVisited clauses old new was now others l None
visiting_end clauses old new was now others l at p e =
    let none = none_left now at p.rest p.linked e in
    record {
      visitable = p.visitable;
      room = p.room;
      grown = p.grown;
      moved = p.moved;
      linked = linked_end now at p.rest p.linked e;
      ended = λ j. elim (p.done j) [
        | inl h ↦ absurd (false≢true (ap (λ xs. has xs (suc j)) (sym none) ∙ h))
        | inr d ↦ d
      ];
    }

module _ (clauses : List (List Literal)) (old now_trail new_trail : Trailed) (was now new others : Watches)
    (l : Literal) (at : ℕ) (found : Option ℕ)
    (p : IsVisiting clauses old now_trail was now others l at) (f : IsFirstLeft now at p.rest)
    (s : IsVisited clauses now_trail new_trail now new others l at found)
    (false_now : holds (literals_of old.steps) (opposite l) ≡ true) where
  here : watch_at now.literals.items (at - 1) ≡ l
  here = p.watched at (ap (λ xs. has xs at) f.is ∙ has_first at f.later)

  moved_on : AreMoved (literals_of old.steps) was.literals.items new.literals.items others.literals.items
  moved_on = moved_both (literals_of old.steps) (literals_of now_trail.steps) was.literals.items now.literals.items
      new.literals.items others.literals.items
      (among_grown old.steps now_trail.steps p.grown) p.moved s.moved
      (λ j m. elim (cases_eq j (at - 1)) [
        | inl e ↦ ap (λ n. holds (literals_of old.steps) (opposite (watch_at now.literals.items n))) e ∙ ap
            (λ k. holds (literals_of old.steps) (opposite k)) here ∙ false_now
        | inr n ↦ absurd (false≢true (sym m.not_false ∙ ap (λ k. holds (literals_of now_trail.steps) (opposite k))
            (s.elsewhere j n) ∙ m.was_false))
      ])

  before : IsLinked now at (at ∷ f.later)
  before = subst (λ xs. IsLinked now at xs) f.is p.linked

  one_later : (j : ℕ) → has f.later j ≡ true → 1 ≤ at → (1 ≤ j) → (j - 1 ≡ at - 1) → ⊥
  one_later j h low low' e = search (arith, false≢true)

  pub visiting_next : (next : ℕ) → found ≡ Some next → IsVisiting clauses old new_trail was new others l next
  visiting_next next is =
      let ends = subst (λ (o : Option ℕ). MatchOption o ((new ≡ now) ×
      (status_of (literals_of new_trail.steps) (live_in clauses at) ≡ falsified))
      (λ _. IsDone (literals_of new_trail.steps) new.literals.items others.literals.items l (at - 1))) is s.ended in
      let after : IsLinked new next f.later = subst (λ (o : Option ℕ). MatchOption o (IsLinked new at (at ∷ f.later))
      (λ n. IsLinked new n f.later)) is (s.linked f.later before) in
      let low = before.links.rest_chain.1 in
      record {
        visitable = s.visitable;
        room = s.room ∙ p.room;
        grown = grown_both old.steps now_trail.steps new_trail.steps p.grown s.grown;
        moved = moved_on;
        rest = f.later;
        linked = after;
        watched = λ id h.
            let r = left_range new next f.later id after h in
            s.elsewhere (id - 1) (one_later id h low r) ∙ p.watched id
            (ap (λ xs. has xs id) f.is ∙ has_later at id f.later h);
        done = λ j. elim (cases_eq j (at - 1)) [
          | inl e ↦ inr (subst (IsDone (literals_of new_trail.steps) new.literals.items others.literals.items l)
              (sym e) ends)
          | inr n ↦ elim (p.done j) [
            | inl h ↦ elim (has_cases at (suc j) f.later (ap (λ xs. has xs (suc j)) (sym f.is) ∙ h)) [
              | inl e ↦ absurd (n (omega (arith, e)))
              | inr t ↦ inl t
            ]
            | inr d ↦ inr (λ apart e. among_grown now_trail.steps new_trail.steps s.grown
                (watch_at others.literals.items j)
                (d (ap (λ k. same_literal k (watch_at others.literals.items j)) (sym (s.elsewhere j n)) ∙ apart)
                (sym (s.elsewhere j n) ∙ e)))
          ]
        ];
      }

  -- one clause fewer is left
  pub fewer_left : (next : ℕ) → found ≡ Some next → left_to_visit new next < left_to_visit now at
  fewer_left next is =
      let after : IsLinked new next f.later = subst (λ (o : Option ℕ). MatchOption o (IsLinked new at (at ∷ f.later))
      (λ n. IsLinked new n f.later)) is (s.linked f.later before) in
      fewer now new at next f.later before after

  pub visiting_conflict : (back : Watches) → found ≡ None → IsLinked back 0 [] →
      back.literals.items ≡ new.literals.items → length back.heads.items ≡ length new.heads.items
      → IsListVisited clauses old new_trail was back others l (Some at)
  visiting_conflict back is linked same lists =
      let ends = subst (λ (o : Option ℕ). MatchOption o ((new ≡ now) ×
      (status_of (literals_of new_trail.steps) (live_in clauses at) ≡ falsified))
      (λ _. IsDone (literals_of new_trail.steps) new.literals.items others.literals.items l (at - 1))) is s.ended in
      let v = s.visitable in
      record {
        visitable = visitable_next clauses new_trail new_trail new back others v refl v.sound v.few
            (subst (λ ls. AreWatched clauses ls others.literals.items) (sym same) v.watched) (ap length same) lists;
        room = s.room ∙ p.room;
        grown = grown_both old.steps now_trail.steps new_trail.steps p.grown s.grown;
        moved = subst (λ ls. AreMoved (literals_of old.steps) was.literals.items ls others.literals.items)
            (sym same) moved_on;
        linked = linked;
        ended = ends.1;
      }

-- a literal has a list, though one is visited
pub has_open : (w : Watches) (o : OpenList) (k : Literal) → HasList (with_open w o) k → HasList w k
has_open w o k list = omega (arith, list, length-set w.heads.items (place_of o.literal) o.first)

-- there are as many lists, whichever is visited
pub kept_lists : (was now : Watches) (o p : OpenList) → length now.heads.items ≡ length was.heads.items
    → length (with_open now p).heads.items ≡ length (with_open was o).heads.items
kept_lists was now o p lists = search (arith, length-set)

-- a literal that isn't false has another list than one that is
pub apart_lists : (trues : List Literal) (k l : Literal) → holds trues (opposite k) ≡ false
    → holds trues (opposite l) ≡ true → place_of l ≡ place_of k → ⊥
apart_lists trues k l not_false is_false e = search (arith, place_of-one, false≢true)

-- each list but the one that is visited begins as it did
pub begin_apart : (w : Watches) (o : OpenList) (k : Literal) → FitIds (with_open w o)
    → (place_of o.literal ≡ place_of k → ⊥) → get_or w.heads.items (place_of k) 0 ≤ w.nexts.most
begin_apart w o k fits n = search (arith, get_or-set_other)

-- a trail that is visited from its oldest literal on
drop_front : (xs ys : List Step) → drop (length xs) (xs ++ ys) ≡ ys
drop_front [] ys = refl
drop_front (x ∷ xs) ys = drop_front xs ys

suffix_one : (xs ys zs ws : List Step) → xs ++ ys ≡ zs ++ ws → length ys ≡ length ws → ys ≡ ws
suffix_one xs ys zs ws e long =
    let n : length xs ≡ length zs = omega (arith, ap length e, length-append xs ys, length-append zs ws, long) in
    sym (drop_front xs ys) ∙ ap (drop (length xs)) e ∙ ap (λ k. drop k (zs ++ ws)) n ∙ drop_front zs ws

-- the sides change their places
pub on_trail_turned : (clauses : List (List Literal)) (old new : Trailed) (was now was_second now_second : Watches)
    (at second_at : ℕ) → AreOnTrail clauses old new was now was_second now_second at second_at
    → AreOnTrail clauses old new was_second now_second was now second_at at
on_trail_turned clauses old new was now was_second now_second at second_at p =
    let a = was.literals.items in
    let b = now.literals.items in
    let c = was_second.literals.items in
    let d = now_second.literals.items in
    record {
      visitable = visitable_turned clauses new now now_second p.visitable;
      linked = p.second_linked;
      second_linked = p.linked;
      room = p.room;
      grown = p.grown;
      short = λ short notes. short_notes_turned clauses b d short (p.short short
          (short_notes_turned clauses c a short notes));
      processed = record {
        first_side = p.processed.second_side;
        second_side = p.processed.first_side;
        short = short_turned clauses b d (literals_of new.steps) p.processed.short;
        levels = levels_turned clauses b d new.steps p.processed.levels;
      };
    }

pub trail_turned : (clauses : List (List Literal)) (old new : Trailed) (was now was_second now_second : Watches)
    (id : ℕ) → IsTrailVisited clauses old new was now was_second now_second (Some id)
    → IsTrailVisited clauses old new was_second now_second was now (Some id)
trail_turned clauses old new was now was_second now_second id p =
    let a = was.literals.items in
    let b = now.literals.items in
    let c = was_second.literals.items in
    let d = now_second.literals.items in
    record {
      visitable = visitable_turned clauses new now now_second p.visitable;
      linked = p.second_linked;
      second_linked = p.linked;
      room = p.room;
      grown = p.grown;
      short = λ short notes. short_notes_turned clauses b d short (p.short short
          (short_notes_turned clauses c a short notes));
      levels = levels_turned clauses b d new.steps p.levels;
      ended = p.ended;
    }

-- a list was visited of the literal at the first side's place
module _ (clauses : List (List Literal)) (old now_trail new_trail : Trailed)
    (was now new was_second now_second : Watches) (at second_at : ℕ) (found : Option ℕ)
    (p : AreOnTrail clauses old now_trail was now was_second now_second at second_at)
    (v : IsPlaceVisited clauses now_trail new_trail now new now_second at found) where
  abbrev trues : List Literal
  trues = literals_of now_trail.steps

  abbrev new_trues : List Literal
  new_trues = literals_of new_trail.steps

  consistent : AreConsistent trues
  consistent = sound_consistent (live_in clauses) now_trail.steps p.visitable.sound

  up : Among trues new_trues
  up = among_grown now_trail.steps new_trail.steps v.visited.grown

  short_next : KeepsShort clauses was new was_second now_second
  short_next short notes = short_kept clauses trues now.literals.items new.literals.items now_second.literals.items short
      v.visited.moved (p.short short notes)

  levels_next : AreLevelsGuarded clauses new.literals.items now_second.literals.items new_trail.steps
  levels_next = levels_grown clauses new.literals.items now_second.literals.items now_trail.steps new_trail.steps
      v.visited.grown (levels_moved clauses trues now.literals.items new.literals.items now_second.literals.items
      now_trail.steps v.visited.moved consistent (λ t h. h) p.processed.levels)

  pub trail_conflict : (id : ℕ) → found ≡ Some id
      → IsTrailVisited clauses old new_trail was new was_second now_second (Some id)
  trail_conflict id is = record {
    visitable = v.visited.visitable;
    linked = v.visited.linked;
    second_linked = p.second_linked;
    room = v.visited.room ∙ p.room;
    grown = grown_both old.steps now_trail.steps new_trail.steps p.grown v.visited.grown;
    short = short_next;
    levels = levels_next;
    ended = subst (λ (o : Option ℕ). MatchOption o
        ((i : ℕ) → IsDone new_trues new.literals.items now_second.literals.items (opposite v.literal) i)
        (λ k. status_of new_trues (live_in clauses k) ≡ falsified)) is v.visited.ended;
  }

  first_next : found ≡ None
      → IsSideProcessed new.literals.items now_second.literals.items new_trail.steps (at + 1)
  first_next is =
      let done = p.processed.first_side in
      let here = v.here in
      let split : now_trail.steps ≡ (here.newer ++ here.step ∷ []) ++ here.older =
      here.is ∙ sym (append_assoc here.newer (here.step ∷ []) here.older) in
      let older : done.older ≡ here.older = suffix_one done.newer done.older (here.newer ++ here.step ∷ []) here.older
      (sym done.is ∙ split) (done.count ∙ sym here.count) in
      let visited : (i : ℕ) → IsDone new_trues new.literals.items now_second.literals.items (opposite v.literal) i =
      subst (λ (o : Option ℕ). MatchOption o
      ((i : ℕ) → IsDone new_trues new.literals.items now_second.literals.items (opposite v.literal) i)
      (λ k. status_of new_trues (live_in clauses k) ≡ falsified)) is v.visited.ended in
      let inside : Among (literals_of done.older) trues =
      λ t h. ap (λ xs. holds (literals_of xs) t) done.is ∙ among_suffix done.newer done.older t h in
      let guards = guards_visited new_trues new.literals.items now_second.literals.items (literals_of done.older)
      (opposite v.literal)
      (guards_moved trues trues new_trues (literals_of done.older) now.literals.items new.literals.items now_second.literals.items
      v.visited.moved inside up done.guards) visited in
      let first : opposite (opposite v.literal) ≡ here.step.literal = opposite-opposite v.literal
      ∙ sym here.literal in
      record {
        newer = v.visited.grown.more ++ here.newer;
        older = here.step ∷ here.older;
        is = v.visited.grown.is ∙ ap (λ xs. v.visited.grown.more ++ xs) here.is ∙ sym
            (append_assoc v.visited.grown.more here.newer (here.step ∷ here.older));
        count = omega (arith, here.count);
        guards = subst (λ xs. Guards xs new_trues new.literals.items now_second.literals.items)
            (ap (λ x. x ∷ literals_of done.older) first ∙ ap (λ xs. here.step.literal ∷ literals_of xs) older) guards;
      }

  second_next : IsSideProcessed now_second.literals.items new.literals.items new_trail.steps second_at
  second_next =
      let done = p.processed.second_side in
      record {
        newer = v.visited.grown.more ++ done.newer;
        older = done.older;
        is = v.visited.grown.is ∙ ap (λ xs. v.visited.grown.more ++ xs) done.is ∙ sym
            (append_assoc v.visited.grown.more done.newer done.older);
        count = done.count;
        guards = guards_beside trues trues new_trues (literals_of done.older) now.literals.items new.literals.items
            now_second.literals.items v.visited.moved consistent (λ t h. h) up done.guards;
      }

  pub trail_next : found ≡ None
      → AreOnTrail clauses old new_trail was new was_second now_second (at + 1) second_at
  trail_next is = record {
    visitable = v.visited.visitable;
    linked = v.visited.linked;
    second_linked = p.second_linked;
    room = v.visited.room ∙ p.room;
    grown = grown_both old.steps now_trail.steps new_trail.steps p.grown v.visited.grown;
    short = short_next;
    processed = record {
      first_side = first_next is;
      second_side = second_next;
      short = short_moved clauses trues trues new_trues now.literals.items new.literals.items now_second.literals.items v.visited.moved
          up p.processed.short;
      levels = levels_next;
    };
  }

-- a trail without literals, and the short clauses
pub visitable_passed : (clauses : List (List Literal)) (old new : Trailed) (first second : Watches) →
    IsVisitable clauses old first second → new.room ≡ old.room → IsSound (live_in clauses) new.steps
    → length new.steps ≤ new.room → IsVisitable clauses new first second
visitable_passed clauses old new first second v room sound few = search (arith, visitable_next)

pub passed_conflict : (clauses : List (List Literal)) (old new : Trailed) (first second : Watches) (id : ℕ) →
    IsVisitable clauses old first second → IsLinked first 0 [] → IsLinked second 0 []
    → AreLevelsGuarded clauses first.literals.items second.literals.items old.steps → new.room ≡ old.room →
    IsSound (live_in clauses) new.steps → Grown old.steps new.steps
    → length new.steps ≤ new.room → status_of (literals_of new.steps) (live_in clauses id) ≡ falsified →
    IsTrailVisited clauses old new first first second second (Some id)
passed_conflict clauses old new first second id v linked second_linked levels room sound grown few is_false =
    search (arith, visitable_passed, levels_grown)

side_first : (these others : List Literal) (steps : List Step) → IsSideProcessed these others steps 0
side_first these others steps = record {
  newer = steps;
  older = [];
  is = sym (append-nil steps);
  count = refl;
  guards = λ i apart f. absurd (false≢true f);
}

pub passed_first : (clauses : List (List Literal)) (old new : Trailed) (first second : List Literal) (short : List ℕ) →
    AreWatched clauses first second → AreShort clauses first second short
    → AreLevelsGuarded clauses first second old.steps → Grown old.steps new.steps
    → ((id : ℕ) (c : List Literal) → Contains short id → live_in clauses id ≡ Some c → AreSame c →
    list_any (holds (literals_of new.steps)) c ≡ true)
    → IsProcessed clauses first second new.steps 0 0
passed_first clauses old new first second short watched notes levels grown passed = record {
  first_side = side_first first second new.steps;
  second_side = side_first second first new.steps;
  short = λ i c at same. elim (notes.whole i c at same) [
    | inl h ↦ true_now (suc i) c h at
    | inr n ↦
        let id = n.1.0 in
        let range = notes.ids id n.1.1 in
        let r = some_clause clauses id range.0 range.1 in
        let g = any_gives (holds (literals_of new.steps)) r.0 (true_now id r.0 n.1.1 r.1) in
        let is : g.0 ≡ watch_at first i = (watched (id - 1) r.0 (at_id clauses id r.0 r.1)).one (notes.one id n.1.1) g.0
        g.1 ∙ n.1.2 in
        said i c at same n.0 (subst (λ x. holds (literals_of new.steps) x ≡ true) is g.2)
  ];
  levels = levels_grown clauses first second old.steps new.steps grown levels;
}
  where
    true_now : (id : ℕ) (c : List Literal) → Contains short id → live_in clauses id ≡ Some c →
        list_any (holds (literals_of new.steps)) c ≡ true
    true_now id c h at =
        let range = notes.ids id h in
        let one = (watched (id - 1) c (at_id clauses id c at)).one (notes.one id h) in
        passed id c h at (λ x y hx hy. one x hx ∙ sym (one y hy))

    said : (i : ℕ) (c : List Literal) → slice_get clauses i ≡ Some c
        → same_literal (watch_at first i) (watch_at second i) ≡ true → c ≢ []
        → holds (literals_of new.steps) (watch_at first i) ≡ true → list_any (holds (literals_of new.steps)) c ≡ true
    said i [] at same n on = absurd (n refl)
    said i (x ∷ c) at same n on = any_one (holds (literals_of new.steps)) (x ∷ c) x (holds_here x c)
        (subst (λ l. holds (literals_of new.steps) l ≡ true) (sym ((watched i (x ∷ c) at).one same x (holds_here x c))) on)

pub processed_top : (clauses : List (List Literal)) (first second : List Literal) (steps : List Step) (at : ℕ) →
    length steps ≢ 0 → at ≡ length steps - 1 → CanPropagate clauses first second steps
    → IsProcessed clauses first second steps at at
processed_top clauses first second [] at n is ready = absurd (n refl)
processed_top clauses first second (s ∷ earlier) at n is ready = record {
  first_side = record {
    newer = s ∷ [];
    older = earlier;
    is = refl;
    count = omega (arith, is);
    guards = ready.top.first_guards;
  };
  second_side = record {
    newer = s ∷ [];
    older = earlier;
    is = refl;
    count = omega (arith, is);
    guards = ready.top.second_guards;
  };
  short = ready.top.short;
  levels = ready.levels;
}

contains_first : (x : ℕ) (xs : List ℕ) → Contains (x ∷ xs) x
contains_first x xs = (0, omega arith, refl)

contains_later : (y : ℕ) (xs : List ℕ) (x : ℕ) → Contains xs x → Contains (y ∷ xs) x
contains_later y xs x c = let lt = c.1 in (suc c.0, omega (arith, lt), c.2)

pub contains_last : (xs : List ℕ) (y x : ℕ) → Contains (xs ++ y ∷ []) x → Contains xs x ⊎ (x ≡ y)
contains_last [] y x h = elim (contains_cases y [] x h) [ inl e ↦ inr e | inr n ↦ absurd (no_element x n) ]
contains_last (z ∷ xs) y x h = search (arith, contains_cases, contains_first, contains_later, (contains_last xs y x))

-- the first short clauses
pub passing_unit : (clauses : List (List Literal)) (old now new : Trailed) (short : List ℕ) (i id : ℕ)
    (c : List Literal) (l : Literal) → i < length short → id ≡ get_or short i id
    → live_in clauses id ≡ Some c → IsPassing clauses old now (take i short) →
    status_of (literals_of now.steps) (Some c) ≡ unit l
    → new ≡ record { room = now.room; steps = implied_step l id ∷ now.steps } → length new.steps ≤ new.room →
    IsPassing clauses old new (take (i + 1) short)
passing_unit clauses old now new short i id c l lt at is p status pushed few =
    let P : Trailed → Type 0 = λ t. (t.room ≡ old.room) × IsSound
    (live_in clauses) t.steps × Grown old.steps t.steps × Among (literals_of now.steps) (literals_of t.steps) ×
    (holds (literals_of t.steps) l ≡ true) in
    let imp = implied_from (literals_of now.steps) c l status in
    let all : P new = subst P (sym pushed) (
      p.room,
      (record { free = imp.free; reasoned = ap (status_of (literals_of now.steps)) is ∙ status }, p.sound),
      grown_one old.steps now.steps l id p.grown,
      (λ t h. holds_later l (literals_of now.steps) t h),
      holds_here l (literals_of now.steps),
    ) in
    record {
      room = all.0;
      sound = all.1;
      grown = all.2;
      few = few;
      true_now = λ id' d has is' same. elim (taken_cases short i id id' lt at has) [
        | inl e ↦ any_more (literals_of now.steps) (literals_of new.steps) d all.3 (p.true_now id' d e is' same)
        | inr e ↦
            let q : Some d ≡ Some c = sym is' ∙ ap (live_in clauses) e ∙ is in
            let r : c ≡ d = cc in
            any_one (holds (literals_of new.steps)) d l (ap (λ xs. holds xs l) (sym r) ∙ imp.among) all.4
      ];
    }
  where
    taken_cases : (short : List ℕ) (i id id' : ℕ) → i < length short → id ≡ get_or short i id →
        Contains (take (i + 1) short) id' → Contains (take i short) id' ⊎ (id' ≡ id)
    taken_cases short i id id' lt at has =
        let longer : take (i + 1) short ≡ take i short ++ id ∷ [] =
        take_more short i id lt ∙ ap (λ y. take i short ++ y ∷ []) (sym at) in
        contains_last (take i short) id id' (subst (λ xs. Contains xs id') longer has)

pub passing_stuck : (clauses : List (List Literal)) (old now : Trailed) (short : List ℕ) (i id : ℕ) (c : List Literal) →
    i < length short → id ≡ get_or short i id
    → live_in clauses id ≡ Some c → IsPassing clauses old now (take i short) →
    status_of (literals_of now.steps) (Some c) ≡ stuck → IsPassing clauses old now (take (i + 1) short)
passing_stuck clauses old now short i id c lt at is p status = record {
  room = p.room;
  sound = p.sound;
  grown = p.grown;
  few = p.few;
  true_now = λ id' d has is' same.
      let longer : take (i + 1) short ≡ take i short ++ id ∷ [] =
      take_more short i id lt ∙ ap (λ y. take i short ++ y ∷ []) (sym at) in
      elim (contains_last (take i short) id id' (subst (λ xs. Contains xs id') longer has)) [
        | inl e ↦ p.true_now id' d e is' same
        | inr e ↦
            let q : Some d ≡ Some c = sym is' ∙ ap (live_in clauses) e ∙ is in
            let r : c ≡ d = cc in
            same_stuck (literals_of now.steps) d same (ap (λ xs. status_of (literals_of now.steps) (Some xs)) (sym r)
            ∙ status)
      ];
}

pub at_holds : (steps : List Step) (at : ℕ) (l k : Literal) → k ≡ opposite l → IsAt steps at l →
    holds (literals_of steps) (opposite k) ≡ true
at_holds steps at l k turned here = search (arith, opposite-opposite, among_suffix, holds_here)
