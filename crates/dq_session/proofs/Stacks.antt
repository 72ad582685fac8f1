-- The stack of frames: opening one, adding a clause to the newest, closing it.
use Rattle.std.proofs.Common.{◌≡◌, ℕ, zero, suc, ◌+◌, ◌-◌, ◌≤◌, ◌<◌, ◌⊎◌, inl, inr, List, [], ◌∷◌, ◌++◌, map, take, length, slice_get, get_or, Some, None, refl, sym, ◌∙◌, ap, subst, arith}
use Rattle.std.specs.List.{Contains}
use Rattle.std.proofs.lemmas.List.{length-append, length-take-le, get_or_append_left}
use Rattle.std.proofs.lemmas.Bool.{cases_lt}
use Rattle.std.proofs.lemmas.Option.{slice_get-get_or, slice_get_within, get_or_from_slice_get}
use Rattle.list_laws.proofs.Elements.{old_or_last, kept_there, last_there}
use Rattle.list_laws.proofs.Members.{element_at, place_of}
use Rattle.dq_lits.specs.Literal.{Literal}
use Rattle.dq_session.specs.Databases.{DatabaseState, live_of, number_at, frame_at, IsOpen, IsStack}
use Rattle.dq_session.specs.Changes.{newest, with_frame, with_clause, without_frame}
use Rattle.dq_session.specs.declared.live.Live.{Live}
use Rattle.dq_session.specs.declared.live.OpenFrame.{OpenFrame}

pub contains_more : {X : Type 0} (xs ys : List X) (x : X) → Contains xs x → Contains (xs ++ ys) x
contains_more [] ys x (k, below, is) = absurd (omega (arith, below))
contains_more (z ∷ xs) ys x (zero, below, is) = (0, omega arith, is)
contains_more (z ∷ xs) ys x (suc k, below, is) =
    let r = contains_more xs ys x (k, omega (arith, below), is) in
    let less = r.1 in
    (suc r.0, omega (arith, less), r.2)

take_there : {X : Type 0} (n : ℕ) (xs : List X) (i : ℕ) (x : X) → slice_get (take n xs) i ≡ Some x →
    (i < n) × (slice_get xs i ≡ Some x)
take_there zero xs i x is = cc
take_there (suc n) [] i x is = cc
take_there (suc n) (y ∷ xs) zero x is = (omega arith, is)
take_there (suc n) (y ∷ xs) (suc i) x is = let r = take_there n xs i x is in let less = r.0 in (omega (arith, less), r.1)

there_take : {X : Type 0} (n : ℕ) (xs : List X) (i : ℕ) (x : X) → i < n → slice_get xs i ≡ Some x →
    slice_get (take n xs) i ≡ Some x
there_take zero xs i x less is = absurd (omega (arith, less))
there_take (suc n) [] i x less is = cc
there_take (suc n) (y ∷ xs) zero x less is = is
there_take (suc n) (y ∷ xs) (suc i) x less is = there_take n xs i x (omega (arith, less)) is

open_more : (b : DatabaseState) (frame : ℕ) → IsOpen b frame → IsOpen (with_frame b) frame
open_more b frame (o, has, is) = (o, contains_more b.open_frames _ o has, is)

-- a frame that is opened
pub frame_opened : (b : DatabaseState) → IsStack b → IsStack (with_frame b)
frame_opened b s = record {
  many_frames = s.many_frames;
  many_given = s.many_given;
  numbered = λ place below. let h = s.numbered place below in let less = h.1 in (h.0, omega (arith, less, longer));
  first = (let one = s.first in omega (arith, one, longer));
  ascending_live = s.ascending_live;
  file_live = s.file_live;
  open_live = λ place below is_open. s.open_live place below (was_open place below is_open);
  frames = λ l has. still (s.frames l has);
  known = λ i o is. known i o (old_or_last b.open_frames fresh o i is);
  ascending = λ i j o p less o_is p_is. ascends i j o p less (old_or_last b.open_frames fresh o i o_is)
      (old_or_last b.open_frames fresh p j p_is);
  last = λ i n o l o_is l_is. lasts i n o l (old_or_last b.open_frames fresh o i o_is) l_is;
}
  where
    fresh : OpenFrame
    fresh = record { number = length b.groups; start = length b.live }

    longer : length (b.groups ++ None ∷ []) ≡ length b.groups + 1
    longer = length-append b.groups (None ∷ [])

    was_open : (place : ℕ) → place < length b.added → IsOpen (with_frame b) (frame_at b place) →
        IsOpen b (frame_at b place)
    was_open place below (o, has, is) = let at = place_of (b.open_frames ++ fresh ∷ []) o has in
        by (old_or_last b.open_frames fresh o at.0 at.1)
      where
        by : {i : ℕ} → (slice_get b.open_frames i ≡ Some o) ⊎ ((i ≡ length b.open_frames) × (fresh ≡ o)) →
            IsOpen b (frame_at b place)
        by {i} (inl old) = (o, element_at b.open_frames i o old, is)
        by (inr (here, same)) =
            let less = (s.numbered place below).1 in
            let number : length b.groups ≡ o.number = ap (λ (x : OpenFrame). x.number) same in
            absurd (omega (arith, less, number, is))

    still : {l : Live} → ((1 ≤ l.clause) × (l.clause ≤ length b.file.matrix) × (l.frame ≡ 0))
        ⊎ ((place : ℕ) × (l.clause ≡ number_at b place) × (place < length b.added)
        × (l.frame ≡ frame_at b place) × IsOpen b l.frame) →
        ((1 ≤ l.clause) × (l.clause ≤ length b.file.matrix) × (l.frame ≡ 0))
        ⊎ ((place : ℕ) × (l.clause ≡ number_at b place) × (place < length b.added)
        × (l.frame ≡ frame_at b place) × IsOpen (with_frame b) l.frame)
    still (inl file) = inl file
    still {l} (inr (place, clause, below, frame, is_open)) =
        inr (place, clause, below, frame, open_more b l.frame is_open)

    known : (i : ℕ) (o : OpenFrame) → (slice_get b.open_frames i ≡ Some o)
        ⊎ ((i ≡ length b.open_frames) × (fresh ≡ o)) →
        (1 ≤ o.number) × (o.number < length (b.groups ++ None ∷ [])) × (o.start ≤ length b.live)
    known i o (inl old) = let h = s.known i o old in let less = h.1 in (h.0, omega (arith, less, longer), h.2)
    known i o (inr (here, same)) =
        let one = s.first in
        subst (λ (x : OpenFrame). (1 ≤ x.number) × (x.number < length (b.groups ++ None ∷ []))
        × (x.start ≤ length b.live)) same (one, omega (arith, longer), omega arith)

    ascends : (i j : ℕ) (o p : OpenFrame) → i < j → (slice_get b.open_frames i ≡ Some o)
        ⊎ ((i ≡ length b.open_frames) × (fresh ≡ o))
        → (slice_get b.open_frames j ≡ Some p) ⊎ ((j ≡ length b.open_frames) × (fresh ≡ p))
        → (o.number < p.number) × (o.start ≤ p.start)
    ascends i j o p less (inl o_is) (inl p_is) = s.ascending i j o p less o_is p_is
    ascends i j o p less (inl o_is) (inr (here, same)) =
        let below = (s.known i o o_is).1 in
        let before = (s.known i o o_is).2 in
        let number : length b.groups ≡ p.number = ap (λ (x : OpenFrame). x.number) same in
        let start : length b.live ≡ p.start = ap (λ (x : OpenFrame). x.start) same in
        (omega (arith, below, number), omega (arith, before, start))
    ascends i j o p less (inr (here, same)) (inl p_is) =
        let below = slice_get_within b.open_frames j p p_is in absurd (omega (arith, less, here, below))
    ascends i j o p less (inr (here, same)) (inr (here', same')) = absurd (omega (arith, less, here, here'))

    lasts : (i n : ℕ) (o : OpenFrame) (l : Live) → (slice_get b.open_frames i ≡ Some o)
        ⊎ ((i ≡ length b.open_frames) × (fresh ≡ o)) → slice_get b.live n ≡ Some l
        → (n < o.start → l.frame < o.number) × (o.start ≤ n → o.number ≤ l.frame)
    lasts i n o l (inl old) l_is = s.last i n o l old l_is
    lasts i n o l (inr (here, same)) l_is =
        let inside = slice_get_within b.live n l l_is in
        let number : length b.groups ≡ o.number = ap (λ (x : OpenFrame). x.number) same in
        let start : length b.live ≡ o.start = ap (λ (x : OpenFrame). x.start) same in
        let frame = small (s.frames l (element_at b.live n l l_is)) in
        ((λ before. omega (arith, frame, number)), (λ behind. absurd (omega (arith, behind, start, inside))))
      where
        small : ((1 ≤ l.clause) × (l.clause ≤ length b.file.matrix) × (l.frame ≡ 0))
            ⊎ ((place : ℕ) × (l.clause ≡ number_at b place) × (place < length b.added)
            × (l.frame ≡ frame_at b place) × IsOpen b l.frame) → l.frame < length b.groups
        small (inl (one_is, clause, zero_is)) = let one = s.first in omega (arith, zero_is, one)
        small (inr (place, clause, below, frame, is_open)) =
            let less = (s.numbered place below).1 in omega (arith, frame, less)

-- the live clauses by their numbers
pub live_at : (xs : List Live) (j : ℕ) → Contains (map (λ l. l.clause) xs) j →
    (n : ℕ) × (l : Live) × (slice_get xs n ≡ Some l) × (l.clause ≡ j)
live_at [] j (k, below, is) = absurd (omega (arith, below))
live_at (x ∷ xs) j (zero, below, is) = (0, x, refl, is)
live_at (x ∷ xs) j (suc k, below, is) =
    let r = live_at xs j (k, omega (arith, below), is) in
    (suc r.0, r.1, r.2, r.3)

pub live_there : (xs : List Live) (n : ℕ) (l : Live) → slice_get xs n ≡ Some l →
    Contains (map (λ k. k.clause) xs) l.clause
live_there [] n l is = cc
live_there (x ∷ xs) zero l is = let same : x ≡ l = cc in (0, omega arith, ap (λ (k : Live). k.clause) same)
live_there (x ∷ xs) (suc n) l is =
    let r = live_there xs n l is in
    let below = r.1 in
    (suc r.0, omega (arith, below), r.2)

module _ (b : DatabaseState) (clause : List Literal) (s : IsStack b) (some_open : 1 ≤ length b.open_frames) where
  abbrev o : OpenFrame
  o = newest b

  o_is : slice_get b.open_frames (length b.open_frames - 1) ≡ Some o
  o_is = search (arith, slice_get-get_or)

  abbrev number : ℕ
  number = length b.file.matrix + length b.added + 1

  abbrev fresh : Live
  fresh = record { clause = number; frame = o.number }

  abbrev after : DatabaseState
  after = with_clause b clause

  more_added : length (b.added ++ clause ∷ []) ≡ length b.added + 1
  more_added = length-append b.added (clause ∷ [])

  more_live : length (b.live ++ fresh ∷ []) ≡ length b.live + 1
  more_live = length-append b.live (fresh ∷ [])

  -- a place of the longer list
  old_place : (place : ℕ) → place < length (b.added ++ clause ∷ []) → (place < length b.added) ⊎ (place ≡ length b.added)
  old_place place below = search (arith, cases_lt, more_added)

  pub same_frame : (place : ℕ) → place < length b.added → frame_at after place ≡ frame_at b place
  same_frame place below = search (arith, get_or_append_left)

  new_frame : frame_at after (length b.added) ≡ o.number
  new_frame = ap (λ n. get_or (b.frames ++ o.number ∷ []) n 0) (sym s.many_frames)
      ∙ get_or_from_slice_get (b.frames ++ o.number ∷ []) (length b.frames) o.number 0 (last_there b.frames o.number)

  newest_known : (1 ≤ o.number) × (o.number < length b.groups) × (o.start ≤ length b.live)
  newest_known = s.known (length b.open_frames - 1) o o_is

  old_live : (j : ℕ) → Contains (live_of b) j → Contains (live_of after) j
  old_live j has =
      let r = live_at b.live j has in
      subst (Contains (live_of after)) r.3 (live_there (b.live ++ fresh ∷ []) r.0 r.1 (kept_there b.live (fresh ∷ []) r.0
      r.1 r.2))

  new_live : Contains (live_of after) number
  new_live = live_there (b.live ++ fresh ∷ []) (length b.live) fresh (last_there b.live fresh)

  below_new : (l : Live) → Contains b.live l → l.clause < number
  below_new l has = by (s.frames l has)
    where
      by : ((1 ≤ l.clause) × (l.clause ≤ length b.file.matrix) × (l.frame ≡ 0))
          ⊎ ((place : ℕ) × (l.clause ≡ number_at b place) × (place < length b.added)
          × (l.frame ≡ frame_at b place) × IsOpen b l.frame) → l.clause < number
      by (inl (one, few, zero_is)) = omega (arith, few)
      by (inr (place, is, below, frame, is_open)) = omega (arith, is, below)

  -- a clause that is added to the newest frame
  pub clause_added : IsStack after
  clause_added = record {
    many_frames = (let many = s.many_frames in let more = length-append b.frames (o.number ∷ []) in let m = more_added in
        omega (arith, many, more, m));
    many_given = (let many = s.many_given in let more = length-append b.given (0 ∷ []) in let m = more_added in
        omega (arith, many, more, m));
    numbered = λ place below. numbered place (old_place place below);
    first = s.first;
    ascending_live = λ m n l k less l_is k_is. rising m n l k less (old_or_last b.live fresh l m l_is)
        (old_or_last b.live fresh k n k_is);
    file_live = λ j low high. old_live j (s.file_live j low high);
    open_live = λ place below is_open. opened place (old_place place below) is_open;
    frames = λ l has. let at = place_of (b.live ++ fresh ∷ []) l has in
        framed l at.0 (old_or_last b.live fresh l at.0 at.1);
    known = λ i p is. let h = s.known i p is in let start = h.2 in let more = more_live in
        (h.0, h.1, omega (arith, start, more));
    ascending = s.ascending;
    last = λ i n p l p_is l_is. lasts i n p l p_is (old_or_last b.live fresh l n l_is);
  }
    where
      numbered : (place : ℕ) → (place < length b.added) ⊎ (place ≡ length b.added) →
          (1 ≤ frame_at after place) × (frame_at after place < length b.groups)
      numbered place (inl below) = subst (λ f. (1 ≤ f) × (f < length b.groups)) (sym (same_frame place below))
          (s.numbered place below)
      numbered place (inr here) = subst (λ p. (1 ≤ frame_at after p) × (frame_at after p < length b.groups)) (sym here)
          (subst (λ f. (1 ≤ f) × (f < length b.groups)) (sym new_frame) (newest_known.0, newest_known.1))

      rising : (m n : ℕ) (l k : Live) → m < n → (slice_get b.live m ≡ Some l) ⊎ ((m ≡ length b.live) × (fresh ≡ l))
          → (slice_get b.live n ≡ Some k) ⊎ ((n ≡ length b.live) × (fresh ≡ k)) → l.clause < k.clause
      rising m n l k less (inl l_is) (inl k_is) = s.ascending_live m n l k less l_is k_is
      rising m n l k less (inl l_is) (inr (here, same)) =
          subst (λ (x : Live). l.clause < x.clause) same (below_new l (element_at b.live m l l_is))
      rising m n l k less (inr (here, same)) (inl k_is) =
          let below = slice_get_within b.live n k k_is in absurd (omega (arith, less, here, below))
      rising m n l k less (inr (here, same)) (inr (here', same')) = absurd (omega (arith, less, here, here'))

      opened : (place : ℕ) → (place < length b.added) ⊎ (place ≡ length b.added) → IsOpen after (frame_at after place) →
          Contains (live_of after) (number_at b place)
      opened place (inl below) is_open = old_live (number_at b place) (s.open_live place below
          (subst (IsOpen b) (same_frame place below) is_open))
      opened place (inr here) is_open = subst (λ p. Contains (live_of after) (number_at b p)) (sym here) new_live

      framed : (l : Live) (n : ℕ) → (slice_get b.live n ≡ Some l) ⊎ ((n ≡ length b.live) × (fresh ≡ l)) →
          ((1 ≤ l.clause) × (l.clause ≤ length b.file.matrix) × (l.frame ≡ 0))
          ⊎ ((place : ℕ) × (l.clause ≡ number_at b place) × (place < length (b.added ++ clause ∷ []))
          × (l.frame ≡ frame_at after place) × IsOpen b l.frame)
      framed l n (inl is) = wider (s.frames l (element_at b.live n l is))
        where
          wider : ((1 ≤ l.clause) × (l.clause ≤ length b.file.matrix) × (l.frame ≡ 0))
              ⊎ ((place : ℕ) × (l.clause ≡ number_at b place) × (place < length b.added)
              × (l.frame ≡ frame_at b place) × IsOpen b l.frame)
              → ((1 ≤ l.clause) × (l.clause ≤ length b.file.matrix) × (l.frame ≡ 0))
              ⊎ ((place : ℕ) × (l.clause ≡ number_at b place) × (place < length (b.added ++ clause ∷ []))
              × (l.frame ≡ frame_at after place) × IsOpen b l.frame)
          wider (inl file) = inl file
          wider (inr (place, is', below, frame, is_open)) = search (arith, more_added, same_frame)
      framed l n (inr (here, same)) =
          let more = more_added in
          subst (λ (x : Live). ((1 ≤ x.clause) × (x.clause ≤ length b.file.matrix) × (x.frame ≡ 0))
          ⊎ ((place : ℕ) × (x.clause ≡ number_at b place) × (place < length (b.added ++ clause ∷ []))
          × (x.frame ≡ frame_at after place) × IsOpen b x.frame)) same
          (inr (
            length b.added,
            refl,
            omega (arith, more),
            sym new_frame,
            (o, element_at b.open_frames (length b.open_frames - 1) o o_is, refl),
          ))

      lasts : (i n : ℕ) (p : OpenFrame) (l : Live) → slice_get b.open_frames i ≡ Some p
          → (slice_get b.live n ≡ Some l) ⊎ ((n ≡ length b.live) × (fresh ≡ l))
          → (n < p.start → l.frame < p.number) × (p.start ≤ n → p.number ≤ l.frame)
      lasts i n p l p_is (inl l_is) = s.last i n p l p_is l_is
      lasts i n p l p_is (inr (here, same)) =
          let start = (s.known i p p_is).2 in
          let frame : o.number ≡ l.frame = ap (λ (x : Live). x.frame) same in
          let low = at_most i p p_is (cases_lt i (length b.open_frames - 1)) in
          ((λ before. absurd (omega (arith, before, here, start))), (λ behind. omega (arith, frame, low)))
        where
          at_most : (i : ℕ) (p : OpenFrame) → slice_get b.open_frames i ≡ Some p →
              (i < length b.open_frames - 1) ⊎ (length b.open_frames - 1 ≤ i) → p.number ≤ o.number
          at_most i p p_is (inl less) =
              let lower = (s.ascending i (length b.open_frames - 1) p o less p_is o_is).0 in omega (arith, lower)
          at_most i p p_is (inr past) =
              let below = slice_get_within b.open_frames i p p_is in
              let here : i ≡ length b.open_frames - 1 = omega (arith, past, below) in
              let same : Some p ≡ Some o = sym p_is ∙ ap (slice_get b.open_frames) here ∙ o_is in
              let is : p ≡ o = cc in
              subst (λ (x : OpenFrame). p.number ≤ x.number) is (omega arith)

module _ (b : DatabaseState) (s : IsStack b) (some_open : 1 ≤ length b.open_frames) where
  abbrev top : ℕ
  top = length b.open_frames - 1

  abbrev closing : OpenFrame
  closing = newest b

  closing_is : slice_get b.open_frames top ≡ Some closing
  closing_is = slice_get-get_or b.open_frames top (record { number = 0; start = 0 }) (omega (arith, some_open))

  -- what is live under the frame that is closed
  stays : (n : ℕ) (l : Live) → slice_get b.live n ≡ Some l → l.frame < closing.number →
      slice_get (take closing.start b.live) n ≡ Some l
  stays n l l_is less = by (cases_lt n closing.start)
    where
      by : (n < closing.start) ⊎ (closing.start ≤ n) → slice_get (take closing.start b.live) n ≡ Some l
      by (inl before) = there_take closing.start b.live n l before l_is
      by (inr behind) =
          let high = (s.last top n closing l closing_is l_is).1 behind in absurd (omega (arith, less, high))

  -- an open frame below it
  lower : (i : ℕ) (p : OpenFrame) → slice_get (take top b.open_frames) i ≡ Some p →
      (p.number < closing.number) × (p.start ≤ closing.start)
  lower i p is =
      let at = take_there top b.open_frames i p is in
      s.ascending i top p closing at.0 at.1 closing_is

  open_below : (frame : ℕ) → IsOpen b frame → frame < closing.number → IsOpen (without_frame b) frame
  open_below frame (p, has, is) less =
      let at = place_of b.open_frames p has in by at.0 at.1 (cases_lt at.0 top)
    where
      by : (i : ℕ) → slice_get b.open_frames i ≡ Some p → (i < top) ⊎ (top ≤ i) → IsOpen (without_frame b) frame
      by i p_is (inl before) =
          (p, element_at (take top b.open_frames) i p (there_take top b.open_frames i p before p_is), is)
      by i p_is (inr past) =
          let below = slice_get_within b.open_frames i p p_is in
          let here : i ≡ top = omega (arith, past, below) in
          let same : Some p ≡ Some closing = sym p_is ∙ ap (slice_get b.open_frames) here ∙ closing_is in
          let p_same : p ≡ closing = cc in
          let number : p.number ≡ closing.number = ap (λ (x : OpenFrame). x.number) p_same in
          absurd (omega (arith, less, number, is))

  -- the newest frame is closed
  pub frame_closed : IsStack (without_frame b)
  frame_closed = record {
    many_frames = s.many_frames;
    many_given = s.many_given;
    numbered = s.numbered;
    first = s.first;
    ascending_live = λ m n l k less l_is k_is. s.ascending_live m n l k less
        (take_there closing.start b.live m l l_is).1 (take_there closing.start b.live n k k_is).1;
    file_live = λ j low high. of_file j (live_at b.live j (s.file_live j low high)) high;
    open_live = λ place below is_open. of_open place below is_open
        (live_at b.live (number_at b place) (s.open_live place below (was_open (frame_at b place) is_open)));
    frames = λ l has. let at = place_of (take closing.start b.live) l has in
        let there = take_there closing.start b.live at.0 l at.1 in
        framed l at.0 there.0 there.1 (s.frames l (element_at b.live at.0 l there.1));
    known = search (arith, take_there, closing_is, length-take-le);
    ascending = λ i j p q less p_is q_is. s.ascending i j p q less (take_there top b.open_frames i p p_is).1
        (take_there top b.open_frames j q q_is).1;
    last = λ i n p l p_is l_is. s.last i n p l (take_there top b.open_frames i p p_is).1
        (take_there closing.start b.live n l l_is).1;
  }
    where
      was_open : (frame : ℕ) → IsOpen (without_frame b) frame → IsOpen b frame
      was_open frame (p, has, is) =
          let at = place_of (take top b.open_frames) p has in
          (p, element_at b.open_frames at.0 p (take_there top b.open_frames at.0 p at.1).1, is)

      below_closing : (frame : ℕ) → IsOpen (without_frame b) frame → frame < closing.number
      below_closing frame (p, has, is) =
          let at = place_of (take top b.open_frames) p has in
          let less = (lower at.0 p at.1).0 in
          omega (arith, less, is)

      live_still : (j n : ℕ) (l : Live) → slice_get b.live n ≡ Some l → l.clause ≡ j → l.frame < closing.number →
          Contains (live_of (without_frame b)) j
      live_still j n l l_is is less =
          subst (Contains (live_of (without_frame b))) is
          (live_there (take closing.start b.live) n l (stays n l l_is less))

      of_file : (j : ℕ) → (n : ℕ) × (l : Live) × (slice_get b.live n ≡ Some l) × (l.clause ≡ j) →
          j ≤ length b.file.matrix → Contains (live_of (without_frame b)) j
      of_file j (n, l, l_is, is) high = by (s.frames l (element_at b.live n l l_is))
        where
          by : ((1 ≤ l.clause) × (l.clause ≤ length b.file.matrix) × (l.frame ≡ 0))
              ⊎ ((place : ℕ) × (l.clause ≡ number_at b place) × (place < length b.added)
              × (l.frame ≡ frame_at b place) × IsOpen b l.frame) → Contains (live_of (without_frame b)) j
          by (inl (one, few, zero_is)) =
              let above = (s.known top closing closing_is).0 in
              live_still j n l l_is is (omega (arith, zero_is, above))
          by (inr (place, at, below, frame, is_open)) = absurd (omega (arith, high, is, at))

      of_open : (place : ℕ) → place < length b.added → IsOpen (without_frame b) (frame_at b place) →
          (n : ℕ) × (l : Live) × (slice_get b.live n ≡ Some l) × (l.clause ≡ number_at b place)
          → Contains (live_of (without_frame b)) (number_at b place)
      of_open place below is_open (n, l, l_is, is) = by (s.frames l (element_at b.live n l l_is))
        where
          by : ((1 ≤ l.clause) × (l.clause ≤ length b.file.matrix) × (l.frame ≡ 0))
              ⊎ ((place' : ℕ) × (l.clause ≡ number_at b place') × (place' < length b.added)
              × (l.frame ≡ frame_at b place') × IsOpen b l.frame)
              → Contains (live_of (without_frame b)) (number_at b place)
          by (inl (one, few, zero_is)) = absurd (omega (arith, few, is))
          by (inr (place', at, below', frame, is_open')) =
              let same : place' ≡ place = omega (arith, at, is) in
              let less = below_closing (frame_at b place) is_open in
              let moved : frame_at b place' ≡ frame_at b place = ap (frame_at b) same in
              live_still (number_at b place) n l l_is is (omega (arith, less, frame, moved))

      framed : (l : Live) (n : ℕ) → n < closing.start → slice_get b.live n ≡ Some l →
          ((1 ≤ l.clause) × (l.clause ≤ length b.file.matrix) × (l.frame ≡ 0))
          ⊎ ((place : ℕ) × (l.clause ≡ number_at b place) × (place < length b.added)
          × (l.frame ≡ frame_at b place) × IsOpen b l.frame)
          → ((1 ≤ l.clause) × (l.clause ≤ length b.file.matrix) × (l.frame ≡ 0))
          ⊎ ((place : ℕ) × (l.clause ≡ number_at b place) × (place < length b.added)
          × (l.frame ≡ frame_at b place) × IsOpen (without_frame b) l.frame)
      framed l n before l_is (inl file) = inl file
      framed l n before l_is (inr (place, at, below, frame, is_open)) =
          let less = (s.last top n closing l closing_is l_is).0 before in
          inr (place, at, below, frame, open_below l.frame is_open less)
