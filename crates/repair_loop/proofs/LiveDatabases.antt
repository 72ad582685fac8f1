-- The live clauses of a database as a formula with numbers and frames.
use Rattle.std.proofs.Common.{◌≡◌, ◌⊎◌, inl, inr, ◌+◌, ◌-◌, ◌≤◌, ◌<◌, ℕ, zero, suc, List, [], ◌∷◌, ◌++◌, length, map, replicate, get_or, slice_get, slice_index_or, Option, None, Some, refl, sym, ◌∙◌, ap, subst, arith}
use Rattle.std.specs.List.{All, Contains, filter_map, cons_option}
use Rattle.std.proofs.lemmas.Bool.{cases_lt}
use Rattle.std.proofs.lemmas.List.{length-append, length-map, get_or-map}
use Rattle.std.proofs.lemmas.List.Elements.{All-cons, All-nil, All-contains}
use Rattle.std.proofs.lemmas.Option.{slice_get-get_or}
use Rattle.dq_lits.specs.Literal.{Literal, variable_of}
use Rattle.dq_lits.specs.Formula.{Dqbf, IsWellFormed, declared}
use Rattle.hint_log.specs.Entries.{Entry, name_of}
use Rattle.hint_log.specs.Live.{AreNumbers}
use Rattle.hint_log.specs.Naming.{numbered_from_one}
use Rattle.hint_log.specs.ProductiveSession.{frame_of}
use Rattle.dq_session.specs.Databases.{DatabaseState, IsOpen, IsDatabase, number_at, number_of, frame_at, all_of, frames_of, live_of, now_of}
use Rattle.dq_session.specs.Changes.{groups_of}
use Rattle.dq_session.specs.declared.live.Live.{Live}
use Rattle.dq_session.proofs.LiveFormulas.{live_within}
use Rattle.dq_session.proofs.DatabasesGiving.{group_in}
use Rattle.log_laws.proofs.Found.{numbered_among}
use Rattle.definability.specs.Following.{IsLiveFormula}

-- clauses that are taken by their numbers are bound as all are
pub taken_bound : (P : List Literal → Type 0) (m : List (List Literal)) (js : List ℕ) → All P m →
    All P (filter_map (numbered_from_one m) js)
taken_bound P m [] all = All-nil P
taken_bound P m (j ∷ js) all = by (numbered_from_one m j) refl (taken_bound P m js all)
  where
    by : (o : Option (List Literal)) → numbered_from_one m j ≡ o → All P (filter_map (numbered_from_one m) js) →
        All P (cons_option o (filter_map (numbered_from_one m) js))
    by None is rest = rest
    by (Some c) is rest =
        All-cons P c (filter_map (numbered_from_one m) js) (All-contains P m c all (numbered_among m j c is)) rest

-- the formula of now is well-formed
pub now_formed : (b : DatabaseState) (es : List Entry) → IsDatabase b es → IsWellFormed (now_of b)
now_formed b es database = record {
  prefix = search arith;
  bound = taken_bound (All (λ l. Contains (declared b.file) (variable_of l))) (all_of b).matrix (live_of b)
      database.well_formed.bound;
}

module _ (b : DatabaseState) (es : List Entry) (database : IsDatabase b es) where
  place_there : (k : ℕ) → k < length (live_of b) →
      (l : Live) × (slice_get b.live k ≡ Some l) × ((d : ℕ) → get_or (live_of b) k d ≡ l.clause)
  place_there k below =
      let long = length-map b.live (λ (l : Live). l.clause) in
      let none : Live = record { clause = 0; frame = 0 } in
      let inside : k < length b.live = omega (arith, below, long) in (
        slice_index_or b.live k none,
        slice_get-get_or b.live k none inside,
        λ d. get_or-map (λ (l : Live). l.clause) b.live k none d inside,
      )

  pub are_numbers : AreNumbers (all_of b) (live_of b)
  are_numbers = record {
    ascending = λ k below.
        let here = place_there k (omega (arith, below)) in
        let next = place_there (k + 1) below in
        let less = database.stack.ascending_live k (k + 1) here.0 next.0 (omega arith) here.1 next.1 in
        let mine = here.2 0 in
        let other = next.2 0 in
        omega (arith, less, mine, other);
    numbers = λ k d below.
        let here = place_there k below in
        let within = live_within b es database k here.0 here.1 in
        let low = within.0 in
        let high = within.1 in
        let same = here.2 d in
        (omega (arith, low, same), omega (arith, high, same));
  }

  abbrev n : ℕ
  n = length b.file.matrix

  zeros_at : (m p d : ℕ) (xs : List ℕ) → p < m → get_or (replicate m 0 ++ xs) p d ≡ 0
  zeros_at zero p d xs below = absurd (omega (arith, below))
  zeros_at (suc m) zero d xs below = refl
  zeros_at (suc m) (suc p) d xs below = zeros_at m p d xs (omega (arith, below))

  behind_zeros : (m p d : ℕ) (xs : List ℕ) → get_or (replicate m 0 ++ xs) (m + p) d ≡ get_or xs p d
  behind_zeros zero p d xs = ap (λ q. get_or xs q d) (let e : zero + p ≡ p = omega arith in e)
  behind_zeros (suc m) p d xs = search (arith, replicate, (behind_zeros m p d xs))

  -- the file's frame, and an added clause's
  file_frame : (j : ℕ) → 1 ≤ j → j ≤ n → frame_of (frames_of b) j ≡ 0
  file_frame j low high = zeros_at n (j - 1) 0 b.frames (omega (arith, low, high))

  added_frame : (place : ℕ) → frame_of (frames_of b) (number_at b place) ≡ frame_at b place
  added_frame place = search (arith, behind_zeros)

  -- a live clause has its frame
  pub live_frame : (l : Live) → Contains b.live l → frame_of (frames_of b) l.clause ≡ l.frame
  live_frame l has = by (database.stack.frames l has)
    where
      by : ((1 ≤ l.clause) × (l.clause ≤ length b.file.matrix) × (l.frame ≡ 0))
          ⊎ ((place : ℕ) × (l.clause ≡ number_at b place) × (place < length b.added)
          × (l.frame ≡ frame_at b place) × IsOpen b l.frame) → frame_of (frames_of b) l.clause ≡ l.frame
      by (inl (low, high, frame)) = file_frame l.clause low high ∙ sym frame
      by (inr (place, number, below, frame, is_open)) =
          ap (frame_of (frames_of b)) number ∙ added_frame place ∙ sym frame

  frames_each : (xs : List Live) → ((l : Live) → Contains xs l → Contains b.live l) →
      map (λ l. l.frame) xs ≡ map (frame_of (frames_of b)) (map (λ l. l.clause) xs)
  frames_each [] inside = refl
  frames_each (l ∷ xs) inside =
      ap (λ f. f ∷ map (λ k. k.frame) xs) (sym (live_frame l (inside l (0, omega arith, refl))))
      ∙ ap (λ fs. frame_of (frames_of b) l.clause ∷ fs)
      (frames_each xs (λ k has. let below = has.1 in inside k (suc has.0, omega (arith, below), has.2)))

  -- a frame that is live, with one of its clauses
  live_with : (xs : List Live) (frame : ℕ) → Contains (map (λ l. l.frame) xs) frame →
      (l : Live) × Contains xs l × (l.frame ≡ frame)
  live_with [] frame (k, below, is) = absurd (omega (arith, below))
  live_with (x ∷ xs) frame (zero, below, is) = (x, (0, omega arith, refl), is)
  live_with (x ∷ xs) frame (suc k, below, is) =
      let r = live_with xs frame (k, omega (arith, below), is) in
      let less = r.1.1 in
      (r.0, (suc r.1.0, omega (arith, less), r.1.2), r.2)

  together : (j : ℕ) → 1 ≤ j → j ≤ length (all_of b).matrix →
      Contains (map (λ l. l.frame) b.live) (frame_of (frames_of b) j) → Contains (live_of b) j
  together j low high has = by (cases_lt n j)
    where
      r : (l : Live) × Contains b.live l × (l.frame ≡ frame_of (frames_of b) j)
      r = live_with b.live (frame_of (frames_of b) j) has

      long : length (all_of b).matrix ≡ n + length b.added
      long = length-append b.file.matrix b.added

      by : (n < j) ⊎ (j ≤ n) → Contains (live_of b) j
      by (inr file) = database.stack.file_live j low file
      by (inl added) = there (database.stack.frames r.0 r.1)
        where
          place : ℕ
          place = j - n - 1

          is_place : j ≡ number_at b place
          is_place = omega (arith, added)

          inside : place < length b.added
          inside = let l = long in omega (arith, added, high, l)

          frame_is : frame_at b place ≡ r.0.frame
          frame_is = sym (added_frame place) ∙ ap (frame_of (frames_of b)) (sym is_place) ∙ sym r.2

          there : ((1 ≤ r.0.clause) × (r.0.clause ≤ length b.file.matrix) × (r.0.frame ≡ 0))
              ⊎ ((other : ℕ) × (r.0.clause ≡ number_at b other) × (other < length b.added)
              × (r.0.frame ≡ frame_at b other) × IsOpen b r.0.frame) → Contains (live_of b) j
          there (inl (one, few, zero_is)) =
              let least = (database.stack.numbered place inside).0 in
              absurd (omega (arith, least, frame_is, zero_is))
          there (inr (other, number, below, frame, is_open)) =
              subst (Contains (live_of b)) (sym is_place)
              (database.stack.open_live place inside (subst (IsOpen b) (sym frame_is) is_open))

  pub live_formula_is : (f : Dqbf) → f ≡ now_of b →
      IsLiveFormula (all_of b) (frames_of b) f (live_of b) (map (λ l. l.frame) b.live)
  live_formula_is f now = record {
    formula_is = now;
    numbers = are_numbers;
    frames_are = frames_each b.live (λ l has. has);
    together = together;
  }

  -- its groups were made
  pub database_named : (n : ℕ) → Contains (groups_of b) n → name_of es n ≡ None → ⊥
  database_named n (zero, below, is) none = search arith
  database_named n (suc k, below, is) none =
      let r = group_in b.groups n (k, omega (arith, below), is) in
      let made = (database.groups.made r.0 r.1 r.2).named in
      let same : name_of es (number_of r.1) ≡ None = ap (name_of es) r.3 ∙ none in
      cc
