-- Lines are written one after the other.
use Rattle.std.proofs.Common.{◌≡◌, ℕ, zero, suc, ◌+◌, ◌≤◌, ◌<◌, ◌==◌, ◌⊎◌, inl, inr, Bool, true, false, cond, List, [], ◌∷◌, ◌++◌, map, take, drop, append_assoc, length, get_or, slice_get, slice_index, Option, None, Some, refl, sym, ◌∙◌, ap, subst, arith, length-append}
use Rattle.std.specs.List.{All, Contains, filter, position_or_len}
use Rattle.std.specs.Option.{option_map, option_and_then}
use Rattle.std.proofs.lemmas.Bool.{cases_lt}
use Rattle.std.proofs.lemmas.List.{get_or-append-add, get_or_default, take-append-drop, length-map, map-append, take_more}
use Rattle.std.proofs.lemmas.List.Elements.{All-map, All-contains, All-head, All-tail, Contains-get_or, filter-append}
use Rattle.std.proofs.lemmas.List.Kept.{AllPairs-from_increasing}
use Rattle.list_laws.proofs.Elements.{place_within, index_of}
use Rattle.dq_lits.specs.Literal.{Literal, opposite}
use Rattle.dq_lits.specs.Derivation.{is_tautology, ProofStep}
use Rattle.hint_log.specs.Conditions.{IsId}
use Rattle.hint_log.specs.Entries.{Entry, Given, Learned, Answer, has_id, numbered, clause_of, hints_of, origin_of, clause_at, hints_at, origin_at}
use Rattle.hint_log.specs.declared.origins.Origin.{Origin}
use Rattle.cert_export.specs.Lines.{clause_or_empty, hints_or_none, is_derived, derived_ids, line_number, number_by, new_number, renamed_clauses, line_clause, line_hints, line_step, line_steps}
use Rattle.cert_export.specs.Renaming.{Renaming, renamed_clause, cut_hints}
use Rattle.cert_export.specs.Written.{WrittenLines, place_in, needed_places, with_line, IsWritten, CanBeWritten}
use Rattle.cert_export.proofs.Allowed.{place_of, cut_all, mapped_all}
use Rattle.cert_export.proofs.DerivedLines.{clause_there}
use Rattle.cert_export.proofs.CutHints.{cut_by_ids}
use Rattle.cert_export.proofs.Numbers.{rising_filter}
use Rattle.cert_export.proofs.ReachedLines.{rising_of, Rising}

-- lines have ids from 1 on
pub ids_from_one : (r : Renaming) (base_id : Origin → ℕ) (entries : List Entry) (last : ℕ) (lines ids : List ℕ) →
    All (λ s. 1 ≤ s.id) (line_steps r base_id entries (line_number last lines) ids)
ids_from_one r base_id entries last lines ids =
    All-map (λ (s : ProofStep). 1 ≤ s.id) (line_step r base_id entries (line_number last lines)) ids
    (λ k d below. omega arith)

pub record IsDerivedEntry (o : Option Entry) (clause : List Literal) (hints : List ℕ) : Type 0 where
  pub derived : is_derived o ≡ true
  pub clause_is : clause_or_empty o ≡ clause
  pub hints_are : hints_or_none o ≡ hints

pub derived_entry : (o : Option Entry) (clause : List Literal) (hints : List ℕ) → option_and_then origin_of o ≡ None →
    option_and_then clause_of o ≡ Some clause → option_and_then (λ e. Some (hints_of e)) o ≡ Some hints →
    IsDerivedEntry o clause hints
derived_entry None clause hints h k l = cc
derived_entry (Some (Learned c hs)) clause hints h k l = record
    { derived = refl; clause_is = (let s : c ≡ clause = cc in s); hints_are = (let s : hs ≡ hints = cc in s) }
derived_entry (Some (Answer c hs)) clause hints h k l = record
    { derived = refl; clause_is = (let s : c ≡ clause = cc in s); hints_are = (let s : hs ≡ hints = cc in s) }
derived_entry (Some _) clause hints h k l = cc

pub clause_is : (o : Option Entry) (clause : List Literal) → option_and_then clause_of o ≡ Some clause →
    clause_or_empty o ≡ clause
clause_is None clause k = cc
clause_is (Some (Given o c)) clause k = let s : c ≡ clause = cc in s
clause_is (Some (Learned c hs)) clause k = let s : c ≡ clause = cc in s
clause_is (Some (Answer c hs)) clause k = let s : c ≡ clause = cc in s
clause_is (Some _) clause k = cc

map_more : {X : Type 0} (g : ℕ → X) (ids : List ℕ) (i id : ℕ) → i < length ids → id ≡ get_or ids i id →
    map g (take (i + 1) ids) ≡ map g (take i ids) ++ g id ∷ []
map_more g ids i id below is = ap (map g) (take_more ids i id below) ∙ map-append g (take i ids) (get_or ids i id ∷ [])
    ∙ ap (λ x. map g (take i ids) ++ g x ∷ []) (sym is)

derived_more : (entries : List Entry) (ids : List ℕ) (i id : ℕ) (b : Bool) → i < length ids → id ≡ get_or ids i id →
    is_derived (numbered has_id entries id) ≡ b →
    derived_ids entries (take (i + 1) ids) ≡ derived_ids entries (take i ids) ++ cond b (id ∷ []) []
derived_more entries ids i id b below is derived = search (arith, (take_more ids i id below), filter-append)

mapped_at : {X : Type 0} (g : ℕ → X) (ids : List ℕ) (i p h : ℕ) → p < i → i ≤ length ids → get_or ids p h ≡ h →
    slice_get (map g (take i ids)) p ≡ Some (g h)
mapped_at g [] i p h less most is = absurd (omega (arith, less, most))
mapped_at g (x ∷ ids) zero p h less most is = absurd (omega (arith, less))
mapped_at g (x ∷ ids) (suc i) zero h less most is = ap (λ y. Some (g y)) is
mapped_at g (x ∷ ids) (suc i) (suc p) h less most is = search (arith, (mapped_at g ids i p h))

mapped_twice : (g to k : ℕ → ℕ) (xs : List ℕ) → All (λ x. g (to x) ≡ k x) xs → map g (map to xs) ≡ map k xs
mapped_twice g to k [] h = refl
mapped_twice g to k (x ∷ xs) h = search (arith, All-head, (mapped_twice g to k xs), All-tail)

module _ (r : Renaming) (base_id : Origin → ℕ) (knows : Origin → Type 0) (entries : List Entry) (ids : List ℕ)
    (can : CanBeWritten r knows entries ids)
    (i id : ℕ) (below : i < length ids) (is : id ≡ get_or ids i id) where
  rising : Rising ids
  rising = rising_of ids (AllPairs-from_increasing ids can.ascending)

  inside : Contains ids id
  inside = (i, below, sym is)

  -- an id's hints are among the ids before
  pub hints_there : (hints : List ℕ) → hints_at entries id ≡ Some hints → All (Contains ids) hints
  hints_there hints at k d less = can.closed id (get_or hints k d) hints inside at (Contains-get_or hints k d less)

  pub record IsEarlier (h : ℕ) : Type 0 where
    pub place : ℕ
    pub before : place < i
    pub there : get_or ids place h ≡ h
    pub place_is : place_in ids h ≡ place

  earlier : (h : ℕ) → Contains ids h → h < id → IsEarlier h
  earlier h m less = record {
    place = m.0;
    before = by_order (cases_lt m.0 i);
    there = m.2;
    place_is = ap (place_in ids) (sym m.2) ∙ place_of ids rising m.0 h m.1;
  } where
    by_order : (m.0 < i) ⊎ (i ≤ m.0) → m.0 < i
    by_order (inl l) = l
    by_order (inr l) = absurd (by_less (cases_lt i m.0)) where
      at_place : get_or ids m.0 id ≡ h
      at_place = get_or_default ids m.0 id h m.1 ∙ m.2

      by_less : (i < m.0) ⊎ (m.0 ≤ i) → ⊥
      by_less (inl j) = omega (arith, AllPairs-from_increasing ids can.ascending i m.0 id j m.1, at_place, less, is)
      by_less (inr j) = let same : m.0 ≡ i = omega (arith, l, j) in let e = ap (λ k. get_or ids k id) same in
          omega (arith, e, at_place, less, is)

  module _ (w : WrittenLines) (number : ℕ → ℕ) (so_far : IsWritten r base_id entries number (take i ids) w)
      (hints : List ℕ) (at : hints_at entries id ≡ Some hints) (less : All (λ h. h < id) hints) where
    hint_earlier : All IsEarlier hints
    hint_earlier k d b = earlier (get_or hints k d) (hints_there hints at k d b) (less k d b)

    clause_at_place : (h : ℕ) → Contains ids h → IsEarlier h →
        slice_get w.clauses (place_in ids h) ≡ renamed_clauses r entries h
    clause_at_place h among e =
        let c = clause_there entries h (All-contains (IsId entries) ids h can.are_ids among) in
        ap (λ xs. slice_get xs (place_in ids h)) so_far.clauses ∙ ap
        (slice_get (map (line_clause r entries) (take i ids))) e.place_is
        ∙ mapped_at (line_clause r entries) ids i e.place h e.before (omega (arith, below)) e.there
        ∙ ap (λ x. Some (renamed_clause r x)) (clause_is (numbered has_id entries h) c.0 c.1) ∙ sym
        (ap (option_map (renamed_clause r)) c.1)

    number_at_place : (h : ℕ) → IsEarlier h → slice_get w.numbers (place_in ids h) ≡ Some
        (new_number base_id entries number h)
    number_at_place h e = search (arith, mapped_at)

    -- the places of hints are before
    pub places_before : All (λ p. p < length w.numbers) (map (place_in ids) hints)
    places_before = mapped_all (λ p. p < length w.numbers) (place_in ids) hints
        (λ k d b. place_within w.numbers (place_in ids (get_or hints k d))
        (new_number base_id entries number (get_or hints k d))
        (number_at_place (get_or hints k d) (hint_earlier k d b)))

    line_hints_are : (clause : List Literal) → clause ≡ line_clause r entries id →
        hints_or_none (numbered has_id entries id) ≡ hints →
        map (slice_index w.numbers) (needed_places w.clauses ids clause hints) ≡ map (new_number base_id entries number)
        (line_hints r entries id)
    line_hints_are clause same own =
        let P : ℕ → Type 0 = λ h. slice_index w.numbers (place_in ids h) ≡ new_number base_id entries number h in
        let all : All P hints = λ k d b. index_of w.numbers (place_in ids (get_or hints k d))
        (new_number base_id entries number (get_or hints k d))
        (number_at_place (get_or hints k d) (hint_earlier k d b)) in
        let cut = cut_hints (renamed_clauses r entries) (map opposite clause) hints in
        ap (map (slice_index w.numbers)) (cut_by_ids (place_in ids) (slice_get w.clauses)
        (renamed_clauses r entries) hints
        (λ k d b. clause_at_place (get_or hints k d) (hints_there hints at k d b) (hint_earlier k d b))
        (map opposite clause))
        ∙ mapped_twice (slice_index w.numbers) (place_in ids) (new_number base_id entries number) cut
        (cut_all P (renamed_clauses r entries) hints (map opposite clause) all)
        ∙ ap (λ c. map (new_number base_id entries number) (cut_hints (renamed_clauses r entries)
        (map opposite c) hints)) same
        ∙ ap (λ hs. map (new_number base_id entries number) (cut_hints (renamed_clauses r entries)
        (map opposite (line_clause r entries id)) hs)) (sym own)

  own_number : (last : ℕ) → is_derived (numbered has_id entries id) ≡ true →
      line_number last (derived_ids entries ids) id ≡ last + length (derived_ids entries (take i ids)) + 1
  own_number last derived =
      let p : ℕ → Bool = λ h. is_derived (numbered has_id entries h) in
      let front = derived_ids entries (take i ids) in
      let back = derived_ids entries (drop (i + 1) ids) in
      let whole : derived_ids entries ids ≡ (front ++ id ∷ []) ++ back =
      ap (filter p) (sym (take-append-drop (i + 1) ids)) ∙ filter-append p (take (i + 1) ids) (drop (i + 1) ids) ∙ ap
      (λ xs. xs ++ back) (derived_more entries ids i id true below is derived) in
      let parts : derived_ids entries ids ≡ front ++ id ∷ back = whole ∙ append_assoc front (id ∷ []) back in
      let rise : Rising (front ++ id ∷ back) = subst Rising parts (rising_filter p ids rising) in
      let zero_more : length front + 0 ≡ length front = omega arith in
      let at_id : get_or (front ++ id ∷ back) (length front) id ≡ id =
      ap (λ n. get_or (front ++ id ∷ back) n id) (sym zero_more) ∙ get_or-append-add front (id ∷ back) 0 id in
      let place = place_of (front ++ id ∷ back) rise (length front) id
      (omega (arith, length-append front (id ∷ back))) in
      let position : position_or_len (λ x. x == id) (derived_ids entries ids) ≡ length front =
      ap (position_or_len (λ x. x == id)) parts ∙ ap (λ y. position_or_len (λ x. x == y) (front ++ id ∷ back))
      (sym at_id) ∙ place in
      omega (arith, position)

  pub line_consistent : (clause c : List Literal) (hints : List ℕ) → origin_at entries id ≡ None →
      clause_at entries id ≡ Some c → hints_at entries id ≡ Some hints → clause ≡ renamed_clause r c →
      is_tautology clause ≡ false
  line_consistent clause c hints none there at renamed = search (arith, derived_entry)

  pub written_line : (w : WrittenLines) (last : ℕ) → IsWritten r base_id entries
      (line_number last (derived_ids entries ids)) (take i ids) w → (clause c : List Literal) (hints : List ℕ) (n : ℕ) →
      origin_at entries id ≡ None → clause_at entries id ≡ Some c → hints_at entries id ≡ Some hints →
      All (λ h. h < id) hints → clause ≡ renamed_clause r c → n ≡ last + length w.steps + 1 →
      IsWritten r base_id entries (line_number last (derived_ids entries ids)) (take (i + 1) ids)
      (with_line w ids clause hints n)
  written_line w last so_far clause c hints n none there at less renamed n_is =
      let number = line_number last (derived_ids entries ids) in
      let e = derived_entry (numbered has_id entries id) c hints none there at in
      let same : clause ≡ line_clause r entries id = renamed ∙ ap (renamed_clause r) (sym e.clause_is) in
      let many : length w.steps ≡ length (derived_ids entries (take i ids)) =
      ap length so_far.steps ∙ length-map (derived_ids entries (take i ids)) (line_step r base_id entries number) in
      let n_own : n ≡ number id = n_is ∙ ap (λ k. last + k + 1) many ∙ sym (own_number last e.derived) in
      let new : new_number base_id entries number id ≡ number id =
      number_is (numbered has_id entries id) (number id) e.derived in
      let hs = map (slice_index w.numbers) (needed_places w.clauses ids clause hints) in
      let own = line_hints_are w number so_far hints at less clause same e.hints_are in
      let step : ◌≡◌ {A = ProofStep} (record { id = n; literals = clause; hints = hs })
      (line_step r base_id entries number id) =
      ap (λ k. record { id = k; literals = clause; hints = hs }) n_own
      ∙ ap (λ ls. record { id = number id; literals = ls; hints = hs }) same
      ∙ ap (λ xs. record { id = number id; literals = line_clause r entries id; hints = xs }) own in
      record {
        clauses = ap (λ xs. xs ++ clause ∷ []) so_far.clauses ∙ ap
            (λ x. map (line_clause r entries) (take i ids) ++ x ∷ []) same ∙ sym
            (map_more (line_clause r entries) ids i id below is);
        numbers = ap (λ xs. xs ++ n ∷ []) so_far.numbers ∙ ap
            (λ x. map (new_number base_id entries number) (take i ids) ++ x ∷ []) (n_own ∙ sym new) ∙ sym
            (map_more (new_number base_id entries number) ids i id below is);
        steps = ap (λ xs. xs ++ (record { id = n; literals = clause; hints = hs }) ∷ []) so_far.steps
            ∙ ap (λ x. line_steps r base_id entries number (derived_ids entries (take i ids)) ++ x ∷ []) step
            ∙ sym (ap (line_steps r base_id entries number) (derived_more entries ids i id true below is e.derived)
            ∙ map-append (line_step r base_id entries number) (derived_ids entries (take i ids)) (id ∷ []));
      }
    where
      number_is : (o : Option Entry) (k : ℕ) → is_derived o ≡ true → number_by base_id k o ≡ k
      number_is None k h = cc
      number_is (Some (Learned d hs)) k h = refl
      number_is (Some (Answer d hs)) k h = refl
      number_is (Some _) k h = cc
