-- First rows in order of the bits that an existential sees: what a search finds among them, and how
-- they grow.
use Rattle.std.proofs.Common.{◌≡◌, ℕ, zero, suc, ◌+◌, ◌-◌, ◌≤◌, ◌<◌, ◌⊎◌, inl, inr, Bool, true, false, List, [], ◌∷◌, ◌++◌, length, get_or, slice_get, Result, Ok, Err, refl, sym, ◌∙◌, ap, subst, arith}
use Rattle.std.specs.List.{Contains, insert, position_or_len}
use Rattle.std.specs.List.Sorted.{IsBinarySearchResult, IsSortedBy, IsNonDecreasingBy}
use Rattle.std.specs.Ordering.{is_lt, ordering_index, ordering_reverse}
use Rattle.std.specs.declared.cmp.Ordering.{Ordering}
use Rattle.std.specs.declared.cmp.Ordering.TheVariants.{Less, Equal, Greater}
use Rattle.std.proofs.lemmas.Bool.{cases_Bool}
use Rattle.std.proofs.lemmas.List.{length-append, get_or_default}
use Rattle.std.proofs.lemmas.List.Edits.{length-insert, get_or-insert_below, get_or-insert_at, get_or-insert_above}
use Rattle.std.proofs.lemmas.List.Sorted.{searchable_from_sorted, IsPermutation-insert, IsPermutation-sym, Contains-permutation}
use Rattle.std.proofs.lemmas.Option.{slice_get-get_or}
use Rattle.std.proofs.Math.ListN.{get_or-append}
use Rattle.list_laws.proofs.Numbers.{below_or_here}
use Rattle.dq_lits.specs.Formula.{Dqbf}
use Rattle.dq_lits.specs.Henkin.{same_bits}
use Rattle.dq_lits.proofs.Choices.{same_bits-sound, same_bits-refl}
use Rattle.log_laws.proofs.Found.{position_append}
use Rattle.expansion.specs.FirstRows.{RowOrder, RowIndex, no_order, IsRowOrder, IsRowIndex, seen_by, row_at, bits_cmp, found_cmp}
use Rattle.expansion.proofs.ComparedRows.{bits_total, cmp_self, cmp_equal}
use Rattle.expansion.proofs.Firsts.{first_is, none_is}
use Rattle.list_laws.proofs.Members.{contains_cases, contains_later, contained_at}

not_less : {o : Ordering} → o ≡ Greater → is_lt o ≡ false
not_less e = ap is_lt e

no_less : Less ≡ Equal → ⊥
no_less e = cc

no_greater : Greater ≡ Equal → ⊥
no_greater e = cc

-- what stands among the elements of a longer list
inserted_or_old : (xs : List ℕ) (i y x : ℕ) → Contains (insert xs i y) x → (y ≡ x) ⊎ Contains xs x
inserted_or_old xs i y x has = contains_cases y x xs (Contains-permutation (insert xs i y) (y ∷ xs) x
    (IsPermutation-sym (y ∷ xs) (insert xs i y) (IsPermutation-insert xs i y)) has)

old_inserted : (xs : List ℕ) (i y x : ℕ) → Contains xs x → Contains (insert xs i y) x
old_inserted xs i y x has = Contains-permutation (y ∷ xs) (insert xs i y) x (IsPermutation-insert xs i y)
    (contains_later y x xs has)

new_inserted : (xs : List ℕ) (i y : ℕ) → Contains (insert xs i y) y
new_inserted xs i y = search (arith, (Contains-permutation (y ∷ xs)), (IsPermutation-insert xs i y))

three_ways : (j at : ℕ) → (j + 1 < at) ⊎ ((j + 1 ≡ at) ⊎ ((j ≡ at) ⊎ (at < j)))
three_ways zero zero = inr (inr (inl refl))
three_ways zero (suc zero) = inr (inl refl)
three_ways zero (suc (suc at)) = inl (omega arith)
three_ways (suc j) zero = inr (inr (inr (omega arith)))
three_ways (suc j) (suc at) = search (arith, (three_ways j at))

module _ (f : Dqbf) (sees : List ℕ) (rows : List (List Bool)) (o : RowOrder) (order : IsRowOrder f sees rows o) where
  abbrev key : ℕ → List Bool
  key k = seen_by f sees (row_at rows k)

  abbrev lt : ℕ → ℕ → Bool
  lt a b = is_lt (bits_cmp (key a) (key b))

  abbrev agrees : List Bool → List Bool → Bool
  agrees row r = same_bits (seen_by f sees row) (seen_by f sees r)

  in_rows : (k : ℕ) → Contains o.places k → k < length rows
  in_rows k has = let learnt = (order.firsts k has).0 in let within = order.within in omega (arith, learnt, within)

  module _ (row : List Bool) where
    abbrev against : ℕ → Ordering
    against k = found_cmp f sees row (slice_get rows k)

    against_is : (k : ℕ) → k < length rows → against k ≡ bits_cmp (key k) (seen_by f sees row)
    against_is k below = ap (found_cmp f sees row) (slice_get-get_or rows k [] below)

    rises : IsNonDecreasingBy (λ k. ordering_index (against k)) o.places
    rises i j d le below =
        let at_i = against_is (get_or o.places i d) (in_rows (get_or o.places i d)
        (contained_at o.places i d (omega (arith, le, below)))) in
        let at_j = against_is (get_or o.places j d) (in_rows (get_or o.places j d) (contained_at o.places j d below)) in
        let up = searchable_from_sorted bits_total key o.places (seen_by f sees row) order.sorted i j d le below in
        subst (λ x. ordering_index x ≤ ordering_index (against (get_or o.places j d))) (sym at_i)
        (subst (λ x. ordering_index (bits_cmp (key (get_or o.places i d)) (seen_by f sees row)) ≤ ordering_index x)
        (sym at_j) up)

    -- a row that is found is the first that agrees
    pub found_key : (at d : ℕ) → at < length o.places → IsBinarySearchResult against o.places (Ok at) →
        key (get_or o.places at d) ≡ seen_by f sees row
    found_key at d below equal =
        let k = get_or o.places at d in
        cmp_equal (key k) (seen_by f sees row) (sym (against_is k (in_rows k (contained_at o.places at d below))) ∙ equal d)

    pub found_first : (at d : ℕ) → at < length o.places → IsBinarySearchResult against o.places (Ok at) →
        get_or o.places at d ≡ position_or_len (agrees row) rows
    found_first at d below equal =
        let k = get_or o.places at d in
        sym (order.firsts k (contained_at o.places at d below)).1 ∙ ap
        (λ bits. position_or_len (λ r. same_bits bits (seen_by f sees r)) rows) (found_key at d below equal)

    -- where none is found, no row agrees that was looked at
    pub none_agrees : (at : ℕ) → IsBinarySearchResult against o.places (Err at) → (j : ℕ) → j < o.learnt →
        agrees row (row_at rows j) ≡ false
    none_agrees at parted j learnt = elim (cases_Bool (agrees row (row_at rows j)))
        [ inl same ↦ absurd (no_one same) | inr other ↦ other ]
      where
        p : ℕ
        p = (order.whole j learnt).0

        there : Contains o.places p
        there = (order.whole j learnt).1

        same_key : agrees row (row_at rows j) ≡ true → against p ≡ Equal
        same_key same =
            let row_is : seen_by f sees row ≡ key j = same_bits-sound (seen_by f sees row) (key j) same in
            let keys : key j ≡ key p = same_bits-sound (key j) (key p) (order.whole j learnt).2 in
            against_is p (in_rows p there) ∙ ap (λ bits. bits_cmp bits (seen_by f sees row)) (sym (row_is ∙ keys))
            ∙ cmp_self (seen_by f sees row)

        no_one : agrees row (row_at rows j) ≡ true → ⊥
        no_one same = by_side (below_or_not there.0 at)
          where
            at_place : against (get_or o.places there.0 p) ≡ Equal
            at_place = ap against there.2 ∙ same_key same

            below_or_not : (a b : ℕ) → (a < b) ⊎ (b ≤ a)
            below_or_not a zero = inr (omega arith)
            below_or_not zero (suc b) = inl (omega arith)
            below_or_not (suc a) (suc b) = search (arith, (below_or_not a b))

            by_side : (there.0 < at) ⊎ (at ≤ there.0) → ⊥
            by_side (inl low) = no_less (sym ((parted rises).0 there.0 p (omega arith) low) ∙ at_place)
            by_side (inr high) = no_greater (sym ((parted rises).1 there.0 p high there.1) ∙ at_place)

    pub none_first : (at : ℕ) → IsBinarySearchResult against o.places (Err at) → length rows ≤ o.learnt →
        length rows ≡ position_or_len (agrees row) rows
    none_first at parted all = none_is (agrees row) rows (length rows) (omega arith)
        (λ k below. none_agrees at parted k (omega (arith, below, all)))

  -- one row more is looked at
  module _ (learnt_more : o.learnt < length rows) where
    abbrev here : ℕ
    here = o.learnt

    abbrev more : List ℕ → RowOrder
    more places = record { places = places; learnt = here + 1 }

    pub found_more : (at d : ℕ) → at < length o.places → IsBinarySearchResult (against (row_at rows here)) o.places
        (Ok at) → IsRowOrder f sees rows (more o.places)
    found_more at d below equal = record {
      within = omega (arith, learnt_more);
      sorted = order.sorted;
      firsts = λ k has. (let old = (order.firsts k has).0 in omega (arith, old), (order.firsts k has).1);
      whole = λ k lt'. by_place k (below_or_here k here lt');
    }
      where
        found : ℕ
        found = get_or o.places at d

        by_place : (k : ℕ) → (k < here) ⊎ (k ≡ here) → (p : ℕ) × Contains o.places p ×
            (same_bits (key k) (key p) ≡ true)
        by_place k (inl old) = order.whole k old
        by_place k (inr now) = (
          found,
          contained_at o.places at d below,
          subst (λ i. same_bits (key i) (key found) ≡ true) (sym now)
              (subst (λ bits. same_bits (key here) bits ≡ true) (sym (found_key (row_at rows here) at d below equal))
              (same_bits-refl (key here))),
        )

    module _ (at : ℕ) (at_most : at ≤ length o.places) (parted : IsBinarySearchResult
        (against (row_at rows here)) o.places (Err at)) where
      abbrev places : List ℕ
      places = insert o.places at here

      before_less : (j d : ℕ) → j < at → bits_cmp (key (get_or o.places j d)) (key here) ≡ Less
      before_less j d low =
          sym (against_is (row_at rows here) (get_or o.places j d)
          (in_rows (get_or o.places j d) (contained_at o.places j d (omega (arith, low, at_most)))))
          ∙ (parted (rises (row_at rows here))).0 j d (omega arith) low

      after_greater : (j d : ℕ) → at ≤ j → j < length o.places →
          bits_cmp (key (get_or o.places j d)) (key here) ≡ Greater
      after_greater j d high below =
          sym (against_is (row_at rows here) (get_or o.places j d)
          (in_rows (get_or o.places j d) (contained_at o.places j d below)))
          ∙ (parted (rises (row_at rows here))).1 j d high below

      -- of two neighbours
      in_order : (j d a b : ℕ) → get_or places j d ≡ a → get_or places (j + 1) d ≡ b → lt b a ≡ false →
          lt (get_or places (j + 1) d) (get_or places j d) ≡ false
      in_order j d a b a_is b_is h = ap (λ x. lt x (get_or places j d)) b_is ∙ ap (λ x. lt b x) a_is ∙ h

      sorted_more : IsSortedBy lt places
      sorted_more j d low below = by_place (three_ways j at)
        where
          n : length places ≡ length o.places + 1
          n = length-insert o.places at here at_most

          by_place : (j + 1 < at) ⊎ ((j + 1 ≡ at) ⊎ ((j ≡ at) ⊎ (at < j))) →
              lt (get_or places (j + 1) d) (get_or places j d) ≡ false
          by_place (inl far) =
              in_order j d (get_or o.places j d) (get_or o.places (j + 1) d)
              (get_or-insert_below o.places at here d j (omega (arith, far)) at_most)
              (get_or-insert_below o.places at here d (j + 1) far at_most)
              (order.sorted j d (omega arith) (omega (arith, far, at_most)))
          by_place (inr (inl near)) =
              in_order j d (get_or o.places j d) here (get_or-insert_below o.places at here d j
              (omega (arith, near)) at_most)
              (subst (λ i. get_or places i d ≡ here) (sym near) (get_or-insert_at o.places at here d at_most))
              (not_less (bits_total.antisymm (key here) (key (get_or o.places j d)) ∙ ap ordering_reverse
              (before_less j d (omega (arith, near)))))
          by_place (inr (inr (inl same))) =
              in_order j d here (get_or o.places j d) (subst (λ i. get_or places i d ≡ here) (sym same)
              (get_or-insert_at o.places at here d at_most))
              (get_or-insert_above o.places at here d j (omega (arith, same)) at_most)
              (not_less (after_greater j d (omega (arith, same)) (omega (arith, below, n))))
          by_place (inr (inr (inr past))) =
              let i = j - 1 in
              let back : i + 1 ≡ j = omega (arith, past) in
              in_order j d (get_or o.places i d) (get_or o.places j d)
              (subst (λ q. get_or places q d ≡ get_or o.places i d) back
              (get_or-insert_above o.places at here d i (omega (arith, past)) at_most))
              (get_or-insert_above o.places at here d j (omega (arith, past)) at_most)
              (subst (λ q. lt (get_or o.places q d) (get_or o.places i d) ≡ false) back
              (order.sorted i d (omega arith) (omega (arith, below, n, past))))

      itself : position_or_len (agrees (row_at rows here)) rows ≡ here
      itself = sym (first_is (agrees (row_at rows here)) rows here learnt_more
          (none_agrees (row_at rows here) at parted) (same_bits-refl (key here)))

      pub new_more : IsRowOrder f sees rows (more places)
      new_more = record {
        within = omega (arith, learnt_more);
        sorted = sorted_more;
        firsts = λ k has. by_element k (inserted_or_old o.places at here k has);
        whole = λ k lt'. by_place k (below_or_here k here lt');
      }
        where
          by_element : (k : ℕ) → (here ≡ k) ⊎ Contains o.places k →
              (k < here + 1) × (position_or_len (agrees (row_at rows k)) rows ≡ k)
          by_element k (inl now) = subst (λ i. (i < here + 1) × (position_or_len (agrees (row_at rows i)) rows ≡ i)) now
              (omega arith, itself)
          by_element k (inr old) = (let low = (order.firsts k old).0 in omega (arith, low), (order.firsts k old).1)

          by_place : (k : ℕ) → (k < here) ⊎ (k ≡ here) → (p : ℕ) × Contains places p ×
              (same_bits (key k) (key p) ≡ true)
          by_place k (inl old) = let w = order.whole k old in (w.0, old_inserted o.places at here w.0 w.1, w.2)
          by_place k (inr now) = (
            here,
            new_inserted o.places at here,
            subst (λ i. same_bits (key i) (key here) ≡ true) (sym now) (same_bits-refl (key here)),
          )

  -- rows behind those that were looked at don't matter
  module _ (further : List (List Bool)) where
    row_kept : (k : ℕ) → k < length rows → row_at (rows ++ further) k ≡ row_at rows k
    row_kept k below = get_or-append rows further [] k below

    key_kept : (k : ℕ) → k < length rows → seen_by f sees (row_at (rows ++ further) k) ≡ key k
    key_kept k below = ap (seen_by f sees) (row_kept k below)

    first_kept : (k : ℕ) → Contains o.places k → position_or_len
        (λ r. same_bits (seen_by f sees (row_at (rows ++ further) k)) (seen_by f sees r)) (rows ++ further) ≡ k
    first_kept k has =
        let first = (order.firsts k has).1 in
        let below = in_rows k has in
        ap (λ bits. position_or_len (λ r. same_bits bits (seen_by f sees r)) (rows ++ further)) (key_kept k below)
        ∙ position_append (agrees (row_at rows k)) rows further (subst (λ n. n < length rows) (sym first) below) ∙ first

    pub order_kept : IsRowOrder f sees (rows ++ further) o
    order_kept = record {
      within = (let n = length-append rows further in let within = order.within in omega (arith, n, within));
      sorted = λ j d low below. pair_kept (get_or o.places j d) (get_or o.places (j + 1) d)
          (contained_at o.places j d (omega (arith, below))) (contained_at o.places (j + 1) d below) (order.sorted j d low below);
      firsts = λ k has. ((order.firsts k has).0, first_kept k has);
      whole = λ k learnt. (let w = order.whole k learnt in (
        w.0,
        w.1,
        agree_kept k w.0 (omega (arith, learnt, order.within)) (in_rows w.0 w.1) w.2,
      ));
    }
      where
        pair_kept : (a b : ℕ) → Contains o.places a → Contains o.places b → lt b a ≡ false
            → is_lt (bits_cmp (seen_by f sees (row_at (rows ++ further) b))
            (seen_by f sees (row_at (rows ++ further) a))) ≡ false
        pair_kept a b has_a has_b h = search (arith, key_kept, in_rows)

        agree_kept : (a b : ℕ) → a < length rows → b < length rows → same_bits (key a) (key b) ≡ true
            → same_bits (seen_by f sees (row_at (rows ++ further) a))
            (seen_by f sees (row_at (rows ++ further) b)) ≡ true
        agree_kept a b low_a low_b h = search (arith, key_kept)

-- the same of places and rows as a search had them
module _ (f : Dqbf) (sees : List ℕ) (rows : List (List Bool)) (o : RowOrder) (order : IsRowOrder f sees rows o)
    (places : List ℕ) (same : places ≡ o.places) where
  abbrev Found : List Bool → List ℕ → Result ℕ ℕ → Type 0
  Found row ps r = IsBinarySearchResult (λ i. found_cmp f sees row (slice_get rows i)) ps r

  module _ (row : List Bool) (k : ℕ) (row_is : row ≡ get_or rows k row) (next : k ≡ o.learnt)
      (below : k < length rows) where
    next_row : row ≡ row_at rows o.learnt
    next_row = row_is ∙ get_or_default rows k row [] below ∙ ap (row_at rows) next

    next_below : o.learnt < length rows
    next_below = subst (λ i. i < length rows) next below

    pub learnt_new : (at : ℕ) → at ≤ length places → Found row places (Err at) →
        IsRowOrder f sees rows (record { places = insert places at k; learnt = k + 1 })
    learnt_new at within found =
        let there = subst (λ r. Found r o.places (Err at)) next_row (subst (λ ps. Found row ps (Err at)) same found) in
        subst (λ ps. IsRowOrder f sees rows (record { places = insert ps at k; learnt = k + 1 })) (sym same)
        (subst (λ j. IsRowOrder f sees rows (record { places = insert o.places at j; learnt = j + 1 })) (sym next)
        (new_more f sees rows o order next_below at (subst (λ ps. at ≤ length ps) same within) there))

    pub learnt_found : (at : ℕ) → at < length places → Found row places (Ok at) →
        IsRowOrder f sees rows (record { places = places; learnt = k + 1 })
    learnt_found at within found =
        let there = subst (λ r. Found r o.places (Ok at)) next_row (subst (λ ps. Found row ps (Ok at)) same found) in
        subst (λ ps. IsRowOrder f sees rows (record { places = ps; learnt = k + 1 })) (sym same)
        (subst (λ j. IsRowOrder f sees rows (record { places = o.places; learnt = j + 1 })) (sym next)
        (found_more f sees rows o order next_below at 0 (subst (λ ps. at < length ps) same within) there))

  module _ (row : List Bool) where
    pub first_found : (at d : ℕ) → at < length places → Found row places (Ok at) →
        get_or places at d ≡ position_or_len (λ r. same_bits (seen_by f sees row) (seen_by f sees r)) rows
    first_found at d within found =
        ap (λ ps. get_or ps at d) same ∙ found_first f sees rows o order row at d
        (subst (λ ps. at < length ps) same within) (subst (λ ps. Found row ps (Ok at)) same found)

    pub first_none : (at : ℕ) → length rows ≤ o.learnt → Found row places (Err at) →
        length rows ≡ position_or_len (λ r. same_bits (seen_by f sees row) (seen_by f sees r)) rows
    first_none at all found = none_first f sees rows o order row at (subst (λ ps. Found row ps (Err at)) same found) all

pub index_kept : (f : Dqbf) (rows further : List (List Bool)) (index : RowIndex) → IsRowIndex f rows index →
    IsRowIndex f (rows ++ further) index
index_kept f rows further index is = record {
  leaders = is.leaders;
  many = is.many;
  orders = λ place y y_is. order_kept f y.sees rows (get_or index.orders place no_order)
      (is.orders place y y_is) further;
}
