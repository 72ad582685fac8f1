-- A variable of a store gets one part of its copies more: a copy, its equation's group, or half of
-- the equation.
use Rattle.std.proofs.Common.{◌≡◌, ◌≢◌, ℕ, ◌+◌, ◌<◌, ◌≤◌, false, ◌⊎◌, inl, inr, List, ◌∷◌, ◌++◌, map, length, set, slice_get, Some, None, refl, sym, ◌∙◌, ap, subst, arith}
use Rattle.std.specs.List.{AllPairs, Contains}
use Rattle.std.proofs.lemmas.Bool.{eq-eqb}
use Rattle.std.proofs.lemmas.List.{get_or-set_same, get_or-set_other, length-set}
use Rattle.std.proofs.lemmas.Option.{slice_get_within}
use Rattle.list_laws.proofs.Quantified.{one_place}
use Rattle.list_laws.proofs.Numbers.{same_or_not}
use Rattle.dq_lits.specs.Literal.{Literal, positive}
use Rattle.dq_lits.specs.Formula.{Dqbf, declared}
use Rattle.hint_log.specs.Conditions.{AreLogged}
use Rattle.hint_log.specs.Entries.{Entry, Named, ProofLog, with_entry, name_of}
use Rattle.hint_log.specs.Naming.{named_literal, name_literal}
use Rattle.hint_log.specs.Origins.{link_names}
use Rattle.hint_log.specs.declared.names.Name.TheVariants.{Copy as CopyOf}
use Rattle.hint_log.specs.declared.origins.Origin.TheVariants.{Link}
use Rattle.log_laws.proofs.Kept.{NamesStay, name_stays_by, literal_stays}
use Rattle.oracle.specs.declared.groups.Group.{Group}
use Rattle.definability.specs.Copies.{IsGivenIn, group_variable}
use Rattle.definability.specs.Following.{AreOldOrNew, IsFollowing, CanGiveCopies}
use Rattle.definability.specs.Store.{StoreState, parts_at, HasGroup, Slot, of_frame, of_link, both_groups, IsStoreEntry, HasParts, AreStoreGroups, SideCopies, copies_on, IsPartialStore, side_copies}
use Rattle.definability.proofs.PreservedStores.{IsGrown, AreNewGroups, entries_kept, kept_by, given_in_stays, given_stays}
use Rattle.definability.proofs.StoreSteps.{following_entry, set_cases}
use Rattle.oracle.proofs.MadeGroups.{made_stays}

-- lists of the same lengths
abbrev pub HasSameLengths : SideCopies → SideCopies → Type 0
HasSameLengths old new = (length new.universals ≡ length old.universals) × (length new.existentials ≡ length old.existentials)

-- the variable at a place gets its n-th part
module _ (s : StoreState) (place n : ℕ) (first second : SideCopies) (links : List Group) where
  abbrev pub raised : StoreState
  raised = record s { first = first; second = second; parts = set s.parts place n; links = links }

  module _ (within : place < length s.parts) (next : parts_at s place + 1 ≡ n) where
    pub raised_here : parts_at raised place ≡ n
    raised_here = get_or-set_same s.parts place n 5 within

    pub raised_other : (k : ℕ) → k ≢ place → parts_at raised k ≡ parts_at s k
    raised_other k differ = get_or-set_other s.parts place k n 5 differ

    pub raised_more : (k : ℕ) → parts_at s k ≤ parts_at raised k
    raised_more k = search (arith, same_or_not, raised_here, raised_other)

    -- what holds at a number that a place has now held before, but at this place
    pub held_before : (k i : ℕ) → i ≤ parts_at raised k → (i ≤ parts_at s k) ⊎ ((k ≡ place) × (i ≡ n))
    held_before k i low = search (arith, same_or_not, raised_here, raised_other)

    module _ (kept_links : (k : ℕ) (g : Group) → 3 ≤ parts_at s k → slice_get s.links k ≡ Some g →
        slice_get links k ≡ Some g) where
      kept_groups : (slot : Slot) (g : Group) → HasGroup s slot g → HasGroup raised slot g
      kept_groups (of_frame side F) g has = has
      kept_groups (of_link k) g has = search (arith, raised_more)

      pub raised_grown : IsGrown s raised
      raised_grown = search (arith, kept_groups, raised_more)

      module _ (all : Dqbf) (numbered : List ℕ) (e : Entry) (es : List Entry) (store : IsPartialStore all numbered s es)
          (logged : AreLogged es) (names : NamesStay es (e ∷ es)) (new : AreNewGroups s raised es) where
        pub raised_store : HasSameLengths s.first first → HasSameLengths s.second second →
            length links ≡ length (declared all) → HasParts all raised (e ∷ es) → AreStoreGroups raised (e ∷ es) →
            IsStoreEntry all numbered raised es e → IsPartialStore all numbered raised (e ∷ es)
        raised_store long_first long_second long_links parts groups own = record {
          places = search (arith, length-set);
          whole = λ k below flag.
              let low = store.whole k below flag in let more = raised_more k in omega (arith, low, more);
          parts = parts;
          groups = groups;
          givens = λ side j one has.
              given_stays all numbered s es (e ∷ es) (kept_by e es names) side j (store.givens side j one has);
          own = (own, entries_kept all numbered s raised raised_grown es new logged store.own);
          active = store.active;
        }

    -- groups, where the links stay and no new one counts
    pub raised_groups : (e : Entry) (es : List Entry) → links ≡ s.links → n ≢ 3 → NamesStay es (e ∷ es) →
        AreStoreGroups s es → AreStoreGroups raised (e ∷ es)
    raised_groups e es same no_link names h =
        let kept = kept_by e es names in record {
          made = λ slot g has. made_stays es (e ∷ es) g names (h.made slot g (before slot g has));
          links = λ k g is. made_stays es (e ∷ es) g names (h.links k g (subst (λ gs. slice_get gs k ≡ Some g) same is));
          apart = λ a b g k has has' is. h.apart a b g k (before a g has) (before b k has') is;
        }
      where
        before : (slot : Slot) (g : Group) → HasGroup raised slot g → HasGroup s slot g
        before (of_frame side F) g has = has
        before (of_link k) g has = by (held_before k 3 has.0)
          where
            by : (3 ≤ parts_at s k) ⊎ ((k ≡ place) × (3 ≡ n)) → HasGroup s (of_link k) g
            by (inl low) = (low, subst (λ gs. slice_get gs k ≡ Some g) same has.1)
            by (inr (here, three)) = absurd (no_link (sym three))

    pub raised_new : (es : List Entry) → links ≡ s.links → n ≢ 3 → AreNewGroups s raised es
    raised_new es same no_link (of_frame side F) g has = inl has
    raised_new es same no_link (of_link k) g has = search (arith, held_before)

    pub raised_old : (es : List Entry) → links ≡ s.links → AreOldOrNew s raised es
    raised_old es same g has = inl (subst (λ gs. Contains (both_groups s.frames ++ map group_variable gs) g) same has)

-- a copy of the variable, on a side
module _ (all : Dqbf) (numbered : List ℕ) (f : Dqbf) (once : AllPairs (λ v w. v ≢ w) (declared all)) (s : StoreState) (log : ProofLog)
    (h : CanGiveCopies all numbered f s log.entries) (logged : AreLogged log.entries) (place x side v : ℕ)
    (x_is : slice_get (declared all) place ≡ Some x) (sides : (side ≡ 1) ⊎ (side ≡ 2))
    (next : parts_at s place + 1 ≡ side) (unnamed : name_of log.entries v ≡ None)
    (first second : SideCopies) (long_first : HasSameLengths s.first first)
    (long_second : HasSameLengths s.second second)
    (put : copies_on first second side ≡ set (side_copies s side) place (positive v))
    (same : (sd : ℕ) → sd ≢ side → copies_on first second sd ≡ side_copies s sd) where
  abbrev t : StoreState
  t = raised s place side first second s.links

  abbrev e : Entry
  e = Named v (CopyOf side x)

  abbrev es : List Entry
  es = log.entries

  within : place < length s.parts
  within =
      let long = h.store.places.parts in
      let below = slice_get_within (declared all) place x x_is in
      omega (arith, long, below)

  -- the new copy, or an old one
  shape : (sd k : ℕ) (l : Literal) → slice_get (copies_on first second sd) k ≡ Some l →
      ((sd ≡ side) × (k ≡ place) × (positive v ≡ l))
      ⊎ (((sd ≢ side) ⊎ (k ≢ place)) × (slice_get (side_copies s sd) k ≡ Some l))
  shape sd k l at = by (same_or_not sd side)
    where
      by : (sd ≡ side) ⊎ (sd ≢ side) → ((sd ≡ side) × (k ≡ place) × (positive v ≡ l))
          ⊎ (((sd ≢ side) ⊎ (k ≢ place)) × (slice_get (side_copies s sd) k ≡ Some l))
      by (inl here) = elim (set_cases (side_copies s side) place k (positive v) l
          (sym (ap (λ ls. slice_get ls k) (ap (copies_on first second) here ∙ put)) ∙ at)) [
            | inl new ↦ inl (here, new.0, new.1)
            | inr old ↦ inr (inr old.0, ap (λ sd. slice_get (side_copies s sd) k) here ∙ old.1)
          ]
      by (inr other) = inr (inl other, sym (ap (λ ls. slice_get ls k) (same sd other)) ∙ at)

  not_three : side ≢ 3
  not_three e = elim sides [ inl one ↦ omega (arith, one, e) | inr two ↦ omega (arith, two, e) ]

  names : NamesStay es (e ∷ es)
  names = name_stays_by es v (CopyOf side x) unnamed

  named_here : name_literal (e ∷ es) (positive v) ≡ Some (named_literal (CopyOf side x) false)
  named_here = search (arith, eq-eqb)

  parts : HasParts all t (e ∷ es)
  parts =
      record {
        copies = λ sd k y l low y_is l_is. named sd k y l low y_is (shape sd k l l_is);
        equations = λ k y i g low one two y_is g_is. equation k y i g low one two y_is g_is
            (held_before s place side first second s.links within next k (i + 3) low);
      }
    where
      old_part : (sd k : ℕ) → (sd ≢ side) ⊎ (k ≢ place) → (sd ≤ parts_at s k) ⊎ ((k ≡ place) × (sd ≡ side)) →
          sd ≤ parts_at s k
      old_part sd k differ (inl low) = low
      old_part sd k (inl differ) (inr (here, same)) = absurd (differ same)
      old_part sd k (inr differ) (inr (here, same)) = absurd (differ here)

      named : (sd k y : ℕ) (l : Literal) → sd ≤ parts_at t k → slice_get (declared all) k ≡ Some y →
          ((sd ≡ side) × (k ≡ place) × (positive v ≡ l))
          ⊎ (((sd ≢ side) ⊎ (k ≢ place)) × (slice_get (side_copies s sd) k ≡ Some l)) →
          name_literal (e ∷ es) l ≡ Some (named_literal (CopyOf sd y) false)
      named sd k y l low y_is (inl (sd_is, k_is, l_is)) =
          let both : Some y ≡ Some x = sym y_is ∙ ap (slice_get (declared all)) k_is ∙ x_is in
          let same : y ≡ x = cc in
          ap (name_literal (e ∷ es)) (sym l_is) ∙ named_here
          ∙ ap (λ m. Some (named_literal (CopyOf m x) false)) (sym sd_is)
          ∙ ap (λ m. Some (named_literal (CopyOf sd m) false)) (sym same)
      named sd k y l low y_is (inr (differ, old)) =
          literal_stays es (e ∷ es) names l _ (h.store.parts.copies sd k y l (old_part sd k differ
          (held_before s place side first second s.links within next k sd low)) y_is old)

      equation : (k y i : ℕ) (g : Group) → i + 3 ≤ parts_at t k → 1 ≤ i → i ≤ 2 → slice_get (declared all) k ≡ Some y →
          slice_get s.links k ≡ Some g → (i + 3 ≤ parts_at s k) ⊎ ((k ≡ place) × (i + 3 ≡ side)) →
          IsGivenIn (e ∷ es) (group_variable g) (Link y i) (link_names y i)
      equation k y i g low one two y_is g_is (inl before) = given_in_stays es (e ∷ es) (kept_by e es names)
          (group_variable g) (Link y i) (link_names y i) (h.store.parts.equations k y i g before one two y_is g_is)
      equation k y i g low one two y_is g_is (inr (here, three)) = search arith

  own : IsStoreEntry all numbered t es e
  own k k_is =
      let same_place = one_place (declared all) k place x once k_is x_is in
      let here = raised_here s place side first second s.links within next in
      let there = ap (parts_at t) same_place in
      omega (arith, here, there)

  named_store : IsPartialStore all numbered t (e ∷ es)
  named_store = raised_store s place side first second s.links within next (λ k g low is. is) all numbered e es h.store
      logged names (raised_new s place side first second s.links within next es refl not_three) long_first long_second
      h.store.places.links parts
      (raised_groups s place side first second s.links within next e es refl not_three names h.store.groups) own

  pub named_following : (new : ProofLog) → new ≡ with_entry log e → IsFollowing all numbered s log t new
  named_following new is = following_entry all numbered s t log new e is
      (record { unnamed = unnamed; own = inr refl; rightly = tt }) refl refl refl
      (raised_old s place side first second s.links within next es refl) named_store
      (raised_grown s place side first second s.links within next (λ k g low is. is)) (λ k flag. flag)
