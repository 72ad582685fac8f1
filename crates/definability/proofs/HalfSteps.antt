-- A variable of a store gets half of its equation.
use Rattle.std.proofs.Common.{◌≡◌, ◌≢◌, ℕ, suc, ◌+◌, ◌<◌, ◌≤◌, false, ◌⊎◌, inl, inr, List, [], ◌∷◌, length, slice_get, Some, refl, sym, ◌∙◌, ap, subst, arith}
use Rattle.std.specs.List.{AllPairs, Contains}
use Rattle.std.proofs.lemmas.List.Elements.{Contains-append_right}
use Rattle.std.proofs.lemmas.Option.{slice_get_within}
use Rattle.list_laws.proofs.Quantified.{one_place}
use Rattle.list_laws.proofs.Members.{contains_first, contains_cases}
use Rattle.dq_lits.specs.Literal.{Literal, negative}
use Rattle.dq_lits.specs.Formula.{Dqbf, declared}
use Rattle.hint_log.specs.Conditions.{AreLogged}
use Rattle.hint_log.specs.Entries.{Entry, Given, ProofLog, with_entry}
use Rattle.hint_log.specs.Growth.{Each}
use Rattle.hint_log.specs.Naming.{AreNamedAs, named_literal, name_literal}
use Rattle.hint_log.specs.Origins.{link_names}
use Rattle.hint_log.specs.ProductiveLog.{MatchesOrigin}
use Rattle.hint_log.specs.declared.names.Name.TheVariants.{Copy as CopyOf}
use Rattle.hint_log.specs.declared.origins.Origin.TheVariants.{Link}
use Rattle.log_laws.proofs.Kept.{NamesStay}
use Rattle.oracle.specs.declared.groups.Group.{Group}
use Rattle.definability.specs.Copies.{IsGivenIn, group_variable}
use Rattle.definability.specs.Following.{IsFollowing, CanGiveCopies}
use Rattle.definability.specs.Store.{StoreState, parts_at, side_copies, IsStoreEntry, HasParts, IsPartialStore}
use Rattle.definability.proofs.PartSteps.{raised, raised_here, raised_grown, held_before, raised_store, raised_new, raised_groups, raised_old}
use Rattle.definability.proofs.PreservedStores.{kept_by, given_in_stays, parts_stay, link_number}
use Rattle.definability.proofs.StoreSteps.{following_entry}

-- half of an equation
record IsLinkGiven (all : Dqbf) (s : StoreState) (x i : ℕ) : Type 0 where
  place : ℕ
  variable_is : slice_get (declared all) place ≡ Some x
  done : i + 3 ≤ parts_at s place

stored_link : (all : Dqbf) (numbered : List ℕ) (s : StoreState) (es : List Entry) (x i : ℕ) (c : List Literal) →
    Each (IsStoreEntry all numbered s) es → Contains es (Given (Link x i) c) → IsLinkGiven all s x i
stored_link all numbered s [] x i c own inside = let below = inside.1 in absurd (omega (arith, below))
stored_link all numbered s (e ∷ es) x i c own inside =
    search (arith, (stored_link all numbered s es x i c own.1), contains_cases)

module _ (all : Dqbf) (numbered : List ℕ) (f : Dqbf) (once : AllPairs (λ v w. v ≢ w) (declared all)) (s : StoreState) (log : ProofLog)
    (h : CanGiveCopies all numbered f s log.entries) (logged : AreLogged log.entries) (place x i : ℕ)
    (x_is : slice_get (declared all) place ≡ Some x) (half : (i ≡ 1) ⊎ (i ≡ 2)) (next : parts_at s place ≡ i + 2)
    (g : Group) (g_is : slice_get s.links place ≡ Some g) (rest : List Literal)
    (named : AreNamedAs log.entries rest (link_names x i)) where
  abbrev pub equated : StoreState
  equated = raised s place (i + 3) s.first s.second s.links

  abbrev c : List Literal
  c = negative (group_variable g) ∷ rest

  abbrev e : Entry
  e = Given (Link x i) (negative (group_variable g) ∷ rest)

  abbrev es : List Entry
  es = log.entries

  within : place < length s.parts
  within =
      let long = h.store.places.parts in
      let below = slice_get_within (declared all) place x x_is in
      omega (arith, long, below)

  one_more : parts_at s place + 1 ≡ i + 3
  one_more = let two = next in omega (arith, two)

  from_one : 1 ≤ i
  from_one = elim half [ inl one ↦ omega (arith, one) | inr two ↦ omega (arith, two) ]

  no_link : i + 3 ≢ 3
  no_link is = let low = from_one in omega (arith, is, low)

  names : NamesStay es (e ∷ es)
  names v n is = is

  parts : HasParts all equated (e ∷ es)
  parts =
      record {
        copies = λ sd k y l low y_is l_is. copy sd k y l y_is l_is
            (held_before s place (i + 3) s.first s.second s.links within one_more k sd low);
        equations = λ k y j m low one two y_is m_is. equation k y j m one two y_is m_is
            (held_before s place (i + 3) s.first s.second s.links within one_more k (j + 3) low);
      }
    where
      copy : (sd k y : ℕ) (l : Literal) → slice_get (declared all) k ≡ Some y →
          slice_get (side_copies s sd) k ≡ Some l → (sd ≤ parts_at s k) ⊎ ((k ≡ place) × (sd ≡ i + 3)) →
          name_literal (e ∷ es) l ≡ Some (named_literal (CopyOf sd y) false)
      copy sd k y l y_is l_is (inl low) =
          (parts_stay all numbered s es (e ∷ es) (kept_by e es names) h.store.parts).copies sd k y l low y_is l_is
      copy sd k y l y_is l_is (inr (here, many)) =
          let past : suc (suc (suc i)) ≡ sd = omega (arith, many) in
          let gone : slice_get (side_copies s (suc (suc (suc i)))) k ≡ Some l =
          ap (λ n. slice_get (side_copies s n) k) past ∙ l_is in
          cc

      equation : (k y j : ℕ) (m : Group) → 1 ≤ j → j ≤ 2 → slice_get (declared all) k ≡ Some y →
          slice_get s.links k ≡ Some m → (j + 3 ≤ parts_at s k) ⊎ ((k ≡ place) × (j + 3 ≡ i + 3)) →
          IsGivenIn (e ∷ es) (group_variable m) (Link y j) (link_names y j)
      equation k y j m one two y_is m_is (inl low) = given_in_stays es (e ∷ es) (kept_by e es names)
          (group_variable m) (Link y j) (link_names y j) (h.store.parts.equations k y j m low one two y_is m_is)
      equation k y j m one two y_is m_is (inr (here, many)) =
          let j_is : i ≡ j = omega (arith, many) in
          let both : Some x ≡ Some y = sym x_is ∙ ap (slice_get (declared all)) (sym here) ∙ y_is in
          let x_same : x ≡ y = cc in
          let groups : Some g ≡ Some m = sym g_is ∙ ap (slice_get s.links) (sym here) ∙ m_is in
          let g_same : g ≡ m = cc in
          subst (λ z. IsGivenIn (e ∷ es) (group_variable m) (Link z j) (link_names z j)) x_same
          (subst (λ z. IsGivenIn (e ∷ es) (group_variable m) (Link x z) (link_names x z)) j_is
          (subst (λ z. IsGivenIn (e ∷ es) (group_variable z) (Link x i) (link_names x i)) g_same
          (record { rest = rest; given = contains_first e es; named = named })))

  right : MatchesOrigin all es (Given (Link x i) c)
  right = record {
    group = group_variable g;
    rest = rest;
    clause_is = refl;
    is_group = (h.store.groups.links place g g_is).named;
    rest_is = (half, named);
    one_leaf = λ v a b a' b' leaf leaf' rest' is. cc;
  }

  own : IsStoreEntry all numbered equated es e
  own =
      let here = raised_here s place (i + 3) s.first s.second s.links within one_more in
      record {
        right = right;
        place = place;
        variable_is = x_is;
        done = omega (arith, here);
        group = g;
        group_is = g_is;
        in_group = (rest, refl);
      }

  first : (d : List Literal) → Contains es (Given (Link x i) d) → ⊥
  first d inside =
      let there = stored_link all numbered s es x i d h.store.own inside in
      let done = there.done in
      let same = ap (parts_at s)
      (one_place (declared all) there.place place x once there.variable_is x_is) in
      let before = next in
      omega (arith, done, same, before)

  equated_store : IsPartialStore all numbered equated (e ∷ es)
  equated_store =
      raised_store s place (i + 3) s.first s.second s.links within one_more (λ k m low is. is)
      all numbered e es h.store logged names
      (raised_new s place (i + 3) s.first s.second s.links within one_more es refl no_link)
      (refl, refl) (refl, refl) h.store.places.links parts
      (raised_groups s place (i + 3) s.first s.second s.links within one_more e es refl no_link
      names h.store.groups) own

  pub equated_following : (new : ProofLog) → new ≡ with_entry log e → IsFollowing all numbered s log equated new
  equated_following new is = following_entry all numbered s equated log new e is
      (record {
        own = refl;
        in_group = search (arith, Contains-append_right, link_number);
        matches_origin = right;
        not_repeated = record { first = λ no_fault d inside. first d inside; groups = h.few };
      }) refl refl refl
      (raised_old s place (i + 3) s.first s.second s.links within one_more es refl) equated_store
      (raised_grown s place (i + 3) s.first s.second s.links within one_more (λ k m low is. is)) (λ k flag. flag)
