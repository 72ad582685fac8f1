-- A variable of a store gets its equation's group.
use Rattle.std.proofs.Common.{◌≡◌, ◌≢◌, ℕ, zero, suc, ◌+◌, ◌<◌, ◌≤◌, false, ◌⊎◌, inl, inr, List, [], ◌∷◌, map, length, set, slice_get, Some, None, refl, sym, ◌∙◌, ap, subst, arith}
use Rattle.std.specs.List.{Contains}
use Rattle.std.proofs.lemmas.Bool.{eq-eqb}
use Rattle.std.proofs.lemmas.List.{length-set}
use Rattle.std.proofs.lemmas.List.Elements.{Contains-append_cases, Contains-append_left, Contains-append_right}
use Rattle.dq_lits.specs.Literal.{Literal, is_negative}
use Rattle.dq_lits.specs.Formula.{Dqbf, declared}
use Rattle.hint_log.specs.Conditions.{AreLogged}
use Rattle.hint_log.specs.Entries.{Entry, Named, ProofLog, with_entry, name_of}
use Rattle.hint_log.specs.Naming.{named_literal, name_literal}
use Rattle.hint_log.specs.Origins.{link_names}
use Rattle.hint_log.specs.declared.names.Name.TheVariants.{Selector, Copy as CopyOf}
use Rattle.hint_log.specs.declared.origins.Origin.TheVariants.{Link}
use Rattle.log_laws.proofs.Kept.{NamesStay, name_stays_by}
use Rattle.oracle.specs.Calls.{IsMade}
use Rattle.oracle.specs.declared.groups.Group.{Group}
use Rattle.definability.specs.Copies.{IsGivenIn, group_variable}
use Rattle.definability.specs.Following.{AreOldOrNew, IsFollowing, CanGiveCopies}
use Rattle.definability.specs.Store.{StoreState, parts_at, side_copies, HasGroup, Slot, of_frame, of_link, both_groups, store_groups, HasParts, AreStoreGroups, IsPartialStore}
use Rattle.definability.proofs.PreservedStores.{AreNewGroups, kept_by, given_in_stays, parts_stay}
use Rattle.definability.proofs.PartSteps.{raised, held_before, raised_store, raised_grown}
use Rattle.definability.proofs.StoreSteps.{set_cases, set_there, following_entry}
use Rattle.oracle.proofs.MadeGroups.{made_stays}

-- a group that replaces another one
set_number : (gs : List Group) (place : ℕ) (g : Group) (n : ℕ) → Contains (map group_variable (set gs place g)) n →
    (group_variable g ≡ n) ⊎ Contains (map group_variable gs) n
set_number [] place g n has = inr has
set_number (x ∷ gs) zero g n (zero, below, at) = inl at
set_number (x ∷ gs) zero g n (suc k, below, at) = inr (suc k, below, at)
set_number (x ∷ gs) (suc place) g n (zero, below, at) = inr (0, omega arith, at)
set_number (x ∷ gs) (suc place) g n (suc k, below, at) = by (set_number gs place g n (k, omega (arith, below), at))
  where
    by : (group_variable g ≡ n) ⊎ Contains (map group_variable gs) n →
        (group_variable g ≡ n) ⊎ Contains (group_variable x ∷ map group_variable gs) n
    by (inl same) = inl same
    by (inr (i, less, there)) = inr (suc i, omega (arith, less), there)

module _ (all : Dqbf) (numbered : List ℕ) (f : Dqbf) (s : StoreState) (log : ProofLog)
    (h : CanGiveCopies all numbered f s log.entries) (logged : AreLogged log.entries) (place : ℕ)
    (inside : place < length (declared all)) (g : Group) (next : parts_at s place ≡ 2)
    (plain : is_negative g.selector ≡ false) (unnamed : name_of log.entries (group_variable g) ≡ None) where
  abbrev links : List Group
  links = set s.links place g

  abbrev pub linked : StoreState
  linked = raised s place 3 s.first s.second links

  abbrev e : Entry
  e = Named (group_variable g) (Selector (group_variable g))

  abbrev es : List Entry
  es = log.entries

  within : place < length s.parts
  within = let long = h.store.places.parts in omega (arith, long, inside)

  third : parts_at s place + 1 ≡ 3
  third = let two = next in omega (arith, two)

  names : NamesStay es (e ∷ es)
  names = name_stays_by es (group_variable g) (Selector (group_variable g)) unnamed

  elsewhere : (k i : ℕ) → 3 ≤ i → i ≤ parts_at s k → k ≢ place
  elsewhere k i three low same =
      let there = ap (parts_at s) same in let two = next in omega (arith, three, low, there, two)

  kept_links : (k : ℕ) (m : Group) → 3 ≤ parts_at s k → slice_get s.links k ≡ Some m → slice_get links k ≡ Some m
  kept_links k m low is = set_there s.links place k g m (elsewhere k 3 (omega arith) low) is

  old_link : (k : ℕ) (m : Group) → k ≢ place → slice_get links k ≡ Some m → slice_get s.links k ≡ Some m
  old_link k m apart is = search (arith, set_cases)

  made_here : IsMade (e ∷ es) g
  made_here = search (arith, eq-eqb)

  link_which : (k : ℕ) (m : Group) → HasGroup linked (of_link k) m →
      (3 ≤ parts_at s k) ⊎ ((k ≡ place) × (◌≡◌ {A = ℕ} 3 3)) →
      ((of_link k ≡ of_link place) × (g ≡ m)) ⊎ HasGroup s (of_link k) m
  link_which k m has (inl low) = inr (low, old_link k m (elsewhere k 3 (omega arith) low) has.1)
  link_which k m has (inr (here, three)) = search (arith, set_cases)

  which : (slot : Slot) (m : Group) → HasGroup linked slot m →
      ((slot ≡ of_link place) × (g ≡ m)) ⊎ HasGroup s slot m
  which (of_frame side F) m has = inr has
  which (of_link k) m has = link_which k m has
      (held_before s place 3 s.first s.second links within third k 3 has.0)

  parts : HasParts all linked (e ∷ es)
  parts =
      record {
        copies = λ sd k y l low y_is l_is. named sd k y l y_is l_is
            (held_before s place 3 s.first s.second links within third k sd low);
        equations = λ k y i m low one two y_is m_is. equation k y i m one two y_is m_is
            (held_before s place 3 s.first s.second links within third k (i + 3) low);
      }
    where
      named : (sd k y : ℕ) (l : Literal) → slice_get (declared all) k ≡ Some y →
          slice_get (side_copies s sd) k ≡ Some l → (sd ≤ parts_at s k) ⊎ ((k ≡ place) × (sd ≡ 3)) →
          name_literal (e ∷ es) l ≡ Some (named_literal (CopyOf sd y) false)
      named sd k y l y_is l_is (inl low) =
          (parts_stay all numbered s es (e ∷ es) (kept_by e es names) h.store.parts).copies sd k y l low y_is l_is
      named sd k y l y_is l_is (inr (here, three)) =
          let gone : slice_get (side_copies s 3) k ≡ Some l =
          ap (λ n. slice_get (side_copies s n) k) (sym three) ∙ l_is in
          cc

      equation : (k y i : ℕ) (m : Group) → 1 ≤ i → i ≤ 2 → slice_get (declared all) k ≡ Some y →
          slice_get links k ≡ Some m → (i + 3 ≤ parts_at s k) ⊎ ((k ≡ place) × (i + 3 ≡ 3)) →
          IsGivenIn (e ∷ es) (group_variable m) (Link y i) (link_names y i)
      equation k y i m one two y_is m_is (inl low) = given_in_stays es (e ∷ es) (kept_by e es names)
          (group_variable m) (Link y i) (link_names y i) (h.store.parts.equations k y i m low one two y_is
          (old_link k m (elsewhere k (i + 3) (omega arith) low) m_is))
      equation k y i m one two y_is m_is (inr (here, three)) = absurd (omega (arith, one, three))

  groups : AreStoreGroups linked (e ∷ es)
  groups = record {
    made = λ slot m has. made slot m (which slot m has);
    links = λ k m is. link_made k m (set_cases s.links place k g m is);
    apart = λ a b m n has has' same. alone a b m n (which a m has) (which b n has') same;
  }
    where
      made : (slot : Slot) (m : Group) → ((slot ≡ of_link place) × (g ≡ m)) ⊎ HasGroup s slot m → IsMade (e ∷ es) m
      made slot m (inl (here, same)) = subst (IsMade (e ∷ es)) same made_here
      made slot m (inr old) = made_stays es (e ∷ es) m names (h.store.groups.made slot m old)

      link_made : (k : ℕ) (m : Group) → ((k ≡ place) × (g ≡ m)) ⊎ ((k ≢ place) × (slice_get s.links k ≡ Some m)) →
          IsMade (e ∷ es) m
      link_made k m (inl (here, same)) = subst (IsMade (e ∷ es)) same made_here
      link_made k m (inr (apart, old)) = made_stays es (e ∷ es) m names (h.store.groups.links k m old)

      fresh : (slot : Slot) (m : Group) → HasGroup s slot m → group_variable m ≡ group_variable g → ⊥
      fresh slot m has same =
          let there = (h.store.groups.made slot m has).named in
          let gone : name_of es (group_variable m) ≡ None = ap (name_of es) same ∙ unnamed in
          cc

      alone : (a b : Slot) (m n : Group) → ((a ≡ of_link place) × (g ≡ m)) ⊎ HasGroup s a m →
          ((b ≡ of_link place) × (g ≡ n)) ⊎ HasGroup s b n → group_variable m ≡ group_variable n → a ≡ b
      alone a b m n (inl (here, same)) (inl (here', same')) is = here ∙ sym here'
      alone a b m n (inl (here, same)) (inr old) is = absurd (fresh b n old (sym is ∙ sym (ap group_variable same)))
      alone a b m n (inr old) (inl (here, same)) is = absurd (fresh a m old (is ∙ sym (ap group_variable same)))
      alone a b m n (inr old) (inr old') is = h.store.groups.apart a b m n old old' is

  new_groups : AreNewGroups s linked es
  new_groups slot m has = by (which slot m has)
    where
      by : ((slot ≡ of_link place) × (g ≡ m)) ⊎ HasGroup s slot m →
          HasGroup s slot m ⊎ (name_of es (group_variable m) ≡ None)
      by (inl (here, same)) = inr (ap (λ (x : Group). name_of es (group_variable x)) (sym same) ∙ unnamed)
      by (inr old) = inl old

  old_or_new : AreOldOrNew s linked es
  old_or_new n has = by (Contains-append_cases (both_groups s.frames) (map group_variable links) n has)
    where
      in_links : (group_variable g ≡ n) ⊎ Contains (map group_variable s.links) n →
          Contains (store_groups s) n ⊎ (name_of es n ≡ None)
      in_links (inl same) = inr (ap (name_of es) (sym same) ∙ unnamed)
      in_links (inr old) = inl (Contains-append_right (both_groups s.frames) (map group_variable s.links) n old)

      by : Contains (both_groups s.frames) n ⊎ Contains (map group_variable links) n →
          Contains (store_groups s) n ⊎ (name_of es n ≡ None)
      by (inl frame) = inl (Contains-append_left (both_groups s.frames) (map group_variable s.links) n frame)
      by (inr link) = in_links (set_number s.links place g n link)

  linked_store : IsPartialStore all numbered linked (e ∷ es)
  linked_store = raised_store s place 3 s.first s.second links within third kept_links all numbered
      e es h.store logged names new_groups (refl, refl) (refl, refl)
      (length-set s.links place g ∙ h.store.places.links) parts groups tt

  pub linked_following : (new : ProofLog) → new ≡ with_entry log e → IsFollowing all numbered s log linked new
  linked_following new is = following_entry all numbered s linked log new e is
      (record { unnamed = unnamed; own = inl refl; rightly = tt }) refl refl refl old_or_new linked_store
      (raised_grown s place 3 s.first s.second links within third kept_links) (λ k flag. flag)
