-- A store stands where other groups are made the active ones.
use Rattle.std.proofs.Common.{◌≡◌, ℕ, zero, suc, ◌≤◌, inl, inr, List, [], ◌∷◌, ◌++◌, map, length, slice_get, refl, sym, ◌∙◌, ap, subst, arith, ◌+◌, ◌<◌, ◌⊎◌, slice_index_or, Some}
use Rattle.std.specs.List.{Contains}
use Rattle.std.proofs.lemmas.List.Elements.{All-contains, Contains-append_cases, Contains-append_left, Contains-append_right}
use Rattle.dq_lits.specs.Formula.{Dqbf, declared}
use Rattle.hint_log.specs.Entries.{Entry, ProofLog}
use Rattle.hint_log.specs.ProductiveSession.{frame_of}
use Rattle.oracle.specs.declared.groups.Group.{Group}
use Rattle.definability.specs.Copies.{IsDefinability, group_variable}
use Rattle.definability.specs.Following.{AreActiveGroups, AreGiven, AreOpen, IsLiveFormula, AreActiveSoFar, IsFollowing}
use Rattle.definability.specs.Store.{StoreState, store_of, HasGiven, both_groups, IsStore, HasGroup, of_frame, IsStoreTo}
use Rattle.definability.specs.declared.definability.Definability.{Definability}
use Rattle.definability.proofs.ReadyCopies.{ready}
use Rattle.definability.proofs.PreservedStores.{side_number}
use Rattle.std.proofs.lemmas.Bool.{cases_lt}
use Rattle.std.proofs.lemmas.Option.{slice_get-get_or}
use Rattle.list_laws.proofs.Members.{element_at}
use Rattle.definability.specs.declared.frames.Sides.{Sides}

-- a live frame has groups once its clauses were given
live_frame : (h : ℕ → ℕ) (live : List ℕ) (F : ℕ) → Contains (map h live) F → (j : ℕ) × Contains live j × (h j ≡ F)
live_frame h [] F inside = let below = inside.1 in absurd (omega (arith, below))
live_frame h (j ∷ live) F (zero, below, at) = (j, (0, omega arith, refl), at)
live_frame h (j ∷ live) F (suc k, below, at) =
    let r = live_frame h live F (k, omega (arith, below), at) in
    let less = r.1.1 in
    (r.0, (suc r.1.0, omega (arith, less), r.1.2), r.2)

pub open_live : (all : Dqbf) (numbered : List ℕ) (f : Dqbf) (live frames : List ℕ) (s : StoreState) (es : List Entry) →
    IsStore all numbered s es → IsLiveFormula all numbered f live frames → AreGiven s live → AreOpen s frames
open_live all numbered f live frames s es store now given F among =
    let there = live_frame (frame_of numbered) live F (subst (λ fs. Contains fs F) now.frames_are among) in
    let j = there.0 in
    let low = All-contains (λ n. (1 ≤ n) × (n ≤ length all.matrix)) live j now.numbers.numbers there.1 in
    let h = store.givens 2 j low.0 (All-contains (HasGiven s 2) live j given there.1) in
    (h.has_group.0, ap (slice_get s.frames) (sym there.2) ∙ h.has_group.1)

abbrev pub IsActivated : Definability → Definability → Type 0
IsActivated p q = q ≡ record p {
  first = record p.first { groups = q.first.groups };
  second = record p.second { groups = q.second.groups };
}

module _ (all : Dqbf) (numbered : List ℕ) (frames : List ℕ) (p q : Definability) (same : IsActivated p q)
    (first : AreActiveGroups (store_of p) 1 frames q.first.groups.items)
    (second : AreActiveGroups (store_of p) 2 frames q.second.groups.items) where
  abbrev r : Definability
  r = record p {
    first = record p.first { groups = q.first.groups };
    second = record p.second { groups = q.second.groups };
  }

  found : (side : ℕ) (groups : List Group) → AreActiveGroups (store_of p) side frames groups → (g : Group) →
      Contains groups g → Contains (both_groups p.frames.items) (group_variable g)
  found side groups active g has =
      let there = active.sound g has in
      let group = there.2 in
      side_number (store_of p) side there.0 group.0 g group.1 group.2

  changed : (count : ℕ) (es : List Entry) → IsStoreTo count all numbered (store_of p) es →
      IsStoreTo count all numbered (store_of r) es
  changed count es store = record {
    places = store.places;
    whole = store.whole;
    parts = store.parts;
    groups = store.groups;
    givens = store.givens;
    own = store.own;
    active = λ g has. elim (Contains-append_cases q.first.groups.items q.second.groups.items g has) [
      | inl one ↦ found 1 q.first.groups.items first g one
      | inr two ↦ found 2 q.second.groups.items second g two
    ];
  }

  pub activated : (es : List Entry) → IsStore all numbered (store_of p) es → IsStore all numbered (store_of q) es
  activated es store = subst (λ (x : Definability). IsStore all numbered (store_of x) es) (sym same)
      (changed (length (declared all)) es store)

  pub activated_following : (s : StoreState) (old new : ProofLog) →
      IsFollowing all numbered s old (store_of p) new → IsFollowing all numbered s old (store_of q) new
  activated_following s old new x = subst (λ (y : Definability). IsFollowing all numbered s old (store_of y) new) (sym same)
      (record {
        grew = x.grew;
        new_groups = x.new_groups;
        names = x.names;
        faults = x.faults;
        room = x.room;
        store = changed (length all.universals) new.entries x.store;
        given = x.given;
        parts = x.parts;
        copied = x.copied;
      })

  pub activated_given : (live : List ℕ) → AreGiven (store_of p) live → AreGiven (store_of q) live
  activated_given live given = subst (λ (x : Definability). AreGiven (store_of x) live) (sym same) given

  pub activated_ready : (f : Dqbf) (live : List ℕ) (es : List Entry) → IsStore all numbered (store_of p) es →
      IsLiveFormula all numbered f live frames → AreGiven (store_of p) live → IsDefinability f q es
  activated_ready f live es store now given = subst (λ (x : Definability). IsDefinability f x es) (sym same)
      (ready all numbered f live frames r es (changed (length (declared all)) es store) now given first second)

module _ (s : StoreState) (side : ℕ) (frames : List ℕ) where
  pub active_none : (groups : List Group) → groups ≡ [] → AreActiveSoFar s side frames 0 groups
  active_none groups none = search arith

  pub active_more : (i : ℕ) (groups new : List Group) (g : Group) → i < length frames →
      HasGroup s (of_frame side (slice_index_or frames i 0)) g → new ≡ groups ++ g ∷ [] →
      AreActiveSoFar s side frames i groups → AreActiveSoFar s side frames (i + 1) new
  active_more i groups new g below has is h = subst (AreActiveSoFar s side frames (i + 1)) (sym is) (record {
    sound = λ m among. sound m (Contains-append_cases groups (g ∷ []) m among);
    complete = λ k F less k_is. by k F less k_is (cases_lt k i);
  })
    where
      at_place : slice_get frames i ≡ Some (slice_index_or frames i 0)
      at_place = slice_get-get_or frames i 0 below

      only : (m : Group) → Contains (g ∷ []) m → g ≡ m
      only m (zero, lt, at) = at
      only m (suc k, lt, at) = absurd (omega (arith, lt))

      sound : (m : Group) → Contains groups m ⊎ Contains (g ∷ []) m →
          (F : ℕ) × Contains frames F × HasGroup s (of_frame side F) m
      sound m (inl old) = h.sound m old
      sound m (inr last) = (
        slice_index_or frames i 0,
        element_at frames i (slice_index_or frames i 0) at_place,
        subst (HasGroup s (of_frame side (slice_index_or frames i 0))) (only m last) has,
      )

      by : (k F : ℕ) → k < i + 1 → slice_get frames k ≡ Some F → (k < i) ⊎ (i ≤ k) →
          (m : Group) × HasGroup s (of_frame side F) m × Contains (groups ++ g ∷ []) m
      by k F less k_is (inl earlier) =
          let there = h.complete k F earlier k_is in
          (there.0, there.1, Contains-append_left groups (g ∷ []) there.0 there.2)
      by k F less k_is (inr late) =
          let same : k ≡ i = omega (arith, less, late) in
          let both : Some F ≡ Some (slice_index_or frames i 0) =
          sym k_is ∙ ap (slice_get frames) same ∙ at_place in
          let F_is : slice_index_or frames i 0 ≡ F = cc in (
            g,
            subst (λ n. HasGroup s (of_frame side n) g) F_is has,
            Contains-append_right groups (g ∷ []) g (0, omega arith, refl),
          )

  pub active_all : (i : ℕ) (groups : List Group) → length frames ≤ i → AreActiveSoFar s side frames i groups →
      AreActiveGroups s side frames groups
  active_all i groups past h = search (arith, slice_get-get_or)

  pub open_at : (i : ℕ) → i < length frames → AreOpen s frames →
      (sides : Sides) × (slice_get s.frames (slice_index_or frames i 0) ≡ Some (Some sides))
  open_at i below opened = opened (slice_index_or frames i 0)
      (element_at frames i (slice_index_or frames i 0) (slice_get-get_or frames i 0 below))
