-- A frame of a store gets its groups.
use Rattle.std.proofs.Common.{◌≡◌, ◌≢◌, ℕ, zero, suc, false, cond, ◌⊎◌, inl, inr, List, [], ◌∷◌, map, length, set, slice_get, Option, Some, None, refl, sym, ◌∙◌, ap, subst, arith}
use Rattle.std.specs.List.{Contains}
use Rattle.std.proofs.lemmas.Bool.{eq-eqb}
use Rattle.std.proofs.lemmas.List.Elements.{Contains-append_cases, Contains-append_left, Contains-append_right}
use Rattle.list_laws.proofs.Members.{contains_later}
use Rattle.dq_lits.specs.Literal.{is_negative}
use Rattle.dq_lits.specs.Formula.{Dqbf}
use Rattle.hint_log.specs.Conditions.{AreLogged}
use Rattle.hint_log.specs.Entries.{Entry, Named, ProofLog, with_entry, name_of}
use Rattle.hint_log.specs.ProductiveSession.{frame_of}
use Rattle.hint_log.specs.declared.names.Name.TheVariants.{Selector}
use Rattle.hint_log.proofs.NamedEntries.{unnamed_before}
use Rattle.log_laws.proofs.Kept.{NamesStay, name_stays_by}
use Rattle.log_laws.proofs.LargerLogs.{grown_by, grown_then}
use Rattle.oracle.specs.Calls.{IsMade}
use Rattle.oracle.specs.declared.groups.Group.{Group}
use Rattle.definability.specs.Copies.{group_variable}
use Rattle.definability.specs.Following.{AreOldOrNew, IsFollowing, IsCopyAdded}
use Rattle.definability.specs.Store.{StoreState, HasGroup, side_group, Slot, of_frame, of_link, both_groups, store_groups, IsPartialStore}
use Rattle.definability.specs.declared.frames.Sides.{Sides}
use Rattle.definability.proofs.PreservedStores.{IsGrown, AreNewGroups, entries_kept, AreKept, given_stays, groups_stay, parts_stay, store_stands}
use Rattle.definability.proofs.StoreSteps.{set_cases, set_there, following_entry}

-- a group that is made for nothing
pub following_group : (all : Dqbf) (numbered : List ℕ) (s : StoreState) (log new : ProofLog) (g : ℕ) →
    IsPartialStore all numbered s log.entries → name_of log.entries g ≡ None →
    new ≡ with_entry log (Named g (Selector g)) → IsFollowing all numbered s log s new
following_group all numbered s log new g store unnamed is =
    following_entry all numbered s s log new (Named g (Selector g)) is
    (record { unnamed = unnamed; own = inl refl; rightly = tt }) refl refl refl (λ n has. inl has)
    (store_stands (length all.universals) all numbered s (Named g (Selector g)) log.entries
    (name_stays_by log.entries g (Selector g) unnamed) tt store) (record {
      kept_groups = λ slot h has. has;
      more_given = λ side j has. has;
      more_parts = λ k. omega arith;
      kept_links = λ k h low there. there;
    }) (λ k flag. flag)

pub side_cases : (side : ℕ) (sides : Sides) (g : Group) → side_group side sides ≡ Some g →
    ((side ≡ 1) × (sides.first ≡ g)) ⊎ ((side ≡ 2) × (sides.second ≡ g))
side_cases zero sides g is = cc
side_cases (suc zero) sides g is = inl (refl, cc)
side_cases (suc (suc zero)) sides g is = inr (refl, cc)
side_cases (suc (suc (suc side))) sides g is = cc

-- numbers of groups where a frame gets its own
set_both : (frames : List (Option Sides)) (F : ℕ) (sides : Sides) (n : ℕ) → slice_get frames F ≡ Some None →
    Contains (both_groups (set frames F (Some sides))) n →
    ((group_variable sides.first ≡ n) ⊎ (group_variable sides.second ≡ n)) ⊎ Contains (both_groups frames) n
set_both [] F sides n is has = cc
set_both (Some x ∷ frames) zero sides n is has = cc
set_both (None ∷ frames) zero sides n is (zero, below, at) = inl (inl at)
set_both (None ∷ frames) zero sides n is (suc zero, below, at) = inl (inr at)
set_both (None ∷ frames) zero sides n is (suc (suc k), below, at) = inr (k, omega (arith, below), at)
set_both (None ∷ frames) (suc F) sides n is has = set_both frames F sides n is has
set_both (Some x ∷ frames) (suc F) sides n is (zero, below, at) = inr (0, omega arith, at)
set_both (Some x ∷ frames) (suc F) sides n is (suc zero, below, at) = inr (1, omega arith, at)
set_both (Some x ∷ frames) (suc F) sides n is (suc (suc k), below, at) =
    by (set_both frames F sides n is (k, omega (arith, below), at))
  where
    by : ((group_variable sides.first ≡ n) ⊎ (group_variable sides.second ≡ n)) ⊎ Contains (both_groups frames) n →
        ((group_variable sides.first ≡ n) ⊎ (group_variable sides.second ≡ n))
        ⊎ Contains (group_variable x.first ∷ group_variable x.second ∷ both_groups frames) n
    by (inl new) = inl new
    by (inr (i, less, there)) = inr (suc (suc i), omega (arith, less), there)

both_kept : (frames : List (Option Sides)) (F : ℕ) (sides : Sides) (n : ℕ) → slice_get frames F ≡ Some None →
    Contains (both_groups frames) n → Contains (both_groups (set frames F (Some sides))) n
both_kept [] F sides n is has = cc
both_kept (Some x ∷ frames) zero sides n is has = cc
both_kept (None ∷ frames) zero sides n is (k, below, at) = (suc (suc k), omega (arith, below), at)
both_kept (None ∷ frames) (suc F) sides n is has = both_kept frames F sides n is has
both_kept (Some x ∷ frames) (suc F) sides n is (zero, below, at) = (0, omega arith, at)
both_kept (Some x ∷ frames) (suc F) sides n is (suc zero, below, at) = (1, omega arith, at)
both_kept (Some x ∷ frames) (suc F) sides n is (suc (suc k), below, at) =
    let r = both_kept frames F sides n is (k, omega (arith, below), at) in
    let less = r.1 in
    (suc (suc r.0), omega (arith, less), r.2)

module _ (all : Dqbf) (numbered : List ℕ) (s : StoreState) (log middle : ProofLog)
    (store : IsPartialStore all numbered s log.entries) (logged : AreLogged log.entries) (F : ℕ)
    (free : slice_get s.frames F ≡ Some None) (sides : Sides) (first_plain : is_negative sides.first.selector ≡ false)
    (second_plain : is_negative sides.second.selector ≡ false)
    (first_unnamed : name_of log.entries (group_variable sides.first) ≡ None)
    (middle_is : middle ≡ with_entry log
    (Named (group_variable sides.first) (Selector (group_variable sides.first))))
    (second_unnamed : name_of middle.entries (group_variable sides.second) ≡ None) where
  abbrev pub opened : StoreState
  opened = record s { frames = set s.frames F (Some sides) }

  abbrev a : ℕ
  a = group_variable sides.first

  abbrev b : ℕ
  b = group_variable sides.second

  abbrev es : List Entry
  es = log.entries

  abbrev one : Entry
  one = Named (group_variable sides.first) (Selector (group_variable sides.first))

  abbrev two : Entry
  two = Named (group_variable sides.second) (Selector (group_variable sides.second))

  abbrev after : List Entry
  after = two ∷ (one ∷ es)

  middle_entries : middle.entries ≡ one ∷ es
  middle_entries = ap (λ (l : ProofLog). l.entries) middle_is

  b_fresh : name_of (one ∷ es) b ≡ None
  b_fresh = ap (λ xs. name_of xs b) (sym middle_entries) ∙ second_unnamed

  b_unnamed : name_of es b ≡ None
  b_unnamed = unnamed_before one es b b_fresh

  first_names : NamesStay es (one ∷ es)
  first_names = name_stays_by es a (Selector a) first_unnamed

  second_names : NamesStay (one ∷ es) after
  second_names = name_stays_by (one ∷ es) b (Selector b) b_fresh

  names : NamesStay es after
  names v n is = second_names v n (first_names v n is)

  kept : AreKept es after
  kept = record { names = names; contains = λ e inside. contains_later two e (one ∷ es) (contains_later one e es inside) }

  a_named : name_of (one ∷ es) a ≡ Some (Selector a)
  a_named = ap (λ t. cond t (Some (Selector a)) (name_of es a)) (eq-eqb a a refl)

  first_made : IsMade after sides.first
  first_made = record { positive = first_plain; named = second_names a (Selector a) a_named }

  second_made : IsMade after sides.second
  second_made = search (arith, eq-eqb)

  abbrev IsNewAt : Slot → Group → Type 0
  IsNewAt slot g = (side : ℕ) × (slot ≡ of_frame side F) × (side_group side sides ≡ Some g)

  which : (slot : Slot) (g : Group) → HasGroup opened slot g → IsNewAt slot g ⊎ HasGroup s slot g
  which (of_frame side G) g (x, x_is, g_is) = by (set_cases s.frames F G (Some sides) (Some x) x_is)
    where
      by : ((G ≡ F) × (Some sides ≡ Some x)) ⊎ ((G ≢ F) × (slice_get s.frames G ≡ Some (Some x))) →
          IsNewAt (of_frame side G) g ⊎ HasGroup s (of_frame side G) g
      by (inl (here, same)) =
          let x_same : sides ≡ x = cc in
          inl (side, ap (of_frame side) here, ap (side_group side) x_same ∙ g_is)
      by (inr (apart, old)) = inr (x, old, g_is)
  which (of_link k) g has = inr has

  kept_group : (slot : Slot) (g : Group) → HasGroup s slot g → HasGroup opened slot g
  kept_group (of_frame side G) g (x, x_is, g_is) = search (arith, set_there)
  kept_group (of_link k) g has = has

  grown : IsGrown s opened
  grown = record {
    kept_groups = kept_group;
    more_given = λ side j has. has;
    more_parts = λ k. omega arith;
    kept_links = λ k g low is. is;
  }

  new_unnamed : (g : Group) (side : ℕ) → side_group side sides ≡ Some g → name_of es (group_variable g) ≡ None
  new_unnamed g side is = search (arith, side_cases, b_unnamed)

  new_groups : AreNewGroups s opened es
  new_groups slot g has = elim (which slot g has)
      [ inl new ↦ inr (new_unnamed g new.0 new.2) | inr old ↦ inl old ]

  new_made : (g : Group) (side : ℕ) → side_group side sides ≡ Some g → IsMade after g
  new_made g side is = search (arith, side_cases, first_made, second_made)

  a_not_b : a ≢ b
  a_not_b same = search (arith, b_fresh, a_named)

  one_side : (side side' : ℕ) (g h : Group) → side_group side sides ≡ Some g → side_group side' sides ≡ Some h →
      group_variable g ≡ group_variable h → side ≡ side'
  one_side side side' g h is is' same = search (arith, side_cases, a_not_b)

  fresh : (slot : Slot) (g h : Group) (side : ℕ) → HasGroup s slot g → side_group side sides ≡ Some h →
      group_variable g ≡ group_variable h → ⊥
  fresh slot g h side has is same =
      let there = (store.groups.made slot g has).named in
      let gone : name_of es (group_variable g) ≡ None = ap (name_of es) same ∙ new_unnamed h side is in
      cc

  alone : (x y : Slot) (g h : Group) → IsNewAt x g ⊎ HasGroup s x g → IsNewAt y h ⊎ HasGroup s y h →
      group_variable g ≡ group_variable h → x ≡ y
  alone x y g h (inl (side, x_is, g_is)) (inl (side', y_is, h_is)) same =
      x_is ∙ ap (λ n. of_frame n F) (one_side side side' g h g_is h_is same) ∙ sym y_is
  alone x y g h (inl (side, x_is, g_is)) (inr old) same = absurd (fresh y h g side old g_is (sym same))
  alone x y g h (inr old) (inl (side, y_is, h_is)) same = absurd (fresh x g h side old h_is same)
  alone x y g h (inr old) (inr old') same = store.groups.apart x y g h old old' same

  old_or_new : AreOldOrNew s opened es
  old_or_new n has =
      by (Contains-append_cases (both_groups (set s.frames F (Some sides))) (map group_variable s.links) n has)
    where
      in_frames : ((a ≡ n) ⊎ (b ≡ n)) ⊎ Contains (both_groups s.frames) n →
          Contains (store_groups s) n ⊎ (name_of es n ≡ None)
      in_frames (inl (inl same)) = inr (ap (name_of es) (sym same) ∙ first_unnamed)
      in_frames (inl (inr same)) = inr (ap (name_of es) (sym same) ∙ b_unnamed)
      in_frames (inr old) = inl (Contains-append_left (both_groups s.frames) (map group_variable s.links) n old)

      by : Contains (both_groups (set s.frames F (Some sides))) n ⊎ Contains (map group_variable s.links) n →
          Contains (store_groups s) n ⊎ (name_of es n ≡ None)
      by (inl frame) = in_frames (set_both s.frames F sides n free frame)
      by (inr link) = inl (Contains-append_right (both_groups s.frames) (map group_variable s.links) n link)

  opened_store : IsPartialStore all numbered opened after
  opened_store =
      let groups = groups_stay all numbered s es after kept store.groups in
      record {
        places = store.places;
        whole = store.whole;
        parts = parts_stay all numbered s es after kept store.parts;
        groups = record {
          made = λ slot g has. elim (which slot g has)
              [ inl new ↦ new_made g new.0 new.2 | inr old ↦ groups.made slot g old ];
          links = groups.links;
          apart = λ x y g h has has' same. alone x y g h (which x g has) (which y h has') same;
        };
        givens = λ side j low has.
            let there = given_stays all numbered s es after kept side j (store.givens side j low has) in
            record {
              clause = there.clause;
              clause_is = there.clause_is;
              covered = there.covered;
              group = there.group;
              has_group = kept_group (of_frame side (frame_of numbered j)) there.group there.has_group;
              given = there.given;
            };
        own = (tt, (tt, entries_kept all numbered s opened grown es new_groups logged store.own));
        active = λ g has. both_kept s.frames F sides (group_variable g) free (store.active g has);
      }

  pub opened_following : (new : ProofLog) → new ≡ with_entry middle two → IsFollowing all numbered s log opened new
  opened_following new is =
      let P : List Entry → Entry → Type 0 = IsCopyAdded all (store_groups s) es in
      let entries : new.entries ≡ after = ap (λ (l : ProofLog). l.entries) is ∙ ap (λ xs. two ∷ xs) middle_entries in
      subst (λ (l : ProofLog). IsFollowing all numbered s log opened l)
      (sym (is ∙ ap (λ l. with_entry l two) middle_is)) (record {
        grew = grown_then P log (with_entry log one) (with_entry (with_entry log one) two)
            (grown_by P log (with_entry log one) one refl
            ((record { unnamed = first_unnamed; own = inl refl; rightly = tt }), refl))
            (grown_by P (with_entry log one) (with_entry (with_entry log one) two) two refl
            ((record { unnamed = b_fresh; own = inl refl; rightly = tt }), refl));
        new_groups = old_or_new;
        names = λ v none. unnamed_before one es v (unnamed_before two (one ∷ es) v none);
        faults = refl;
        room = refl;
        store = opened_store;
        given = λ side j has. has;
        parts = λ k. omega arith;
        copied = λ k flag. flag;
      })
