-- A store whose groups of some frames are active has the copies of the formula of these frames'
-- clauses.
use Rattle.std.proofs.Common.{◌≡◌, ℕ, zero, suc, ◌≤◌, true, List, [], ◌∷◌, length, get_or, slice_get, Some, refl, sym, ◌∙◌, ap, subst, arith, ◌+◌, false}
use Rattle.std.specs.List.{All, Contains}
use Rattle.std.proofs.lemmas.Bool.{eq-eqb}
use Rattle.std.proofs.lemmas.List.Elements.{All-contains}
use Rattle.std.proofs.lemmas.Option.{slice_get-get_or, slice_get_within}
use Rattle.list_laws.proofs.Members.{contains-filter_map, filter_map-from, contains_mapped}
use Rattle.dq_lits.specs.Literal.{Literal, variable_of}
use Rattle.dq_lits.specs.Formula.{Dqbf, declared, Existential}
use Rattle.hint_log.specs.Entries.{Entry, Given}
use Rattle.hint_log.specs.Growth.{Each}
use Rattle.hint_log.specs.Live.{formula_of, with_matrix}
use Rattle.hint_log.specs.Naming.{AreNamedAs, numbered_from_one, named_literal, name_literal}
use Rattle.hint_log.specs.ProductiveSession.{frame_of}
use Rattle.hint_log.specs.declared.origins.Origin.TheVariants.{Copy, Link}
use Rattle.hint_log.proofs.NamedEntries.{numbered_low}
use Rattle.oracle.specs.declared.groups.Group.{Group}
use Rattle.definability.specs.Copies.{IsCopied, IsCopiedIn, IsGroupGiven, IsSideGiven, IsLink, IsMatrixCopy, IsDefinability, copy_names, group_variable, is_copied_at, is_link_of, copies_of}
use Rattle.dq_formula.specs.Prefix.{existential_variables}
use Rattle.definability.specs.Following.{AreActiveGroups, AreGiven, IsLiveFormula}
use Rattle.definability.specs.Store.{StoreState, store_of, HasGiven, HasGroup, of_frame, of_link, IsStoreEntry, IsGivenThere, IsStore, parts_at, side_copies}
use Rattle.definability.specs.declared.copies.MatrixCopy.{MatrixCopy}
use Rattle.definability.specs.declared.definability.Definability.{Definability}
use Rattle.definability.proofs.GroupedCopies.{one_group}
use Rattle.list_laws.proofs.Elements.{kept_there}
use Rattle.definability.proofs.CopiedVariables.{by_places}
use Rattle.std.proofs.lemmas.List.{length-map}
use Rattle.definability.proofs.KeptPlaces.{flag_past}
use Rattle.definability.proofs.DeclaredPlaces.{at_second}
use Rattle.hint_log.specs.declared.names.Name.TheVariants.{Copy as CopyOf}
use Rattle.log_laws.proofs.Kept.{in_one_group}

-- the clauses of these frames, each of which was given on both sides
pub record AreLiveClauses (all : Dqbf) (numbered : List ℕ) (s : StoreState) (frames : List ℕ)
    (matrix : List (List Literal)) : Type 0 where
  pub given : (clause : List Literal) → Contains matrix clause →
      (j : ℕ) × (numbered_from_one all.matrix j ≡ Some clause) × HasGiven s 2 j × Contains frames (frame_of numbered j)
  pub all_given : (j : ℕ) (clause : List Literal) → numbered_from_one all.matrix j ≡ Some clause →
      Contains frames (frame_of numbered j) → Contains matrix clause

module _ (all : Dqbf) (numbered : List ℕ) (frames : List ℕ) (matrix : List (List Literal)) (s : StoreState)
    (es : List Entry) (store : IsStore all numbered s es) (now : AreLiveClauses all numbered s frames matrix) where
  abbrev f : Dqbf
  f = with_matrix all matrix

  -- the copy of a live clause
  live_given : (side : ℕ) → 1 ≤ side → side ≤ 2 → (clause : List Literal) → Contains f.matrix clause →
      (j : ℕ) × (numbered_from_one all.matrix j ≡ Some clause) × Contains frames (frame_of numbered j) ×
      IsGivenThere all numbered s es side j
  live_given side one two clause inside =
      let there = now.given clause inside in
      let j = there.0 in
      let both = there.2.within in
      let low = numbered_low all.matrix j clause there.1 in
      (j, there.1, there.3, store.givens side j low.0 (record { from_one = one; within = omega (arith, two, both) }))

  covered : (clause : List Literal) → Contains f.matrix clause → All (λ l. IsCopied f s.copied (variable_of l)) clause
  covered clause inside =
      let there = live_given 1 (omega arith) (omega arith) clause inside in
      let h = there.3 in
      let both : Some h.clause ≡ Some clause = sym h.clause_is ∙ there.1 in
      let same : h.clause ≡ clause = cc in
      subst (λ c. All (λ l. IsCopied all s.copied (variable_of l)) c) same h.covered

  slot_side : (side F side' F' : ℕ) → of_frame side F ≡ of_frame side' F' → (side ≡ side') × (F ≡ F')
  slot_side side F side' F' same = (cc, cc)

  no_link : (side F k : ℕ) → of_link k ≡ of_frame side F → ⊥
  no_link side F k same = cc

  copy_entry : (side F : ℕ) (g : Group) → Contains frames F → HasGroup s (of_frame side F) g → (earlier : List Entry)
      (e : Entry) → IsStoreEntry all numbered s earlier e → IsSideGiven f side (group_variable g) earlier e
  copy_entry side F g among has earlier (Given (Copy m j) c) h = λ inside.
      let same = slot_side m (frame_of numbered j) side F (store.groups.apart (of_frame m (frame_of numbered j))
      (of_frame side F) h.group g h.has_group has
      (in_one_group (group_variable h.group) (group_variable g) c h.in_group inside)) in
      let r = h.right.rest_is.1 in (
        eq-eqb m side same.0,
        record {
          group = h.right.group;
          rest = h.right.rest;
          original = r.clause;
          is_group = h.right.is_group;
          clause_is = h.right.clause_is;
          original_is = now.all_given j r.clause r.clause_is (subst (Contains frames) (sym same.1) among);
          copied = subst (λ n. AreNamedAs earlier h.right.rest (copy_names n r.clause)) same.0 r.named;
        },
      )
  copy_entry side F g among has earlier (Given (Link x i) c) h = λ inside.
      let done = h.done in
      absurd (no_link side F h.place (store.groups.apart (of_link h.place) (of_frame side F) h.group g
      (omega (arith, done), h.group_is) has
      (in_one_group (group_variable h.group) (group_variable g) c h.in_group inside)))
  copy_entry side F g among has earlier (Given _ c) h = λ inside. absurd (h (of_frame side F) g has inside)
  copy_entry side F g among has earlier _ h = tt

  copy_entries : (side F : ℕ) (g : Group) → Contains frames F → HasGroup s (of_frame side F) g → (xs : List Entry) →
      Each (IsStoreEntry all numbered s) xs → Each (IsSideGiven f side (group_variable g)) xs
  copy_entries side F g among has [] h = tt
  copy_entries side F g among has (e ∷ xs) h = search (arith, copy_entry, (copy_entries side F g among has xs h.1))

  flag_parts : (k x : ℕ) → slice_get (declared all) k ≡ Some x → is_copied_at s.copied k ≡ true → 5 ≤ parts_at s k
  flag_parts k x x_is flag = store.whole k (slice_get_within (declared all) k x x_is) flag

  pub ready_side : (side : ℕ) → 1 ≤ side → side ≤ 2 → (copy : MatrixCopy) → copies_of copy ≡ side_copies s side →
      length copy.universals.items ≡ length all.universals → length copy.existentials.items ≡ length all.existentials →
      AreActiveGroups s side frames copy.groups.items → IsMatrixCopy f side s.copied copy es
  ready_side side one two copy copies_are long long_existentials active = record {
    made = λ k d below. (
        let there = active.sound (get_or copy.groups.items k d) (k, below, get_or_same copy.groups.items k d) in
        store.groups.made (of_frame side there.0) (get_or copy.groups.items k d) there.2);
    universals = record {
      long = long;
      named = λ k v l flag v_is l_is.
          named k v l flag (kept_there all.universals (existential_variables all) k v v_is)
          (kept_there copy.universals.items copy.existentials.items k l l_is);
    };
    existentials = by_places es side (existential_variables all) copy.existentials.items
        (long_existentials ∙ sym (length-map all.existentials (λ (y : Existential). y.variable)))
        (λ k v l v_is l_is.
        named (length all.universals + k) v l
        (flag_past s.copied (length all.universals + k) (let flags = store.places.flags in omega (arith, flags)))
        (at_second all.universals (existential_variables all) k v v_is)
        (subst (λ n. slice_get (copies_of copy) (n + k) ≡ Some l) long
        (at_second copy.universals.items copy.existentials.items k l l_is)));
    own = λ g among.
        let there = active.sound g among in
        copy_entries side there.0 g there.1 there.2 es store.own;
    whole = λ clause inside.
        let there = live_given side one two clause inside in
        let h = there.3 in
        let F = frame_of numbered there.0 in
        let active_there = active.complete F there.2 in
        let both : Some h.clause ≡ Some clause = sym h.clause_is ∙ there.1 in
        let same : h.clause ≡ clause = cc in
        let group_same : h.group ≡ active_there.0 =
        one_group s (of_frame side F) h.group active_there.0 h.has_group active_there.1 in
        subst (IsCopiedIn es copy.groups.items side) same (record {
          group = h.group;
          among = subst (Contains copy.groups.items) (sym group_same) active_there.2;
          origin = Copy side there.0;
          given = h.given;
        });
  }
    where
      named : (k v : ℕ) (l : Literal) → is_copied_at s.copied k ≡ true → slice_get (declared all) k ≡ Some v →
          slice_get (copies_of copy) k ≡ Some l → name_literal es l ≡ Some (named_literal (CopyOf side v) false)
      named k v l flag v_is l_is =
          let low = flag_parts k v v_is flag in
          let few = two in
          store.parts.copies side k v l (omega (arith, low, few)) v_is
          (ap (λ ls. slice_get ls k) (sym copies_are) ∙ l_is)

      get_or_same : (gs : List Group) (k : ℕ) (d : Group) → get_or gs k (get_or gs k d) ≡ get_or gs k d
      get_or_same [] k d = refl
      get_or_same (g ∷ gs) zero d = refl
      get_or_same (g ∷ gs) (suc k) d = get_or_same gs k d

  link_place : (k k' : ℕ) → of_link k ≡ of_link k' → k ≡ k'
  link_place k k' same = cc

  link_entry : (k x : ℕ) (g : Group) → slice_get (declared all) k ≡ Some x → HasGroup s (of_link k) g →
      (earlier : List Entry) (e : Entry) → IsStoreEntry all numbered s earlier e →
      IsGroupGiven f (is_link_of x) (group_variable g) earlier e
  link_entry k x g x_is has earlier (Given (Copy m j) c) h = λ inside.
      absurd (no_link m (frame_of numbered j) k (sym (store.groups.apart (of_frame m (frame_of numbered j)) (of_link k)
      h.group g h.has_group has (in_one_group (group_variable h.group) (group_variable g) c h.in_group inside))))
  link_entry k x g x_is has earlier (Given (Link y i) c) h = λ inside.
      let done = h.done in
      let same = link_place h.place k (store.groups.apart (of_link h.place) (of_link k) h.group g
      (omega (arith, done), h.group_is) has
      (in_one_group (group_variable h.group) (group_variable g) c h.in_group inside)) in
      let both : Some y ≡ Some x = sym h.variable_is ∙ ap (slice_get (declared all)) same ∙ x_is in
      let y_is : y ≡ x = cc in (
        eq-eqb y x y_is,
        record {
          group = h.right.group;
          rest = h.right.rest;
          clause_is = h.right.clause_is;
          is_group = h.right.is_group;
          rest_is = h.right.rest_is;
          one_leaf = λ v a b a' b' leaf leaf' rest' is. cc;
        },
      )
  link_entry k x g x_is has earlier (Given _ c) h = λ inside. absurd (h (of_link k) g has inside)
  link_entry k x g x_is has earlier _ h = tt

  link_entries : (k x : ℕ) (g : Group) → slice_get (declared all) k ≡ Some x → HasGroup s (of_link k) g →
      (xs : List Entry) → Each (IsStoreEntry all numbered s) xs → Each (IsGroupGiven f (is_link_of x) (group_variable g)) xs
  link_entries k x g x_is has [] h = tt
  link_entries k x g x_is has (e ∷ xs) h = (link_entry k x g x_is has xs e h.0, link_entries k x g x_is has xs h.1)

  pub ready_link : (k x : ℕ) (g : Group) → is_copied_at s.copied k ≡ true → slice_get (declared all) k ≡ Some x →
      slice_get s.links k ≡ Some g → IsLink f x g es
  ready_link k x g flag x_is g_is =
      let low = flag_parts k x x_is flag in
      record {
        made = store.groups.links k g g_is;
        own = link_entries k x g x_is (omega (arith, low), g_is) es store.own;
        whole = search arith;
      }

pub ready_now : (all : Dqbf) (numbered : List ℕ) (frames : List ℕ) (matrix : List (List Literal)) (p : Definability)
    (es : List Entry) → IsStore all numbered (store_of p) es → AreLiveClauses all numbered (store_of p) frames matrix →
    AreActiveGroups (store_of p) 1 frames p.first.groups.items →
    AreActiveGroups (store_of p) 2 frames p.second.groups.items → IsDefinability (with_matrix all matrix) p es
ready_now all numbered frames matrix p es store now first second =
    let s = store_of p in
    record {
      as_many_flags = store.places.flags;
      covered = covered all numbered frames matrix s es store now;
      first = ready_side all numbered frames matrix s es store now 1 (omega arith) (omega arith) p.first refl
          store.places.first store.places.first_existentials first;
      second = ready_side all numbered frames matrix s es store now 2 (omega arith) (omega arith) p.second refl
          store.places.second store.places.second_existentials second;
      as_many = store.places.links;
      links_made = λ k d below. store.groups.links k (get_or p.links.items k d) (slice_get-get_or p.links.items k d below);
      links = ready_link all numbered frames matrix s es store now;
    }

-- the clauses of these numbers
live_clauses : (all : Dqbf) (numbered : List ℕ) (live frames : List ℕ) (s : StoreState) →
    IsLiveFormula all numbered (formula_of all live) live frames → AreGiven s live →
    AreLiveClauses all numbered s frames (formula_of all live).matrix
live_clauses all numbered live frames s now given = record {
  given = λ clause inside.
      let number = numbered_from_one all.matrix in
      let there = filter_map-from number live clause inside in (
        there.0,
        there.2,
        All-contains (HasGiven s 2) live there.0 given there.1,
        subst (λ fs. Contains fs (frame_of numbered there.0)) (sym now.frames_are)
            (contains_mapped (frame_of numbered) live there.0 there.1),
      );
  all_given = λ j clause clause_is among.
      let low = numbered_low all.matrix j clause clause_is in
      contains-filter_map (numbered_from_one all.matrix) live j clause (now.together j low.0 low.1 among) clause_is;
}

pub ready : (all : Dqbf) (numbered : List ℕ) (f : Dqbf) (live frames : List ℕ) (p : Definability) (es : List Entry) →
    IsStore all numbered (store_of p) es → IsLiveFormula all numbered f live frames →
    AreGiven (store_of p) live → AreActiveGroups (store_of p) 1 frames p.first.groups.items →
    AreActiveGroups (store_of p) 2 frames p.second.groups.items → IsDefinability f p es
ready all numbered f live frames p es store now given first second =
    subst (λ h. IsDefinability h p es) (sym now.formula_is)
    (ready_now all numbered frames (formula_of all live).matrix p es store
    (live_clauses all numbered live frames (store_of p)
    (subst (λ h. IsLiveFormula all numbered h live frames) now.formula_is now) given) first second)
