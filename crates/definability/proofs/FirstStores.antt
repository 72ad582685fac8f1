-- The store of a file's copies: at first without copies, and at last with those of all clauses.
use Rattle.std.proofs.Common.{◌≡◌, ℕ, zero, suc, ◌+◌, ◌-◌, ◌<◌, ◌≤◌, true, false, true≢false, inl, inr, List, [], ◌∷◌, ◌++◌, map, length, replicate, get_or, slice_get, slice_index_or, Some, None, refl, sym, ◌∙◌, ap, subst, arith, Option}
use Rattle.definability.specs.Copies.{is_copied_at, group_variable, groups_of}
use Rattle.oracle.specs.declared.groups.Group.{Group}
use Rattle.std.specs.List.{Contains, range_with_len}
use Rattle.definability.specs.declared.frames.Sides.{Sides}
use Rattle.dq_lits.specs.Formula.{Dqbf, declared}
use Rattle.definability.specs.declared.definability.Definability.{Definability}
use Rattle.hint_log.specs.Entries.{ProofLog, name_of, with_entry, Named, Entry, Given, Learned, Answer}
use Rattle.log_laws.specs.Engines.{HasNone, copies, IsAddedBy, IsInNewGroup}
use Rattle.oracle.specs.Calls.{IsMade}
use Rattle.hint_log.specs.declared.names.Name.TheVariants.{Selector}
use Rattle.definability.specs.Making.{HasNoCopies, IsFileMade, IsAllGiven, IsFileActive, AreFileCopies, HasMoreGiven, AreGivenBefore, CanGiveFile}
use Rattle.definability.specs.Store.{parts_at, store_of, Slot, HasGroup, of_frame, of_link, IsStoreEntry, IsPartialStore, side_copies, store_groups, both_groups, IsStore, side_group, copy_groups, HasGiven}
use Rattle.std.proofs.lemmas.Option.{slice_get_within, slice_get-get_or}
use Rattle.hint_log.specs.declared.origins.Origin.TheVariants.{Copy, Link}
use Rattle.hint_log.specs.Growth.{Each}
use Rattle.list_laws.proofs.Members.{contains_first, contains_later}
use Rattle.list_laws.proofs.Elements.{zeros_there}
use Rattle.dq_lits.specs.Literal.{Literal}
use Rattle.definability.specs.Growing.{HasFewFaults, HasCopied}
use Rattle.definability.specs.Following.{CanGiveCopies, IsCopyAdded, IsFollowing, AreActiveGroups, HasMore, IsReceiving, Receives}
use Rattle.hint_log.proofs.NamedEntries.{unnamed_before}
use Rattle.log_laws.proofs.LargerLogs.{grown_by, grown_then}
use Rattle.definability.proofs.StoreSteps.{copied_entry, copied_then, copied_all, copied_none, following_none, following_then, standing_on}
use Rattle.log_laws.proofs.Kept.{each_of_weaker}
use Rattle.definability.proofs.PreservedStores.{completed, other_name, other_given}
use Rattle.definability.proofs.Activated.{activated}
use Rattle.definability.proofs.ReadyCopies.{AreLiveClauses, ready_now}
use Rattle.log_laws.proofs.Found.{numbered_among}
use Rattle.std.proofs.lemmas.List.Elements.{Contains-get_or}
use Rattle.std.proofs.lemmas.List.FromFn.{length-range_with_len, get_or-range_with_len}
use Rattle.log_laws.specs.Sessions.{IsInOneOf}
use Rattle.definability.proofs.FollowedClauses.{following_on}
use Rattle.list_laws.proofs.Numbers.{same_or_not}
use Rattle.definability.specs.declared.following.LiveClause.{LiveClause}

-- lists of equal elements
index_same : (n k a d : ℕ) → k < n → slice_index_or (replicate n a) k d ≡ a
index_same zero k a d below = absurd (omega (arith, below))
index_same (suc n) zero a d below = refl
index_same (suc n) (suc k) a d below = index_same n k a d (omega (arith, below))

no_flag : (n k : ℕ) → k < n → is_copied_at (replicate n false) k ≡ false
no_flag zero k below = absurd (omega (arith, below))
no_flag (suc n) zero below = refl
no_flag (suc n) (suc k) below = no_flag n k (omega (arith, below))

same_element : (n k : ℕ) (g h : Group) → slice_get (replicate n g) k ≡ Some h → g ≡ h
same_element zero k g h is = cc
same_element (suc n) zero g h is = cc
same_element (suc n) (suc k) g h is = same_element n k g h is

same_number : (n : ℕ) (g : Group) (m : ℕ) → Contains (map group_variable (replicate n g)) m → group_variable g ≡ m
same_number zero g m (k, below, at) = absurd (omega (arith, below))
same_number (suc n) g m (zero, below, at) = at
same_number (suc n) g m (suc k, below, at) = same_number n g m (k, omega (arith, below), at)

long_replicate : {X : Type 0} (n : ℕ) (x : X) → length (replicate n x) ≡ n
long_replicate zero x = refl
long_replicate (suc n) x = ap suc (long_replicate n x)

pub only_one : (frames : List (Option Sides)) (x : Option Sides) → length frames ≡ 1 → slice_get frames 0 ≡ Some x →
    frames ≡ x ∷ []
only_one [] x long is = cc
only_one (y ∷ []) x long is = let same : y ≡ x = cc in ap (λ z. z ∷ []) same
only_one (y ∷ z ∷ frames) x long is = absurd (omega (arith, long))

pub copied_nothing : (f : Dqbf) (old new : ProofLog) → new ≡ old → IsFileMade f old new
copied_nothing f old new is = search (arith, copied_none)

pub given_long : (f : Dqbf) (spare : Group) (p : Definability) → HasNoCopies f spare p → length p.given.items ≡ length f.matrix
given_long f spare p blank = ap length blank.given ∙ long_replicate (length f.matrix) 0

-- what the spare group adds
pub first_made : (f : Dqbf) (spare : Group) (old log : ProofLog) → name_of old.entries (group_variable spare) ≡ None →
    log ≡ with_entry old (Named (group_variable spare) (Selector (group_variable spare))) → IsFileMade f old log
first_made f spare old log unnamed is = record {
  grew = λ group. grown_by (IsAddedBy f copies group true old.entries) old log
      (Named (group_variable spare) (Selector (group_variable spare))) is
      (record { unnamed = unnamed; own = inl refl; rightly = tt });
  only = subst (λ (l : ProofLog). HasCopied old.entries l.entries) (sym is)
      (copied_entry (Named (group_variable spare) (Selector (group_variable spare))) old.entries refl);
}

-- copies of nothing, after a group that was made for them
module _ (f : Dqbf) (p : Definability) (spare : Group) (old log : ProofLog) (none : HasNone copies old.entries)
    (unnamed : name_of old.entries (group_variable spare) ≡ None) (made : IsMade log.entries spare)
    (is : log ≡ with_entry old (Named (group_variable spare) (Selector (group_variable spare))))
    (blank : HasNoCopies f spare p) where
  abbrev numbered : List ℕ
  numbered = replicate (length f.matrix) 0

  abbrev e : Entry
  e = Named (group_variable spare) (Selector (group_variable spare))

  no_parts : (k : ℕ) → k < length (declared f) → parts_at (store_of p) k ≡ 0
  no_parts k below = ap (λ ns. slice_index_or ns k 5) blank.parts ∙ index_same (length (declared f)) k 0 5 below

  long_links : length p.links.items ≡ length (declared f)
  long_links = ap length blank.links ∙ long_replicate (length (declared f)) spare

  spare_only : (k : ℕ) (g : Group) → slice_get p.links.items k ≡ Some g → spare ≡ g
  spare_only k g at = same_element (length (declared f)) k spare g (ap (λ gs. slice_get gs k) (sym blank.links) ∙ at)

  no_slot : (slot : Slot) (g : Group) → HasGroup (store_of p) slot g → ⊥
  no_slot (of_frame side F) g (x, x_is, g_is) = search arith
  no_slot (of_link k) g has =
      let low = has.0 in
      let below = slice_get_within p.links.items k g has.1 in
      let long = long_links in
      let zero_parts = no_parts k (omega (arith, below, long)) in
      omega (arith, low, zero_parts)

  old_entry : (earlier : List Entry) (x : Entry) → Contains old.entries x → IsStoreEntry f numbered (store_of p) earlier x
  old_entry earlier (Named v n) inside = other_name f (store_of p) n (λ own. none (Named v n) own inside)
  old_entry earlier (Given origin c) inside = other_given f numbered (store_of p) earlier origin c
      (λ own. none (Given origin c) own inside) (λ slot g has there. no_slot slot g has)
  old_entry earlier _ inside = tt

  old_entries : (xs : List Entry) → ((x : Entry) → Contains xs x → Contains old.entries x) →
      Each (IsStoreEntry f numbered (store_of p)) xs
  old_entries [] all = tt
  old_entries (x ∷ xs) all = search (arith, old_entry, contains_first, (old_entries xs), contains_later)

  store_there : IsMade (e ∷ old.entries) spare → IsPartialStore f numbered (store_of p) (e ∷ old.entries)
  store_there made_there = record {
    places = search (arith, long_replicate, long_links);
    whole = λ k below flag. absurd (true≢false (sym flag ∙ ap (λ fs. is_copied_at fs k) blank.copied
        ∙ no_flag (length f.universals) k below));
    parts = record {
      copies = λ side k x l low x_is l_is.
          let none_made = no_parts k (slice_get_within (declared f) k x x_is) in
          absurd (no_side side (omega (arith, low, none_made)) k l l_is);
      equations = λ k x i g low one two x_is g_is.
          let none_made = no_parts k (slice_get_within (declared f) k x x_is) in absurd (omega (arith, low, none_made));
    };
    groups = search (arith, no_slot, spare_only);
    givens = search (arith, zeros_there);
    own = (tt, old_entries old.entries (λ x inside. inside));
    active = λ g among. absurd (nothing g (subst (λ gs. Contains (gs ++ p.second.groups.items) g) blank.first_groups among));
  }
    where
      no_side : (side : ℕ) → side ≤ 0 → (k : ℕ) (l : Literal) → slice_get (side_copies (store_of p) side) k ≡ Some l → ⊥
      no_side zero low k l at = cc
      no_side (suc side) low k l at = absurd (omega (arith, low))

      nothing : (g : Group) → Contains ([] ++ p.second.groups.items) g → ⊥
      nothing g among = let none_there = subst (λ gs. Contains gs g) blank.second_groups among in
          let below = none_there.1 in omega (arith, below)

  pub first_standing : HasFewFaults old.entries → CanGiveCopies f numbered f (store_of p) log.entries
  first_standing few = search (arith, store_there)

  -- what follows is right wherever no search began
  spare_unnamed : (g : ℕ) → Contains (store_groups (store_of p)) g → name_of old.entries g ≡ None
  spare_unnamed g among = by (subst (λ fs. Contains (both_groups fs ++ map group_variable p.links.items) g) blank.frames among)
    where
      by : Contains (map group_variable p.links.items) g → name_of old.entries g ≡ None
      by inside = subst (λ n. name_of old.entries n ≡ None)
          (same_number (length (declared f)) spare g (subst (λ gs. Contains (map group_variable gs) g) blank.links inside))
          unnamed

  before : (g : ℕ) → name_of log.entries g ≡ None → name_of old.entries g ≡ None
  before g gone = unnamed_before e old.entries g (subst (λ (l : ProofLog). name_of l.entries g ≡ None) is gone)

  in_new : (group : ℕ) (c : List Literal) → IsInOneOf (store_groups (store_of p)) log.entries c →
      IsInNewGroup group old.entries c
  in_new group c (g, inside, inl among) = (g, inside, inr (spare_unnamed g among))
  in_new group c (g, inside, inr gone) = (g, inside, inr (before g gone))

  added : (group : ℕ) (earlier : List Entry) (x : Entry) →
      IsCopyAdded f (store_groups (store_of p)) log.entries earlier x → IsAddedBy f copies group true old.entries earlier x
  added group earlier (Named v n) h = h.0
  added group earlier (Given (Copy side j) c) h = record {
    own = h.0.own;
    in_group = in_new group c h.0.in_group;
    matches_origin = h.0.matches_origin;
    not_repeated = h.0.not_repeated;
  }
  added group earlier (Given (Link x i) c) h = record {
    own = h.0.own;
    in_group = in_new group c h.0.in_group;
    matches_origin = h.0.matches_origin;
    not_repeated = h.0.not_repeated;
  }
  added group earlier (Learned c hs) h = tt
  added group earlier (Answer c hs) h = let wrong : false ≡ true = h.1 in cc
  added group earlier (Given _ c) h = let wrong : false ≡ true = h.1 in cc
  added group earlier _ h = absurd h.0

  module _ (q : Definability) (new : ProofLog) (x : IsFollowing f numbered (store_of p) log (store_of q) new) where
    pub file_made : IsFileMade f old new
    file_made = record {
      grew = λ group. grown_then (IsAddedBy f copies group true old.entries) old log new ((first_made f spare old log unnamed is).grew group) (record {
        more = x.grew.more;
        grown = x.grew.grown;
        each = each_of_weaker (IsCopyAdded f (store_groups (store_of p)) log.entries)
            (IsAddedBy f copies group true old.entries) (added group) x.grew.more log.entries x.grew.each;
        limit = x.grew.limit;
      });
      only = copied_then old.entries log.entries new.entries (first_made f spare old log unnamed is).only
          (subst (HasCopied log.entries) (sym x.grew.grown)
          (copied_all (IsCopyAdded f (store_groups (store_of p)) log.entries) (λ earlier y h. h.1) x.grew.more log.entries
          x.grew.each));
    }

    -- where all was given, and the groups are active
    module _ (from : ℕ) (low : from ≤ length f.universals) (all : IsAllGiven f from q) (r : Definability) (active : IsFileActive q r) where
      abbrev t : Definability
      t = record q {
        first = record q.first { groups = r.first.groups };
        second = record q.second { groups = r.second.groups };
      }

      frames : q.frames.items ≡ Some active.sides ∷ []
      frames = only_one q.frames.items (Some active.sides) all.frames active.opened

      whole : IsStore f numbered (store_of q) new.entries
      whole = completed f numbered (store_of q) new.entries x.store
          (λ k past. all.copied.complete k (omega (arith, low, past)))

      one_group : (side : ℕ) (g : Group) (groups : List Group) → side_group side active.sides ≡ Some g →
          groups ≡ g ∷ [] → AreActiveGroups (store_of q) side (0 ∷ []) groups
      one_group side g groups g_is are = subst (AreActiveGroups (store_of q) side (0 ∷ [])) (sym are) (record {
        sound = λ h among.
            (0, (0, omega arith, refl), subst (HasGroup (store_of q) (of_frame side 0)) (single g h among) there);
        complete = λ F among.
            (g, subst (λ n. HasGroup (store_of q) (of_frame side n) g) (single 0 F among) there, (0, omega arith, refl));
      })
        where
          there : HasGroup (store_of q) (of_frame side 0) g
          there = (active.sides, active.opened, g_is)

          single : {X : Type 0} (a b : X) → Contains (a ∷ []) b → a ≡ b
          single a b (zero, below, at) = at
          single a b (suc k, below, at) = absurd (omega (arith, below))

      first_active : AreActiveGroups (store_of q) 1 (0 ∷ []) r.first.groups.items
      first_active = one_group 1 active.sides.first r.first.groups.items refl active.first

      second_active : AreActiveGroups (store_of q) 2 (0 ∷ []) r.second.groups.items
      second_active = one_group 2 active.sides.second r.second.groups.items refl active.second

      store_t : IsStore f numbered (store_of t) new.entries
      store_t = subst (λ (y : Definability). IsStore f numbered (store_of y) new.entries) active.same
          (activated f numbered (0 ∷ []) q r active.same first_active second_active new.entries whole)

      live : AreLiveClauses f numbered (store_of t) (0 ∷ []) f.matrix
      live = record {
        given = λ clause inside.
            let below = inside.1 in (
              suc inside.0,
              slice_get-get_or f.matrix inside.0 clause inside.1 ∙ ap Some inside.2,
              all.given (suc inside.0) (omega arith) (omega (arith, below)),
              (0, omega arith, sym (zeros_there (length f.matrix) (suc inside.0 - 1))),
            );
        all_given = λ j clause clause_is among. numbered_among f.matrix j clause clause_is;
      }

      groups_t : copy_groups t ≡ groups_of t
      groups_t =
          ap (λ fs. both_groups fs ++ map group_variable q.links.items) frames
          ∙ sym (ap (λ gs. map group_variable (gs ++ (r.second.groups.items ++ q.links.items))) active.first
          ∙ ap (λ hs. map group_variable (active.sides.first ∷ (hs ++ q.links.items))) active.second)

      fresh_t : (n : ℕ) → Contains (copy_groups t) n → name_of old.entries n ≡ None
      fresh_t n among = elim (x.new_groups n among)
          [ inl had ↦ spare_unnamed n had | inr gone ↦ before n gone ]

      pub file_copies : AreFileCopies f from old new r
      file_copies = subst (AreFileCopies f from old new) (sym active.same) (record {
        made = ready_now f numbered (0 ∷ []) f.matrix t new.entries store_t live first_active second_active;
        fresh = λ i d below. fresh_t (get_or (groups_of t) i d)
            (subst (λ ns. Contains ns (get_or (groups_of t) i d)) (sym groups_t) (Contains-get_or (groups_of t) i d below));
        all_active = groups_t;
        store = store_t;
        given = λ k d below.
            let long = length-range_with_len 1 (length f.matrix) in
            let within : k < length f.matrix = omega (arith, below, long) in
            let at = get_or-range_with_len 1 (length f.matrix) k d within in
            all.given (get_or (range_with_len 1 (length f.matrix)) k d) (omega (arith, at)) (omega (arith, at, within));
        flags = all.copied.flags;
      })

pub after_copies : (f : Dqbf) (numbered : List ℕ) (p q r : Definability) (first middle last : ProofLog) →
    CanGiveCopies f numbered f (store_of p) first.entries → IsFollowing f numbered (store_of p) first (store_of q) middle →
    HasMore f q middle r last → IsFollowing f numbered (store_of p) first (store_of r) last
after_copies f numbered p q r first middle last h x y = search (arith, following_on, y.follows)

pub given_none : (f : Dqbf) (p : Definability) (old new : ProofLog) → new ≡ old →
    CanGiveFile f p old.entries → HasMoreGiven f p old p new
given_none f p old new is h = search (arith, following_none, replicate)

pub given_then : (f : Dqbf) (p q r : Definability) (first middle last : ProofLog) → HasMoreGiven f p first q middle →
    HasMoreGiven f q middle r last → HasMoreGiven f p first r last
given_then f p q r first middle last x y = search (arith, following_then, replicate)

pub can_give_still : (f : Dqbf) (p q : Definability) (old new : ProofLog) → CanGiveFile f p old.entries →
    HasMoreGiven f p old q new → CanGiveFile f q new.entries
can_give_still f p q old new h x = search (arith, standing_on, replicate)

pub before_more : (f : Dqbf) (p q : Definability) (old new : ProofLog) (i : ℕ) → HasMoreGiven f p old q new →
    AreGivenBefore (store_of p) i → HasGiven (store_of q) 2 (i + 1) → AreGivenBefore (store_of q) (i + 1)
before_more f p q old new i x before has j low high = elim (same_or_not j (i + 1)) [
  | inl same ↦ subst (HasGiven (store_of q) 2) (sym same) has
  | inr differ ↦ x.follows.given 2 j (before j low (omega (arith, high, differ)))
]

-- copies of a clause's variables, and then of the clause
pub by_copies : (f : Dqbf) (p q : Definability) (old new : ProofLog) →
    CanGiveFile f p old.entries → HasMore f p old q new → HasMoreGiven f p old q new
by_copies f p q old new h x = search (arith, replicate, x.follows)

pub by_clause : (f : Dqbf) (p q : Definability) (clause : LiveClause) (old new : ProofLog) →
    IsReceiving f (replicate (length f.matrix) 0) f (store_of p) clause old.entries → Receives f p old clause q new →
    q ≡ record p { given = q.given } → length q.given.items ≡ length p.given.items → HasMoreGiven f p old q new
by_clause f p q clause old new h x same long = search (arith, replicate)

pub file_receiving : (f : Dqbf) (p q : Definability) (old new : ProofLog) (place : ℕ) → CanGiveFile f p old.entries →
    HasMore f p old q new → place < length f.matrix →
    IsReceiving f (replicate (length f.matrix) 0) f (store_of q)
    (record { place = place; number = place + 1; frame = 0 }) new.entries
file_receiving f p q old new place h x below =
    search (
      arith,
      (can_give_still f p q old new h (by_copies f p q old new h x)),
      (by_copies f p q old new h x),
      (zeros_there (length f.matrix) (place + 1 - 1)),
    )
