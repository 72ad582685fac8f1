-- A database whose clauses are being given their instances: one step after another, and a group
-- that is made.
use Rattle.std.proofs.Common.{◌≡◌, ℕ, ◌≤◌, ◌<◌, ◌⊎◌, inl, inr, Bool, false, List, length, slice_get, get_or, is_some, Option, Some, None, refl, sym, ◌∙◌, ap, subst, arith}
use Rattle.std.specs.List.{Contains, filter_map}
use Rattle.std.specs.Option.{option_map}
use Rattle.std.proofs.lemmas.List.{length-set}
use Rattle.std.proofs.lemmas.Option.{slice_get-get_or}
use Rattle.list_laws.proofs.Members.{filter_map-from, place_of, contains_cases}
use Rattle.dq_lits.specs.Literal.{Literal, is_negative}
use Rattle.hint_log.specs.Conditions.{AreLogged}
use Rattle.hint_log.specs.Entries.{Entry, Named, Given, Learned, Answer, ProofLog, with_entry, name_of}
use Rattle.hint_log.specs.Growth.{Grew}
use Rattle.hint_log.specs.ProductiveLog.{fault_groups, fault_room}
use Rattle.hint_log.specs.declared.names.Name.TheVariants.{Selector}
use Rattle.hint_log.proofs.NamedEntries.{unnamed_before}
use Rattle.log_laws.specs.Engines.{instances}
use Rattle.log_laws.specs.Sessions.{IsInOneOf, IsAddedLive}
use Rattle.log_laws.proofs.Kept.{each_of_weaker}
use Rattle.log_laws.proofs.LargerLogs.{grown_by, grown_then}
use Rattle.oracle.specs.declared.groups.Group.{Group}
use Rattle.dq_session.specs.Databases.{DatabaseState, all_of, live_of, HasGroup, number_of, IsFullDatabase}
use Rattle.dq_session.specs.Changes.{groups_of, IsCaughtUp}
use Rattle.dq_session.specs.Changing.{with_group}
use Rattle.dq_session.specs.Giving.{IsGiving}
use Rattle.dq_session.specs.Shown.{IsRefutedLive}
use Rattle.dq_session.proofs.MadeGroups.{kept, new_or_old, group_database}
use Rattle.dq_session.proofs.PreservedDatabases.{has_number}

pub giving_none : (b : DatabaseState) (log new : ProofLog) → IsFullDatabase b log.entries
    → length (fault_groups log.entries) ≤ fault_room log.entries → new ≡ log → IsGiving b log b new
giving_none b log new full few same = search arith

-- a group among the frames' is some frame's
pub group_in : (groups : List (Option Group)) (v : ℕ) → Contains (filter_map (option_map number_of) groups) v →
    (frame : ℕ) × (g : Group) × (slice_get groups frame ≡ Some (Some g)) × (number_of g ≡ v)
group_in groups v has =
    let p = filter_map-from (option_map number_of) groups v has in
    let at = place_of groups p.0 p.1 in
    by p.0 at.0 at.1 p.2
  where
    by : (x : Option Group) (i : ℕ) → slice_get groups i ≡ Some x → option_map number_of x ≡ Some v →
        (frame : ℕ) × (g : Group) × (slice_get groups frame ≡ Some (Some g)) × (number_of g ≡ v)
    by None i is named = cc
    by (Some g) i is named = let same : number_of g ≡ v = cc in (i, g, is, same)

module _ (a b c : DatabaseState) (first middle last : ProofLog) (x : IsGiving a first b middle)
    (y : IsGiving b middle c last) where
  by_frame : (frame : ℕ) (h : Group) (g : ℕ) → HasGroup b frame h → number_of h ≡ g →
      Contains (groups_of a) g ⊎ (name_of first.entries g ≡ None)
  by_frame frame h g has same = by (x.new_groups frame h has)
    where
      by : HasGroup a frame h ⊎ (name_of first.entries (number_of h) ≡ None) →
          Contains (groups_of a) g ⊎ (name_of first.entries g ≡ None)
      by (inl old) = inl (subst (Contains (groups_of a)) same (has_number a frame h old))
      by (inr none) = inr (ap (name_of first.entries) (sym same) ∙ none)

  old_group : (g : ℕ) → Contains (groups_of b) g → Contains (groups_of a) g ⊎ (name_of first.entries g ≡ None)
  old_group g has = by (contains_cases b.table.group g (filter_map (option_map number_of) b.groups) has)
    where
      by : (b.table.group ≡ g) ⊎ Contains (filter_map (option_map number_of) b.groups) g →
          Contains (groups_of a) g ⊎ (name_of first.entries g ≡ None)
      by (inl here) =
          inl (0, omega arith, sym (ap (λ (s : DatabaseState). s.table.group) x.caught_up.same) ∙ here)
      by (inr later) = let r = group_in b.groups g later in by_frame r.0 r.1 g r.2 r.3

  in_one_of : (d : List Literal) → IsInOneOf (groups_of b) middle.entries d → IsInOneOf (groups_of a) first.entries d
  in_one_of d (g, inside, inl has) = (g, inside, old_group g has)
  in_one_of d (g, inside, inr none) = (g, inside, inr (x.names g none))

  added : (silent : Bool) (earlier : List Entry) (e : Entry)
      → IsAddedLive (all_of a) instances (groups_of b) silent middle.entries earlier e
      → IsAddedLive (all_of a) instances (groups_of a) silent first.entries earlier e
  added silent earlier (Named v n) h = h
  added silent earlier (Given origin d) h = record {
    own = h.own;
    in_group = in_one_of d h.in_group;
    matches_origin = h.matches_origin;
    not_repeated = h.not_repeated;
  }
  added silent earlier (Learned d hs) h = tt
  added silent earlier (Answer d hs) h = h
  added silent earlier _ h = absurd h

  grew : (silent : Bool) → Grew (IsAddedLive (all_of a) instances (groups_of a) silent first.entries) first last
  grew silent =
      let all_same : all_of b ≡ all_of a = ap all_of x.caught_up.same in
      let g = subst (λ f. Grew (IsAddedLive f instances (groups_of b) silent middle.entries) middle last) all_same
      (y.grew silent) in
      grown_then (IsAddedLive (all_of a) instances (groups_of a) silent first.entries) first middle last (x.grew silent)
      (record {
        more = g.more;
        grown = g.grown;
        each = each_of_weaker (IsAddedLive (all_of a) instances (groups_of b) silent middle.entries)
            (IsAddedLive (all_of a) instances (groups_of a) silent first.entries) (added silent) g.more middle.entries
            g.each;
        limit = g.limit;
      })

  pub giving_then : IsGiving a first c last
  giving_then = record {
    caught_up = search arith;
    grew = grew;
    new_groups = λ F g has. by F g (y.new_groups F g has);
    names = λ v none. x.names v (y.names v none);
    database = y.database;
    few = y.few;
  }
    where
      by : (F : ℕ) (g : Group) → HasGroup b F g ⊎ (name_of middle.entries (number_of g) ≡ None) →
          HasGroup a F g ⊎ (name_of first.entries (number_of g) ≡ None)
      by F g (inl old) = x.new_groups F g old
      by F g (inr none) = inr (x.names (number_of g) none)

pub giving_group : (b : DatabaseState) (frame : ℕ) (g : Group) (log new : ProofLog) → IsFullDatabase b log.entries
    → length (fault_groups log.entries) ≤ fault_room log.entries → AreLogged log.entries → 1 ≤ frame
    → slice_get b.groups frame ≡ Some None → is_negative g.selector ≡ false → name_of log.entries (number_of g) ≡ None
    → new ≡ with_entry log (Named (number_of g) (Selector (number_of g))) → IsGiving b log (with_group b frame g) new
giving_group b frame g log new full few logged one free plain unnamed is =
    let entry : Entry = Named (number_of g) (Selector (number_of g)) in
    subst (IsGiving b log (with_group b frame g)) (sym is) (record {
      caught_up = record {
        same = refl;
        more = λ place. omega arith;
        many_groups = length-set b.groups frame (Some g);
        made = kept b frame g log.entries one free logged plain unnamed full.database;
      };
      grew = λ silent. grown_by (IsAddedLive (all_of b) instances (groups_of b) silent log.entries) log
          (with_entry log entry) entry refl (record { unnamed = unnamed; own = inl refl; rightly = tt });
      new_groups = λ F h has. by F h (new_or_old b frame g log.entries one free logged plain unnamed full.database F h has);
      names = λ v none. unnamed_before entry log.entries v none;
      database = search (arith, group_database);
      few = few;
    })
  where
    by : (F : ℕ) (h : Group) → ((F ≡ frame) × (g ≡ h)) ⊎ HasGroup b F h →
        HasGroup b F h ⊎ (name_of log.entries (number_of h) ≡ None)
    by F h (inl (here, same)) = inr (ap (λ x. name_of log.entries (number_of x)) (sym same) ∙ unnamed)
    by F h (inr old) = inl old

-- a frame that is found to have no group
pub free_at : (b : DatabaseState) (groups : List (Option Group)) → groups ≡ b.groups → (frame : ℕ) →
    frame < length b.groups → (o : Option Group) → o ≡ get_or groups frame o → is_some o ≡ false
    → slice_get b.groups frame ≡ Some None
free_at b groups same frame below None is none = search (arith, slice_get-get_or)
free_at b groups same frame below (Some g) is none = cc

-- what an answer shows of live clauses doesn't rest on how many instances were given
pub shown_before : (b m : DatabaseState) (es : List Entry) (id : ℕ) → IsCaughtUp b m → IsRefutedLive m es id →
    IsRefutedLive b es id
shown_before b m es id caught r = record {
  clause = r.clause;
  hints = r.hints;
  earlier = r.earlier;
  answered = r.answered;
  last = r.last;
  decides = r.decides;
  live = λ k j c reached. subst (λ ls. Contains ls j) (ap live_of caught.same) (r.live k j c reached);
}
