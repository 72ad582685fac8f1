-- An answer to the groups of open frames.
use Rattle.std.proofs.Common.{◌≡◌, ℕ, zero, suc, ◌-◌, ◌≤◌, ◌<◌, ◌⊎◌, inl, inr, false, List, [], ◌∷◌, ◌++◌, map, length, replicate, slice_index_or, None, Some, refl, sym, ◌∙◌, ap, subst, arith}
use Rattle.std.specs.List.{All, Contains}
use Rattle.std.proofs.lemmas.Bool.{cases_lt}
use Rattle.std.proofs.lemmas.List.{length-append, length-replicate, get_or_append_left, get_or_default, get_or-append-add}
use Rattle.std.proofs.lemmas.Option.{slice_get-get_or}
use Rattle.list_laws.proofs.Members.{contains-filter_map, filter_map-from, place_of, contains_cases}
use Rattle.dq_lits.specs.Literal.{Literal, positive, variable_of}
use Rattle.dq_lits.specs.Formula.{declared, IsWellFormed}
use Rattle.dq_lits.specs.Expansion.{IsExpansionUnsatisfiable}
use Rattle.hint_log.specs.Deciding.{ReachesGiven, IsInstance, AreNegatedSelectors}
use Rattle.hint_log.specs.declared.names.Name.TheVariants.{Selector}
use Rattle.hint_log.specs.Entries.{Entry, Given, Answer, ProofLog, name_of}
use Rattle.hint_log.specs.Growth.{Each}
use Rattle.hint_log.specs.Naming.{numbered_from_one, rows_of}
use Rattle.hint_log.specs.Origins.{IsOriginsClause}
use Rattle.hint_log.specs.ProductiveSession.{frame_of}
use Rattle.hint_log.specs.declared.origins.Origin.{Origin}
use Rattle.hint_log.specs.declared.origins.Origin.TheVariants.{Instance}
use Rattle.hint_log.proofs.NamedEntries.{numbered_low}
use Rattle.log_laws.specs.Engines.{IsInGroup}
use Rattle.log_laws.proofs.Found.{split_at, each_at}
use Rattle.log_laws.proofs.Implied.{LinesAreImplied}
use Rattle.log_laws.proofs.Refuted.{IsInstanceAmong, refuted_among}
use Rattle.oracle.specs.Calls.{IsMade, IsRefutedUnder}
use Rattle.oracle.specs.Searched.{IsSearched}
use Rattle.oracle.specs.declared.groups.Group.{Group}
use Rattle.expansion.specs.Searches.{switches}
use Rattle.expansion.specs.Table.{IsFullTable}
use Rattle.expansion.proofs.TableAnswers.{learned_grew, found_rows, searched, in_active, negated_selectors, by_numbers, active_named, own_instance}
use Rattle.dq_session.specs.Databases.{DatabaseState, all_of, frames_of, live_of, now_of, number_at, frame_at, HasGroup, number_of, IsOpen, IsDatabaseEntry, IsDatabase, IsFullDatabase}
use Rattle.dq_session.specs.Changes.{open_groups}
use Rattle.dq_session.specs.Shown.{IsRefutedLive}
use Rattle.dq_session.specs.Searching.{LiveAnswersRefute}
use Rattle.dq_session.proofs.LiveModels.{databases_searched}
use Rattle.log_laws.proofs.Kept.{in_one_group}

-- a group that is open is an open frame's
pub group_open : (b : DatabaseState) (es : List Entry) → IsDatabase b es → (g : Group) → Contains (open_groups b) g →
    (frame : ℕ) × IsOpen b frame × HasGroup b frame g
group_open b es database g has =
    let p = filter_map-from (λ o. slice_index_or b.groups o.number None) b.open_frames g has in
    let at = place_of b.open_frames p.0 p.1 in
    let known = (database.stack.known at.0 p.0 at.1).1 in
    (p.0.number, (p.0, p.1, refl), slice_get-get_or b.groups p.0.number None known ∙ ap Some p.2)

-- the frame of an added clause
pub frame_of_added : (b : DatabaseState) (place : ℕ) → frame_of (frames_of b) (number_at b place) ≡ frame_at b place
frame_of_added b place = search (arith, replicate, length-replicate, get_or-append-add)

-- a clause of an open frame is live
pub live_by_frame : (b : DatabaseState) (es : List Entry) → IsDatabase b es → (j : ℕ) (c : List Literal) →
    numbered_from_one (all_of b).matrix j ≡ Some c
    → IsOpen b (frame_of (frames_of b) j) ⊎ (j ≤ length b.file.matrix) → Contains (live_of b) j
live_by_frame b es database j c at where_it_is = by (cases_lt (length b.file.matrix) j)
  where
    inside : (1 ≤ j) × (j ≤ length (b.file.matrix ++ b.added))
    inside = numbered_low (b.file.matrix ++ b.added) j c at

    by : (length b.file.matrix < j) ⊎ (j ≤ length b.file.matrix) → Contains (live_of b) j
    by (inr few) = database.stack.file_live j inside.0 few
    by (inl above) =
        let place = j - length b.file.matrix - 1 in
        let high = inside.1 in
        let long = length-append b.file.matrix b.added in
        let same : number_at b place ≡ j = omega (arith, above) in
        let below : place < length b.added = omega (arith, above, high, long) in
        subst (Contains (live_of b)) same (database.stack.open_live place below (opened place same where_it_is))
      where
        opened : (place : ℕ) → number_at b place ≡ j → IsOpen b (frame_of (frames_of b) j) ⊎ (j ≤ length b.file.matrix)
            → IsOpen b (frame_at b place)
        opened place same (inl is_open) = subst (IsOpen b) (frame_of_added b place)
            (subst (λ i. IsOpen b (frame_of (frames_of b) i)) (sym same) is_open)
        opened place same (inr few) = absurd (omega (arith, above, few))

-- an instance of a live clause, right by all
abbrev pub IsLiveInstance : DatabaseState → List Entry → List Literal → Origin → Type 0
IsLiveInstance b earlier c (Instance k j) = IsOriginsClause (all_of b) earlier (Instance k j) c × Contains (live_of b) j
IsLiveInstance b earlier c origin = ⊥

abbrev IsActive : DatabaseState → List Literal → Type 0
IsActive b c =
    IsInGroup b.table.group c
    ⊎ ((frame : ℕ) × (g : Group) × IsOpen b frame × HasGroup b frame g × IsInGroup (number_of g) c)

module _ (b : DatabaseState) (es : List Entry) (database : IsDatabase b es) (earlier : List Entry) (c : List Literal) where
  open_frame : (k j : ℕ) → IsDatabaseEntry b earlier (Given (Instance k j) c) → IsActive b c →
      (IsInGroup b.table.group c → IsInstance (Instance k j) × IsOriginsClause b.file earlier (Instance k j) c)
      → IsOpen b (frame_of (frames_of b) j) ⊎ (j ≤ length b.file.matrix)
  open_frame k j entry (inl inside) own = search (arith, numbered_low)
  open_frame k j entry (inr (frame, g, is_open, has, inside)) own = search (arith, in_one_group)

  live_instance : (origin : Origin) → IsDatabaseEntry b earlier (Given origin c) → IsActive b c →
      (IsInGroup b.table.group c → IsInstance origin × IsOriginsClause b.file earlier origin c)
      → IsLiveInstance b earlier c origin
  live_instance (Instance k j) entry is_active own = search (arith, live_by_frame, open_frame)
  live_instance _ entry (inr (frame, g, is_open, has, inside)) own = absurd (entry frame g has inside)
  live_instance _ entry (inl inside) own = absurd (own inside).0

is_instance : (b : DatabaseState) (earlier : List Entry) (c : List Literal) (origin : Origin) →
    IsLiveInstance b earlier c origin → IsInstance origin
is_instance b earlier c (Instance k j) h = tt
is_instance b earlier c _ h = absurd h

is_right : (b : DatabaseState) (earlier : List Entry) (c : List Literal) (origin : Origin) →
    IsLiveInstance b earlier c origin → IsOriginsClause (all_of b) earlier origin c
is_right b earlier c (Instance k j) h = h.0
is_right b earlier c _ h = absurd h

is_among : (b : DatabaseState) (earlier : List Entry) (c : List Literal) (origin : Origin) →
    IsLiveInstance b earlier c origin → IsInstanceAmong (all_of b) (now_of b).matrix origin
is_among b earlier c (Instance k j) h = λ clause at.
    contains-filter_map (numbered_from_one (all_of b).matrix) (live_of b) j clause h.1 at
is_among b earlier c _ h = absurd h

contains_map : (gs : List Group) (v : ℕ) → Contains (map (λ g. number_of g) gs) v →
    (g : Group) × Contains gs g × (number_of g ≡ v)
contains_map [] v (k, below, is) = absurd (omega (arith, below))
contains_map (g ∷ gs) v (zero, below, is) = (g, (0, omega arith, refl), is)
contains_map (g ∷ gs) v (suc k, below, is) =
    let r = contains_map gs v (k, omega (arith, below), is) in
    let n = r.1.0 in
    let less = r.1.1 in
    (r.0, (suc n, omega (arith, less), r.1.2), r.2)

-- the file's clauses are well-formed alone
pub file_formed : (b : DatabaseState) → IsWellFormed (all_of b) → IsWellFormed b.file
file_formed b formed = record {
  prefix = search arith;
  bound = λ k d below.
      let long = length-append b.file.matrix b.added in
      subst (All (λ l. Contains (declared b.file) (variable_of l)))
      (get_or_append_left b.file.matrix b.added d k below)
      (formed.bound k d (omega (arith, below, long)));
}

pub full_table : (b : DatabaseState) (es : List Entry) → IsFullDatabase b es → IsFullTable b.file b.table es
full_table b es full = search (arith, file_formed)

pub open_made : (b : DatabaseState) (es : List Entry) → IsDatabase b es → All (IsMade es) (open_groups b)
open_made b es database k d below =
    let g = slice_index_or (open_groups b) k d in
    let at = group_open b es database g (k, below, get_or_default (open_groups b) k g d below) in
    database.groups.made at.0 g at.2

module _ (implied : LinesAreImplied) (b : DatabaseState) (old new : ProofLog) (id : ℕ) (full : IsFullDatabase b old.entries)
    (searched_new : IsSearched new.entries) (r : IsRefutedUnder old new (switches b.table (open_groups b)) id) where
  database : IsDatabase b old.entries
  database = full.database

  table : IsFullTable b.file b.table old.entries
  table = full_table b old.entries full

  made : All (IsMade old.entries) (open_groups b)
  made = open_made b old.entries database

  abbrev gs : List ℕ
  gs = b.table.group ∷ map (λ g. variable_of g.selector) (open_groups b)

  abbrev q : IsRefutedUnder old new (map positive gs) id
  q = by_numbers b.file b.table (open_groups b) old new id table made searched_new r

  abbrev es : List Entry
  es = q.before.entries

  named : (g : ℕ) → Contains gs g → name_of old.entries g ≡ Some (Selector g)
  named = active_named b.file b.table (open_groups b) old new id table made searched_new r

  before : IsDatabase b es
  before = (databases_searched b false old q.before (learned_grew false old q.before q.learned)).0 database

  is_active : (origin : Origin) (c : List Literal) → ReachesGiven es q.hints origin c → IsActive b c
  is_active origin c reached =
      let one = in_active gs old new id searched_new named q origin c reached in
      by one.0 one.2 (contains_cases b.table.group one.0 (map (λ g. variable_of g.selector) (open_groups b)) one.1)
    where
      by : (v : ℕ) → IsInGroup v c → (b.table.group ≡ v) ⊎ Contains (map (λ g. variable_of g.selector) (open_groups b)) v
          → IsActive b c
      by v inside (inl here) = inl (subst (λ g. IsInGroup g c) (sym here) inside)
      by v inside (inr later) =
          let m = contains_map (open_groups b) v later in
          let at = group_open b old.entries database m.0 m.1 in
          inr (at.0, m.0, at.1, at.2, subst (λ g. IsInGroup g c) (sym m.2) inside)

  at_place : (origin : Origin) (c : List Literal) → ReachesGiven es q.hints origin c → (more earlier : List Entry) →
      es ≡ more ++ Given origin c ∷ earlier → IsLiveInstance b earlier c origin
  at_place origin c reached more earlier is =
      live_instance b es before earlier c origin
      (each_at (IsDatabaseEntry b) more earlier (Given origin c) (subst (Each (IsDatabaseEntry b)) is before.givens))
      (is_active origin c reached)
      (λ inside. own_instance b.file b.table (open_groups b) old new id table made searched_new r origin c reached
      inside more earlier is)

  live_reached : (origin : Origin) (c : List Literal) → ReachesGiven es q.hints origin c →
      (earlier : List Entry) × IsLiveInstance b earlier c origin
  live_reached origin c reached =
      let place = split_at es reached.id (Given origin c) reached.is_given in
      (place.1, at_place origin c reached place.0 place.1 place.2)

  negated : AreNegatedSelectors es q.clause
  negated = negated_selectors gs old new id searched_new named q

  unsatisfiable : IsExpansionUnsatisfiable (now_of b) b.table.rows
  unsatisfiable =
      let s : IsSearched (Answer q.clause q.hints ∷ es) = searched gs old new id searched_new named q in
      let learned = learned_grew false old q.before q.learned in
      let rows : rows_of es ≡ b.table.rows = ap rows_of learned.grown
      ∙ found_rows false learned.more old.entries learned.each ∙ full.rows in
      subst (IsExpansionUnsatisfiable (now_of b)) rows
      (refuted_among implied (all_of b) (now_of b).matrix es q.clause q.hints (record {
        logged = s.logged.1;
        lemmas_are_derived = s.derived.1;
        derived = s.derived.0;
        givens_match_origins = λ more earlier origin c is reached. is_right b earlier c origin
            (at_place origin c reached more earlier is);
      }) negated (λ origin c reached. let h = live_reached origin c reached in is_among b h.0 c origin h.1))

  pub refutes : IsExpansionUnsatisfiable (now_of b) b.table.rows × IsRefutedLive b new.entries id
  refutes = (
    unsatisfiable,
    record {
      clause = q.clause;
      hints = q.hints;
      earlier = es;
      answered = ap (λ (l : ProofLog). l.entries) q.answered;
      last = q.last;
      decides = record {
        selectors = negated;
        instances = λ origin c reached. let h = live_reached origin c reached in is_instance b h.0 c origin h.1;
      };
      live = λ k j c reached. (live_reached (Instance k j) c reached).1.1;
    },
  )

pub live_answers : LinesAreImplied → LiveAnswersRefute
live_answers implied b old new id full searched_new r = refutes implied b old new id full searched_new r
