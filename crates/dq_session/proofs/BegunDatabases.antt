-- A database without frames.
use Rattle.std.proofs.Common.{◌≡◌, ℕ, zero, suc, ◌+◌, ◌-◌, ◌≤◌, ◌<◌, inl, true, List, [], ◌∷◌, map, length, slice_get, Option, Some, None, refl, sym, ◌∙◌, ap, subst, arith}
use Rattle.std.specs.List.{Contains, range_with_len}
use Rattle.std.proofs.lemmas.List.{append-nil, length-map}
use Rattle.std.proofs.lemmas.List.FromFn.{get_or-map-range_with_len, length-map-range_with_len}
use Rattle.std.proofs.lemmas.Option.{slice_get-get_or, slice_get_within, get_or_from_slice_get, slice_get-map}
use Rattle.std.specs.Option.{option_map}
use Rattle.list_laws.proofs.Members.{element_at, place_of, contains_later}
use Rattle.dq_lits.specs.Literal.{Literal}
use Rattle.dq_lits.specs.Formula.{Dqbf, IsWellFormed}
use Rattle.hint_log.specs.Entries.{Entry, Named, Given, ProofLog, with_entry, name_of}
use Rattle.hint_log.specs.Growth.{Each, Grew}
use Rattle.hint_log.specs.Live.{with_matrix}
use Rattle.hint_log.specs.declared.names.Name.TheVariants.{Selector}
use Rattle.hint_log.specs.declared.origins.Origin.TheVariants.{Instance}
use Rattle.log_laws.specs.Engines.{instances, is_own, part, HasNone}
use Rattle.log_laws.specs.Sessions.{IsAddedLive}
use Rattle.log_laws.proofs.LargerLogs.{grown_by}
use Rattle.oracle.specs.declared.groups.Group.{Group}
use Rattle.expansion.specs.Table.{TableState, IsTable}
use Rattle.dq_session.specs.Databases.{DatabaseState, HasGroup, IsStack, IsDatabaseEntry, IsDatabase, HasDoneInstances}
use Rattle.dq_session.specs.Changes.{begun, file_live}
use Rattle.dq_session.specs.declared.live.Live.{Live}
use Rattle.dq_session.specs.declared.live.OpenFrame.{OpenFrame}

live_is : (n m : ℕ) (l : Live) → slice_get (map file_live (range_with_len 1 n)) m ≡ Some l →
    (m < n) × (l ≡ file_live (m + 1))
live_is n m l is =
    let below = slice_get_within (map file_live (range_with_len 1 n)) m l is in
    let long = length-map-range_with_len file_live 1 n in
    let less : m < n = omega (arith, below, long) in (
      less,
      sym (get_or_from_slice_get (map file_live (range_with_len 1 n)) m l l is)
          ∙ get_or-map-range_with_len file_live 1 n m (m + 1) l less (omega arith),
    )

-- the file's clauses are live
number_live : (n j : ℕ) → 1 ≤ j → j ≤ n →
    Contains (map (λ (l : Live). l.clause) (map file_live (range_with_len 1 n))) j
number_live n j low high =
    let live : List Live = map file_live (range_with_len 1 n) in
    let long = length-map-range_with_len file_live 1 n in
    let more = length-map live (λ (l : Live). l.clause) in
    let here : slice_get live (j - 1) ≡ Some (file_live j) =
    slice_get-get_or live (j - 1) (file_live j) (omega (arith, low, high, long))
    ∙ ap Some (get_or-map-range_with_len file_live 1 n (j - 1) j (file_live j) (omega (arith, low, high))
    (omega (arith, low))) in
    element_at (map (λ (l : Live). l.clause) live) (j - 1) j
    (slice_get-map (λ (l : Live). l.clause) live (j - 1) ∙ ap (option_map (λ (l : Live). l.clause)) here)

begun_stack : (f : Dqbf) (t : TableState) → IsStack (begun f t)
begun_stack f t =
    let n = length f.matrix in
    record {
      many_frames = refl;
      many_given = refl;
      numbered = λ place below. absurd (omega (arith, below));
      first = omega arith;
      ascending_live = search (arith, live_is);
      file_live = number_live n;
      open_live = λ place below is_open. absurd (omega (arith, below));
      frames = λ l has.
          let at = place_of (map file_live (range_with_len 1 n)) l has in
          let r = live_is n at.0 l at.1 in
          let less = r.0 in
          let clause = ap (λ (x : Live). x.clause) r.1 in
          inl (omega (arith, clause), omega (arith, clause, less), ap (λ (x : Live). x.frame) r.1);
      known = λ i o is. cc;
      ascending = λ i j o p less o_is p_is. cc;
      last = λ i m o l o_is l_is. cc;
    }

module _ (f : Dqbf) (t : TableState) where
  abbrev b : DatabaseState
  b = begun f t

  no_group : (frame : ℕ) (g : Group) → HasGroup b frame g → ⊥
  no_group zero g has = cc
  no_group (suc frame) g has = cc

  none_given : (e : Entry) (es : List Entry) → (is_own instances e ≡ true → ⊥) → IsDatabaseEntry b es e
  none_given (Given (Instance k j) c) es foreign = absurd (foreign refl)
  none_given (Given _ c) es foreign = λ frame g has inside. no_group frame g has
  none_given _ es foreign = tt

  all_none : (es : List Entry) → HasNone instances es → Each (IsDatabaseEntry b) es
  all_none [] none = tt
  all_none (e ∷ es) none = (
    none_given e es (λ own. none e own (0, omega arith, refl)),
    all_none es (λ x own has. none x own (contains_later e x es has)),
  )

  no_instances : (own : List Entry) → HasDoneInstances b own
  no_instances own k place row clause row_is clause_is less open_row = cc

  pub begun_database : (old new : ProofLog) → IsWellFormed f → HasNone instances old.entries
      → new ≡ with_entry old (Named t.group (Selector t.group)) → IsTable f t new.entries → IsDatabase b new.entries
  begun_database old new formula none named table = record {
    well_formed = subst (λ m. IsWellFormed (with_matrix f m)) (sym (append-nil f.matrix)) formula;
    stack = begun_stack f t;
    table = table;
    groups = search arith;
    givens = subst (λ (l : ProofLog). Each (IsDatabaseEntry b) l.entries) (sym named) (tt, all_none old.entries none);
    done = λ place. omega arith;
    instances = no_instances (part instances new.entries);
  }

  -- what a table's making adds
  pub begun_grew : (old new : ProofLog) → name_of old.entries t.group ≡ None
      → new ≡ with_entry old (Named t.group (Selector t.group))
      → Grew (IsAddedLive f instances [] true old.entries) old new
  begun_grew old new unnamed named =
      grown_by (IsAddedLive f instances [] true old.entries) old new (Named t.group (Selector t.group)) named
      (record { unnamed = unnamed; own = inl refl; rightly = tt })

-- the same of parts that are told one by one
pub begun_as : (f : Dqbf) (t : TableState) (es : List Entry) → IsDatabase (begun f t) es
    → (added : List (List Literal)) (frames given : List ℕ) (groups : List (Option Group)) (open_frames : List OpenFrame)
    (live : List Live) → added ≡ [] → frames ≡ [] → given ≡ [] → groups ≡ None ∷ [] → open_frames ≡ []
    → live ≡ map file_live (range_with_len 1 (length f.matrix)) → IsDatabase (record {
      file = f;
      table = t;
      added = added;
      frames = frames;
      given = given;
      groups = groups;
      open_frames = open_frames;
      live = live;
    }) es
begun_as f t es database added frames given groups open_frames live added_is frames_is given_is groups_is open_is live_is =
    search arith
