-- An instance of an added clause, given under the next row that it lacks.
use Rattle.std.proofs.Common.{◌≡◌, ℕ, suc, ◌+◌, ◌-◌, ◌≤◌, ◌<◌, ◌⊎◌, inl, inr, Bool, true, false, true≢false, List, [], ◌∷◌, ◌++◌, length, slice_get, get_or, set, Option, Some, refl, sym, ◌∙◌, ap, subst, arith}
use Rattle.std.specs.List.{Contains, list_any, filter_map}
use Rattle.std.proofs.lemmas.Bool.{cases_lt, eqb-true, eq-eqb, ne_eqb}
use Rattle.std.proofs.lemmas.List.{length-set, get_or_default, get_or-set_same, get_or-set_other}
use Rattle.std.proofs.lemmas.Option.{slice_get-get_or, slice_get_within}
use Rattle.list_laws.proofs.Elements.{old_or_last}
use Rattle.dq_lits.specs.Literal.{Literal, negative}
use Rattle.dq_lits.specs.Expansion.{universal_literal_true}
use Rattle.hint_log.specs.Conditions.{AreLogged}
use Rattle.hint_log.specs.Entries.{Entry, Given, Round, ProofLog, with_entry, row_at}
use Rattle.hint_log.specs.Growth.{Each}
use Rattle.hint_log.specs.Naming.{numbered_from_one, AreNamedAs, on_arbiter, rows_of}
use Rattle.hint_log.specs.Origins.{IsOriginsClause}
use Rattle.hint_log.specs.ProductiveLog.{fault_groups, fault_room}
use Rattle.hint_log.specs.declared.origins.Origin.TheVariants.{Instance}
use Rattle.hint_log.proofs.NamedEntries.{each_one}
use Rattle.log_laws.specs.Engines.{instances, part}
use Rattle.log_laws.specs.Sessions.{IsAddedLive}
use Rattle.log_laws.proofs.LargerLogs.{grown_by, grown_by_none}
use Rattle.log_laws.proofs.Kept.{named_stay, in_one_group}
use Rattle.oracle.specs.Calls.{IsMade}
use Rattle.oracle.specs.declared.groups.Group.{Group}
use Rattle.expansion.specs.Giving.{IsGivenInstance}
use Rattle.expansion.specs.Table.{HasInstance, IsTable}
use Rattle.expansion.proofs.GivenInstances.{rounds_are_rows}
use Rattle.expansion.proofs.InstanceModels.{own_name}
use Rattle.expansion.proofs.TableGrowth.{KeepsNames, KeepsEntries, more_keeps, instance_kept}
use Rattle.dq_session.specs.Databases.{DatabaseState, all_of, number_at, frame_at, given_at, HasGroup, number_of, IsStack, IsFrameInstance, IsDatabaseEntry, AreFrameGroups, HasDoneInstances, IsDatabase, IsFullDatabase}
use Rattle.dq_session.specs.Changes.{groups_of, IsCaughtUp}
use Rattle.dq_session.specs.Giving.{IsGiving}
use Rattle.dq_session.proofs.GrownDatabases.{entries_same}
use Rattle.dq_session.proofs.LiveRefutations.{frame_of_added}
use Rattle.dq_session.proofs.PreservedDatabases.{has_number}
use Rattle.list_laws.proofs.Members.{contains_cases}

-- the row of a round, by its number
pub row_there : (es : List Entry) (k : ℕ) (row : List Bool) → slice_get (rows_of es) k ≡ Some row →
    row_at es (k + 1) ≡ Some row
row_there [] k row is = cc
row_there (Round r values j ∷ es) k row is =
    search (arith, (row_there es k row), old_or_last, slice_get_within, rounds_are_rows, ne_eqb, eq-eqb)
row_there (_ ∷ es) k row is = row_there es k row is

right_there : (xs ys : List (List Literal)) (p : ℕ) (c : List Literal) → slice_get ys p ≡ Some c →
    slice_get (xs ++ ys) (length xs + p) ≡ Some c
right_there [] ys p c is = search arith
right_there (x ∷ xs) ys p c is = search (arith, (right_there xs ys p c is))

module _ (b : DatabaseState) (place k : ℕ) (g : Group) (row : List Bool) (clause : List Literal) (es : List Entry)
    (database : IsDatabase b es) (below : place < length b.added) (next : k ≡ given_at b place + 1)
    (last : k ≤ length b.table.rows) (has : HasGroup b (frame_at b place) g)
    (row_is : slice_get b.table.rows (k - 1) ≡ Some row) (clause_is : slice_get b.added place ≡ Some clause) where
  abbrev after : DatabaseState
  after = record b { given = set b.given place k }

  abbrev mine : List Entry
  mine = part instances es

  given_here : given_at after place ≡ k
  given_here = let many = database.stack.many_given in get_or-set_same b.given place k 0 (omega (arith, below, many))

  given_cases : (p : ℕ) → ((p ≡ place) × (given_at after p ≡ k)) ⊎ (given_at after p ≡ given_at b p)
  given_cases p = search (arith, eqb-true, given_here, get_or-set_other, eq-eqb)

  more_given : (p : ℕ) → given_at b p ≤ given_at after p
  more_given p = search (arith, given_cases)

  stack : IsStack after
  stack =
      let s = database.stack in
      record {
        many_frames = s.many_frames;
        many_given = length-set b.given place k ∙ s.many_given;
        numbered = s.numbered;
        first = s.first;
        ascending_live = s.ascending_live;
        file_live = s.file_live;
        open_live = s.open_live;
        frames = s.frames;
        known = s.known;
        ascending = s.ascending;
        last = s.last;
      }

  givens : Each (IsDatabaseEntry after) es
  givens = entries_same b b.table b.added b.frames after.given b.groups b.open_frames b.live
      (record {
        table_group = refl;
        clauses = λ j c is. is;
        same_frames = λ j c is. refl;
        more_given = λ p c is. more_given p;
        kept_groups = λ F h there. there;
      }) (λ F h there. there) es database.givens

  done : (p : ℕ) → given_at after p ≤ length b.table.rows
  done p = by (given_cases p)
    where
      by : ((p ≡ place) × (given_at after p ≡ k)) ⊎ (given_at after p ≡ given_at b p) →
          given_at after p ≤ length b.table.rows
      by (inl (same, is)) = omega (arith, is, last)
      by (inr is) = let before = database.done p in omega (arith, is, before)

  abbrev Instances : List Entry → ℕ → ℕ → List Bool → List Literal → Type 0
  Instances own i p r c =
      (h : Group) × HasGroup b (frame_at b p) h
      × HasInstance b.file (number_of h) b.table.rows own i (length b.file.matrix + p) r c

  instances_in : (own : List Entry) → KeepsNames mine own → KeepsEntries mine own
      → (list_any (universal_literal_true b.file row) clause ≡ false →
      HasInstance b.file (number_of g) b.table.rows own (k - 1) (length b.file.matrix + place) row clause)
      → HasDoneInstances after own
  instances_in own names entries here i p r c r_is c_is less open_row =
      search (arith, given_cases, instance_kept, cases_lt)

  groups_stand : (more : List Entry) → ((h : Group) → IsMade es h → IsMade more h) → AreFrameGroups after more
  groups_stand more stays = search arith

  caught_up : IsCaughtUp b after
  caught_up = record { same = refl; more = more_given; many_groups = refl; made = λ F h there. there }

  -- a universal makes the clause true
  passed_database : list_any (universal_literal_true b.file row) clause ≡ true → IsDatabase after es
  passed_database passed = record {
    well_formed = database.well_formed;
    stack = stack;
    table = database.table;
    groups = groups_stand es (λ h made. made);
    givens = givens;
    done = done;
    instances = instances_in mine (λ v n is. is) (λ e there. there)
        (λ live. absurd (true≢false (sym passed ∙ live)));
  }

  module _ (logged : AreLogged es) (rows : rows_of es ≡ b.table.rows) (rest : List Literal)
      (named : AreNamedAs mine rest (filter_map (on_arbiter b.file b.table.rows row) clause))
      (live : list_any (universal_literal_true b.file row) clause ≡ false) where
    abbrev c : List Literal
    c = negative (number_of g) ∷ rest

    abbrev e : Entry
    e = Given (Instance k (number_at b place)) c

    back : k - 1 + 1 ≡ k
    back = omega (arith, next)

    right : IsOriginsClause (all_of b) es (Instance k (number_at b place)) c
    right =
        let plus_one : number_at b place ≡ suc (length b.file.matrix + place) = omega arith in
        let in_log : AreNamedAs es rest (filter_map (on_arbiter b.file b.table.rows row) clause) =
        named_stay mine es (λ v n is. own_name instances es v n logged is) rest
        (filter_map (on_arbiter b.file b.table.rows row) clause) named in
        record {
          group = number_of g;
          rest = rest;
          clause_is = refl;
          is_group = (database.groups.made (frame_at b place) g has).named;
          rest_is = record {
            row = row;
            clause = clause;
            row_is = subst (λ n. row_at es n ≡ Some row) back
                (row_there es (k - 1) row (ap (λ rs. slice_get rs (k - 1)) rows ∙ row_is));
            clause_is = ap (numbered_from_one (b.file.matrix ++ b.added)) plus_one
                ∙ right_there b.file.matrix b.added place clause clause_is;
            open_row = live;
            named = subst (λ rs. AreNamedAs es rest (filter_map (on_arbiter b.file rs row) clause)) (sym rows) in_log;
          };
          one_leaf = λ v a i a' i' leaf leaf' rest' is. cc;
        }

    frame_instance : IsFrameInstance after es k (number_at b place) c
    frame_instance = record {
      right = right;
      in_frame = inr (g, subst (λ F. HasGroup b F g) (sym (frame_of_added b place)) has, (rest, refl));
      done = search (arith, given_here);
    }

    not_yet : (d : List Literal) → Contains es (Given (Instance k (number_at b place)) d) → ⊥
    not_yet d there =
        let entry = each_one (IsDatabaseEntry b) es (Given (Instance k (number_at b place)) d) database.givens there in
        let before = entry.1.done place refl in
        omega (arith, before, next)

    table : IsTable b.file b.table (e ∷ es)
    table = record {
      group = database.table.group;
      existentials = database.table.existentials;
      own_group = (
        λ inside. absurd (database.groups.off_table (frame_at b place) g has
            (in_one_group (number_of g) b.table.group c (rest, refl) inside)),
        database.table.own_group,
      );
      own = record {
        whole = database.table.own.whole;
        pairs_long = database.table.own.pairs_long;
        names = database.table.own.names;
        given = λ i j d there. by i j d (contains_cases e (Given (Instance i j) d) mine there);
        arbiters = database.table.own.arbiters;
        complete = λ i j r d r_is d_is open_row. instance_kept b.file b.table.group b.table.rows mine (e ∷ mine)
            (λ v n is. is) (more_keeps mine e) i j r d (database.table.own.complete i j r d r_is d_is open_row);
      };
      first_rows = database.table.first_rows;
    }
      where
        by : (i j : ℕ) (d : List Literal) → (e ≡ Given (Instance i j) d) ⊎ Contains mine (Given (Instance i j) d) →
            i ≤ length b.table.rows
        by i j d (inl is) = let number : k ≡ i = cc in omega (arith, number, last)
        by i j d (inr behind) = database.table.own.given i j d behind

    given_database : IsDatabase after (e ∷ es)
    given_database = record {
      well_formed = database.well_formed;
      stack = stack;
      table = table;
      groups = groups_stand (e ∷ es) (λ h made. record { positive = made.positive; named = made.named });
      givens = (frame_instance, givens);
      done = done;
      instances = instances_in (e ∷ mine) (λ v n is. is) (more_keeps mine e) (λ still. record {
        rest = rest;
        given = (0, omega arith, ap (λ n. Given (Instance n (number_at b place)) c) (sym back));
        named = named_stay mine (e ∷ mine) (λ v n is. is) rest
            (filter_map (on_arbiter b.file b.table.rows row) clause) named;
      });
    }

abbrev with_given : DatabaseState → ℕ → ℕ → DatabaseState
with_given b place k = record b { given = set b.given place k }

abbrev Added : DatabaseState → ProofLog → Bool → List Entry → Entry → Type 0
Added b log silent = IsAddedLive (all_of b) instances (groups_of b) silent log.entries

pub given_under : (b : DatabaseState) (place k : ℕ) (g : Group) (row : List Bool) (clause : List Literal)
    (log new : ProofLog) → IsFullDatabase b log.entries → AreLogged log.entries
    → length (fault_groups log.entries) ≤ fault_room log.entries
    → place < length b.added → k ≡ given_at b place + 1 → k ≤ length b.table.rows → HasGroup b (frame_at b place) g
    → slice_get b.table.rows (k - 1) ≡ Some row → slice_get b.added place ≡ Some clause
    → IsGivenInstance b.file (number_of g) b.table.rows row k (number_at b place) clause log new
    → IsGiving b log (record b { given = set b.given place k }) new
given_under b place k g row clause log new full logged few below next last has row_is clause_is given =
    by (list_any (universal_literal_true b.file row) clause) refl
  where
    by : (t : Bool) → list_any (universal_literal_true b.file row) clause ≡ t → IsGiving b log (with_given b place k) new
    by true passed = subst (IsGiving b log (with_given b place k)) (sym (given.passed passed)) (record {
      caught_up = caught_up b place k g row clause log.entries full.database below next last has row_is clause_is;
      grew = λ silent. grown_by_none (Added b log silent) log log refl;
      new_groups = λ F h there. inl there;
      names = λ v none. none;
      database = search (arith, passed_database);
      few = few;
    })
    by false live =
        let a = given.given live in
        let entry : Entry = Given (Instance k (number_at b place)) (negative (number_of g) ∷ a.rest) in
        subst (IsGiving b log (with_given b place k)) (sym a.added) (record {
          caught_up = caught_up b place k g row clause log.entries full.database below next last has row_is clause_is;
          grew = λ silent. grown_by (Added b log silent) log (with_entry log entry) entry refl (record {
            own = refl;
            in_group = (number_of g, (a.rest, refl), inl (has_number b (frame_at b place) g has));
            matches_origin = right b place k g row clause log.entries full.database below next last has row_is clause_is
                logged full.rows a.rest a.named live;
            not_repeated = record {
              first = λ h d there. not_yet b place k g row clause log.entries full.database below next last has row_is
                  clause_is logged full.rows a.rest a.named live d there;
              groups = few;
            };
          });
          new_groups = λ F h there. inl there;
          names = λ v none. none;
          database = search (arith, given_database);
          few = few;
        })

-- the group that is read off the frames' groups
pub group_at : (b : DatabaseState) (es : List Entry) → IsDatabase b es → (place : ℕ) → place < length b.added
    → (groups : List (Option Group)) (frames : List ℕ) → groups ≡ b.groups → frames ≡ b.frames
    → (frame : ℕ) → frame ≡ get_or frames place frame → (o : Option Group) → o ≡ get_or groups frame o
    → (g : Group) → o ≡ Some g → HasGroup b (frame_at b place) g
group_at b es database place below groups frames groups_are frames_are frame frame_is o o_is g is =
    let many = database.stack.many_frames in
    let within = (database.stack.numbered place below).1 in
    let here : frame ≡ frame_at b place = frame_is ∙ ap (λ fs. get_or fs place frame) frames_are
    ∙ get_or_default b.frames place frame 0 (omega (arith, below, many)) in
    let there : o ≡ get_or b.groups (frame_at b place) o =
    o_is ∙ ap (λ gs. get_or gs frame o) groups_are ∙ ap (λ i. get_or b.groups i o) here in
    slice_get-get_or b.groups (frame_at b place) o within ∙ ap Some (sym there ∙ is)

pub give_answer : (x b : DatabaseState) → x ≡ b → (place k many : ℕ) (g : Group) (lits : List Literal) (log new : ProofLog)
    → IsFullDatabase b log.entries → AreLogged log.entries
    → length (fault_groups log.entries) ≤ fault_room log.entries
    → place < length b.added → k ≡ given_at b place + 1 → k ≤ length b.table.rows → HasGroup b (frame_at b place) g
    → many ≡ length x.file.matrix → lits ≡ get_or x.added place []
    → ((row : List Bool) → slice_get x.table.rows (k - 1) ≡ Some row →
    IsGivenInstance x.file (number_of g) x.table.rows row k (many + place + 1) lits log new)
    → IsGiving b log (record x { given = set x.given place k }) new
give_answer x b view place k many g lits log new full logged few below next last has many_is lits_are given =
    let row = get_or b.table.rows (k - 1) [] in
    let row_is : slice_get b.table.rows (k - 1) ≡ Some row =
    slice_get-get_or b.table.rows (k - 1) [] (omega (arith, next, last)) in
    let clause = get_or b.added place [] in
    let by_view = subst (λ (y : DatabaseState). (r : List Bool) → slice_get y.table.rows (k - 1) ≡ Some r →
    IsGivenInstance y.file (number_of g) y.table.rows r k (many + place + 1) lits log new) view given in
    let here = subst (λ m. IsGivenInstance b.file (number_of g) b.table.rows row k (m + place + 1) lits log new)
    (many_is ∙ ap (λ (y : DatabaseState). length y.file.matrix) view) (by_view row row_is) in
    let there = subst (λ ls. IsGivenInstance b.file (number_of g) b.table.rows row k (number_at b place) ls log new)
    (lits_are ∙ ap (λ (y : DatabaseState). get_or y.added place []) view) here in
    subst (λ (y : DatabaseState). IsGiving b log (record y { given = set y.given place k }) new) (sym view)
    (given_under b place k g row clause log new full logged few below next last has row_is
    (slice_get-get_or b.added place [] below) there)
