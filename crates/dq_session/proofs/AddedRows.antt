-- A database to whose table a row was added.
use Rattle.std.proofs.Common.{◌≡◌, ℕ, ◌+◌, ◌≤◌, Bool, true, false, cond, inl, List, [], ◌∷◌, ◌++◌, length, replicate, slice_get, Some, refl, sym, ◌∙◌, ap, subst, arith}
use Rattle.std.proofs.lemmas.List.{length-append, length-replicate, get_or-replicate, get_or_append_left}
use Rattle.dq_lits.specs.Literal.{Literal}
use Rattle.dq_lits.specs.Formula.{Dqbf}
use Rattle.hint_log.specs.Conditions.{AreLogged}
use Rattle.hint_log.specs.Entries.{Entry, Named, Given, ProofLog}
use Rattle.hint_log.specs.Growth.{Each, EachOf, Grew}
use Rattle.hint_log.specs.Live.{with_matrix}
use Rattle.hint_log.specs.ProductiveLog.{IsRightlyNamed}
use Rattle.hint_log.specs.ProductiveSession.{frame_of}
use Rattle.hint_log.specs.declared.names.Name.{Name}
use Rattle.hint_log.specs.declared.names.Name.TheVariants.{Selector, Input}
use Rattle.hint_log.specs.declared.origins.Origin.TheVariants.{Instance, Gate, Fault}
use Rattle.hint_log.proofs.NamedEntries.{numbered_low}
use Rattle.log_laws.specs.Engines.{circuits, instances, copies, same_engine, origin_engine, name_engine, is_engine, part, IsInGroup}
use Rattle.log_laws.specs.Sessions.{IsAddedLive}
use Rattle.log_laws.proofs.Kept.{NamesStay, each_of_weaker, name_stays_by}
use Rattle.log_laws.proofs.LargerLogs.{each_grown}
use Rattle.expansion.specs.Adding.{IsRowEntry}
use Rattle.expansion.specs.Table.{TableState, HasInstance, IsFullTable}
use Rattle.expansion.proofs.AddedRows.{instance_behind}
use Rattle.expansion.proofs.TableGrowth.{KeepsNames, KeepsEntries, more_keeps, unnamed_own, instance_kept}
use Rattle.dq_session.specs.Databases.{DatabaseState, all_of, frames_of, number_of, IsStack, IsDatabaseEntry, HasDoneInstances, IsDatabase, IsFullDatabase}
use Rattle.dq_session.specs.Changes.{groups_of}
use Rattle.dq_session.proofs.AddedClauses.{numbered_more}
use Rattle.dq_session.proofs.GrownDatabases.{instance_by, entries_same}
use Rattle.dq_session.proofs.LiveModels.{left_of}

-- an entry more in the part
module _ (f : Dqbf) (group : ℕ) (es : List Entry) (logged : AreLogged es) where
  abbrev mine : List Entry
  mine = part instances es

  entry_keeps : (e : Entry) → IsRowEntry f group es e →
      KeepsNames mine (part instances (e ∷ es)) × KeepsEntries mine (part instances (e ∷ es)) × NamesStay es (e ∷ es)
  entry_keeps (Named v n) h = (
    names (is_engine instances (name_engine n)),
    entries (is_engine instances (name_engine n)),
    name_stays_by es v n h.unnamed,
  )
    where
      names : (t : Bool) → KeepsNames mine (cond t (Named v n ∷ mine) mine)
      names true = name_stays_by mine v n (unnamed_own es v logged h.unnamed)
      names false = λ u m is. is

      entries : (t : Bool) → KeepsEntries mine (cond t (Named v n ∷ mine) mine)
      entries true = more_keeps mine (Named v n)
      entries false = λ e has. has
  entry_keeps (Given o c) h = (
    names (same_engine instances (origin_engine o)),
    entries (same_engine instances (origin_engine o)),
    λ v n is. is,
  )
    where
      names : (t : Bool) → KeepsNames mine (cond t (Given o c ∷ mine) mine)
      names true = λ v n is. is
      names false = λ v n is. is

      entries : (t : Bool) → KeepsEntries mine (cond t (Given o c ∷ mine) mine)
      entries true = more_keeps mine (Given o c)
      entries false = λ e has. has
  entry_keeps _ h = absurd h

row_keeps : (f : Dqbf) (group : ℕ) (more old : List Entry) → EachOf (IsRowEntry f group) more old →
    AreLogged (more ++ old) → KeepsNames (part instances old) (part instances (more ++ old))
    × KeepsEntries (part instances old) (part instances (more ++ old)) × NamesStay old (more ++ old)
row_keeps f group [] old each logged = ((λ v n is. is), (λ e has. has), (λ v n is. is))
row_keeps f group (e ∷ more) old each logged =
    search (arith, (row_keeps f group more old each.1 logged.1), entry_keeps)

no_circuit : circuits ≡ instances → ⊥
no_circuit e = cc

no_copy : copies ≡ instances → ⊥
no_copy e = cc

rightly : (f : Dqbf) (matrix : List (List Literal)) (n : Name) → IsRightlyNamed f n →
    IsRightlyNamed (with_matrix f matrix) n
rightly f matrix (Input x) h = h
rightly f matrix _ h = tt

-- what a row adds is right in the session
row_added : (b : DatabaseState) (first earlier : List Entry) (e : Entry) → IsRowEntry b.file b.table.group earlier e →
    IsAddedLive (all_of b) instances (groups_of b) true first earlier e
row_added b first earlier (Named v n) h = search arith
row_added b first earlier (Given (Instance k j) c) h = record {
  own = refl;
  in_group = (b.table.group, h.in_group, inl (0, omega arith, refl));
  matches_origin = instance_by b.file (b.file.matrix ++ b.added) earlier k j c
      (λ clause is. numbered_more b.file.matrix b.added j clause is) h.matches_origin;
  not_repeated = h.not_repeated;
}
row_added b first earlier (Given (Gate v i) c) h = absurd (no_circuit h.own)
row_added b first earlier (Given (Fault j i leaf) c) h = absurd (no_circuit h.own)
row_added b first earlier (Given _ c) h = absurd (no_copy h.own)
row_added b first earlier _ h = absurd h

pub row_grew : (b : DatabaseState) (first : List Entry) (old new : ProofLog) →
    Grew (IsRowEntry b.file b.table.group) old new
    → Grew (IsAddedLive (all_of b) instances (groups_of b) true first) old new
row_grew b first old new g = search (arith, each_of_weaker, row_added)

module _ (b : DatabaseState) (t : TableState) (row : List Bool) (old : List Entry) (more : List Entry)
    (database : IsDatabase b old) (logged : AreLogged (more ++ old)) (group : t.group ≡ b.table.group)
    (rows : t.rows ≡ b.table.rows ++ row ∷ []) (table : IsFullTable b.file t (more ++ old))
    (each : EachOf (IsRowEntry b.file b.table.group) more old) where
  abbrev after : DatabaseState
  after = record b { table = t }

  file_frame : (j : ℕ) → 1 ≤ j → j ≤ length b.file.matrix → frame_of (frames_of b) j ≡ 0
  file_frame j low high = search (arith, length-replicate, get_or_append_left, replicate, get_or-replicate)

  row_entry : (earlier : List Entry) (e : Entry) → IsRowEntry b.file b.table.group earlier e →
      IsDatabaseEntry after earlier e
  row_entry earlier (Given (Instance k j) c) h =
      let inside = numbered_low b.file.matrix j h.matches_origin.rest_is.clause h.matches_origin.rest_is.clause_is in
      let high = inside.1 in
      record {
        right = instance_by b.file (b.file.matrix ++ b.added) earlier k j c
            (λ clause is. numbered_more b.file.matrix b.added j clause is) h.matches_origin;
        in_frame = inl (file_frame j inside.0 high, subst (λ g. IsInGroup g c) (sym group) h.in_group);
        done = λ place is. absurd (omega (arith, is, high));
      }
  row_entry earlier (Given (Gate v i) c) h = absurd (no_circuit h.own)
  row_entry earlier (Given (Fault j i leaf) c) h = absurd (no_circuit h.own)
  row_entry earlier (Given _ c) h = absurd (no_copy h.own)
  row_entry earlier _ h = tt

  givens : Each (IsDatabaseEntry after) (more ++ old)
  givens = each_grown (IsRowEntry b.file b.table.group) (IsDatabaseEntry after) row_entry more old each
      (entries_same b t b.added b.frames b.given b.groups b.open_frames b.live
      (record {
        table_group = group;
        clauses = λ j c is. is;
        same_frames = λ j c is. refl;
        more_given = λ place c is. omega arith;
        kept_groups = λ frame g has. has;
      }) (λ frame g has. has) old database.givens)

  instances_stay : HasDoneInstances after (part instances (more ++ old))
  instances_stay k place r c r_is c_is less open_row =
      let within = database.done place in
      let there : slice_get (b.table.rows ++ row ∷ []) k ≡ Some r = subst (λ rs. slice_get rs k ≡ Some r) rows r_is in
      let before : slice_get b.table.rows k ≡ Some r =
      left_of b.table.rows (row ∷ []) k r (omega (arith, less, within)) there in
      let x = database.instances k place r c before c_is less open_row in
      let keeps = row_keeps b.file b.table.group more old each logged in
      let own : List Entry = part instances (more ++ old) in
      let kept : HasInstance b.file (number_of x.0) b.table.rows own k (length b.file.matrix + place) r c =
      instance_kept b.file (number_of x.0) b.table.rows (part instances old) own keeps.0 keeps.1 k
      (length b.file.matrix + place) r c x.2 in (
        x.0,
        x.1,
        subst (λ rs. HasInstance b.file (number_of x.0) rs own k (length b.file.matrix + place) r c) (sym rows)
            (instance_behind b.file (record b.table { group = number_of x.0 }) row own k r before
            (length b.file.matrix + place) c kept),
      )

  stack : IsStack after
  stack =
      let s = database.stack in
      record {
        many_frames = s.many_frames;
        many_given = s.many_given;
        numbered = s.numbered;
        first = s.first;
        ascending_live = s.ascending_live;
        file_live = s.file_live;
        open_live = s.open_live;
        frames = s.frames;
        known = s.known;
        ascending = s.ascending;
        last = s.last;
      }

  pub row_database : IsFullDatabase after (more ++ old)
  row_database =
      let keeps = row_keeps b.file b.table.group more old each logged in
      let long = ap length rows ∙ length-append b.table.rows (row ∷ []) in
      record {
        database = record {
          well_formed = database.well_formed;
          stack = stack;
          table = table.table;
          groups = record {
            made = λ frame g has. record {
              positive = (database.groups.made frame g has).positive;
              named = keeps.2 (number_of g) (Selector (number_of g)) (database.groups.made frame g has).named;
            };
            none_of_file = database.groups.none_of_file;
            apart = database.groups.apart;
            off_table = λ frame g has same. database.groups.off_table frame g has (same ∙ group);
          };
          givens = givens;
          done = λ place. let before = database.done place in omega (arith, before, long);
          instances = instances_stay;
        };
        rows = table.rows;
      }

pub row_answer : (x b : DatabaseState) → x ≡ b → (t : TableState) (row : List Bool) (old new : ProofLog) →
    IsDatabase b old.entries → AreLogged new.entries → t.group ≡ x.table.group → Grew (IsRowEntry x.file x.table.group) old new
    → IsFullTable x.file t new.entries → t.rows ≡ x.table.rows ++ row ∷ []
    → IsFullDatabase (record x { table = t }) new.entries
row_answer x b view t row old new database logged group added table rows = search (arith, row_database)
