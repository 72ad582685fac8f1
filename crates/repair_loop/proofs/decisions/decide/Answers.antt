use Rattle.std.proofs.Common.{◌∙◌, refl, ap, sym}
use Rattle.list_laws.proofs.Results.{on_err}
use Rattle.log_laws.specs.Engines.{instances}
use Rattle.repair_loop.specs.SearchStates.{IsFirstDatabase}
use Rattle.repair_loop.proofs.FileDecisions.{entries_began, file_productive, file_false, file_stopped}
use Rattle.repair_loop.proofs.FirstSearchStates.{empty_has_none}
use Rattle.repair_loop.proofs.WholeFormulas.{now_is_file}
use Rattle.repair_loop.proofs.WholeSearches.{alone_log, productive}
use Rattle.dq_session.specs.Databases.{DatabaseState, now_of}
use Rattle.repair_loop.proofs.decisions.decide.Goals as goal

pub new-requires-clause-none : goal.new-requires-clause-none
new-requires-clause-none g c = empty_has_none instances c.args.log.now.entries c.requires.empty

pub returns-in_err-database-clause-productive : goal.returns-in_err-database-clause-productive
returns-in_err-database-clause-productive g c =
    productive c.args.f.now c.new.new.log.entries (alone_log c.engines_leave_sessions.ensures
    c.plain_logs_are_sessions.ensures c.args.f.now c.args.log.now c.new.new.log c.requires.empty c.new.ensures.grew).plain
    (g.met.O.Oracle.searched c.new.new.oracle c.new.new.log c.new.ensures.fit)

pub returns-in_err-database-clause-limit_same : goal.returns-in_err-database-clause-limit_same
returns-in_err-database-clause-limit_same g c = c.new.ensures.grew.limit

pub returns-in_err-database-clause-undecided : goal.returns-in_err-database-clause-undecided
returns-in_err-database-clause-undecided g c = on_err _ (alone_log c.engines_leave_sessions.ensures
    c.plain_logs_are_sessions.ensures c.args.f.now c.args.log.now c.new.new.log c.requires.empty
    c.new.ensures.grew).undecided

pub new-requires-2-clause-database : goal.new-requires-2-clause-database
new-requires-2-clause-database g c =
    let f = c.args.f.now in
    let b = c.in_ok-database.database in
    let first : IsFirstDatabase f b c.new.new.log.entries = record {
      begun_is = c.in_ok-database.ensures.begun;
      no_rows = c.in_ok-database.ensures.rows;
      database = c.in_ok-database.ensures.database;
      before = c.args.log.now;
      after = c.new.new.log;
      empty = c.requires.empty;
      entries_are = refl;
      alone = c.new.ensures.grew;
    } in
    (b, first)

pub returns-in_err-search_state-clause-limit_same : goal.returns-in_err-search_state-clause-limit_same
returns-in_err-search_state-clause-limit_same g c = c.new-2.ensures.limit_same ∙ c.new.ensures.grew.limit

pub returns-in_err-search_state-clause-undecided : goal.returns-in_err-search_state-clause-undecided
returns-in_err-search_state-clause-undecided g c = on_err _ c.new-2.ensures.undecided

pub decide_now-requires-clause-ready : goal.decide_now-requires-clause-ready
decide_now-requires-clause-ready g c =
    let f = c.args.f.now in
    let b = c.in_ok-database.database in
    let first : IsFirstDatabase f b c.new.new.log.entries = record {
      begun_is = c.in_ok-database.ensures.begun;
      no_rows = c.in_ok-database.ensures.rows;
      database = c.in_ok-database.ensures.database;
      before = c.args.log.now;
      after = c.new.new.log;
      empty = c.requires.empty;
      entries_are = refl;
      alone = c.new.ensures.grew;
    } in
    c.in_ok-search_state.ensures.ready b c.args.graph.now first c.requires.inputs

pub decide_now-requires-clause-now : goal.decide_now-requires-clause-now
decide_now-requires-clause-now g c =
    now_is_file c.args.f.now c.in_ok-database.database.table
    ∙ sym (ap (λ (x : DatabaseState). now_of x) c.in_ok-database.ensures.begun)

pub returns-clause-limit_same : goal.returns-clause-limit_same
returns-clause-limit_same g c = c.decide_now.ensures.limit_same ∙ c.new-2.ensures.limit_same ∙ c.new.ensures.grew.limit

pub returns-clause-productive : goal.returns-clause-productive
returns-clause-productive g c =
    let f = c.args.f.now in
    let b = c.in_ok-database.database in
    let first : IsFirstDatabase f b c.new.new.log.entries = record {
      begun_is = c.in_ok-database.ensures.begun;
      no_rows = c.in_ok-database.ensures.rows;
      database = c.in_ok-database.ensures.database;
      before = c.args.log.now;
      after = c.new.new.log;
      empty = c.requires.empty;
      entries_are = refl;
      alone = c.new.ensures.grew;
    } in
    let old = c.new-2.new.log in
    let end = c.decide_now in
    let none = c.new-2.ensures.none in
    file_productive f b c.in_ok-database.ensures.begun old.entries end.new.log.entries none _ (entries_began _ _ _ _ end.ensures.began)
    end.ensures.kept (g.met.O.Oracle.searched end.new.oracle end.new.log end.ensures.fit)

pub returns-clause-shown_true : goal.returns-clause-shown_true
returns-clause-shown_true g c nodes id e = (c.decide_now.ensures.shown_true nodes id e).found

pub returns-clause-shown_false : goal.returns-clause-shown_false
returns-clause-shown_false g c id e =
    let f = c.args.f.now in
    let b = c.in_ok-database.database in
    let first : IsFirstDatabase f b c.new.new.log.entries = record {
      begun_is = c.in_ok-database.ensures.begun;
      no_rows = c.in_ok-database.ensures.rows;
      database = c.in_ok-database.ensures.database;
      before = c.args.log.now;
      after = c.new.new.log;
      empty = c.requires.empty;
      entries_are = refl;
      alone = c.new.ensures.grew;
    } in
    let old = c.new-2.new.log in
    let end = c.decide_now in
    let none = c.new-2.ensures.none in
    file_false f b c.in_ok-database.ensures.begun old.entries end.new.log.entries none end.new.log id
    (end.ensures.shown_false id e)

pub returns-clause-undecided : goal.returns-clause-undecided
returns-clause-undecided g c =
    let f = c.args.f.now in
    let b = c.in_ok-database.database in
    let first : IsFirstDatabase f b c.new.new.log.entries = record {
      begun_is = c.in_ok-database.ensures.begun;
      no_rows = c.in_ok-database.ensures.rows;
      database = c.in_ok-database.ensures.database;
      before = c.args.log.now;
      after = c.new.new.log;
      empty = c.requires.empty;
      entries_are = refl;
      alone = c.new.ensures.grew;
    } in
    let old = c.new-2.new.log in
    let end = c.decide_now in
    let none = c.new-2.ensures.none in
    file_stopped f b c.in_ok-database.ensures.begun old.entries end.new.log.entries none
    (c.in_ok-search_state.ensures.ready b c.args.graph.now first c.requires.inputs).searched c.new-2.ensures.undecided _ _
    (entries_began _ _ _ _ end.ensures.began) end.ensures.kept end.ensures.new_faults end.ensures.undecided
