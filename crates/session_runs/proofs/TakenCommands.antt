-- A session behind its next command.
use Rattle.std.proofs.Common.{◌≡◌, inr, ℕ, ◌+◌, ◌≤◌, true, false, List, [], ◌∷◌, ◌++◌, drop, length, slice_get, Some, refl, sym, ◌∙◌, ap, subst, arith, append_assoc, append-nil}
use Rattle.std.specs.List.{All}
use Rattle.std.proofs.lemmas.List.{length-append, map-append, drop_all}
use Rattle.std.proofs.lemmas.List.Elements.{All-push, All-nil}
use Rattle.list_laws.proofs.Elements.{drop-at}
use Rattle.dq_lits.specs.Formula.{Dqbf}
use Rattle.cert_text.specs.Header.{max_count}
use Rattle.hint_log.specs.Entries.{Entry, ProofLog}
use Rattle.hint_log.specs.ProductiveSession.{IsProductiveSession, IsUndecidedSince}
use Rattle.dq_session.specs.Databases.{DatabaseState, all_of, frames_of, live_of, now_of}
use Rattle.aig_graph.specs.Graph.{AigGraph}
use Rattle.repair_loop.specs.Changes.{FramesOpen, FramesClose, ClausesCome}
use Rattle.repair_loop.specs.SearchStates.{CanBeginSearch, IsDatabaseAfter}
use Rattle.repair_loop.specs.declared.search_states.SearchState.{SearchState}
use Rattle.script_text.specs.Commands.{ScriptCommand, push, add, pop, solve}
use Rattle.script_text.specs.Lawful.{AreAllowed}
use Rattle.script_text.specs.Reading.{max_clauses}
use Rattle.session_runs.specs.Following.{database_behind, MayCome}
use Rattle.session_runs.specs.Laws.{DatabasesFollow, FollowingDatabasesStand}
use Rattle.session_runs.specs.LargerSessions.{SessionsTakeClauses, UndecidedTakesClauses}
use Rattle.session_runs.specs.Numbering.{all_clauses}
use Rattle.verdict_texts.specs.Verdicts.{Verdict, is_unknown}
use Rattle.session_runs.specs.Blocks.{Search, block_text, blocks_text}
use Rattle.session_runs.specs.Followed.{is_search, IsFollowed}
use Rattle.session_runs.specs.ScriptFiles.{IsSessionText}
use Rattle.session_runs.specs.Searches.{IsShown, end_of}
use Rattle.session_runs.specs.SessionFiles.{IsWorkOf}
use Rattle.session_runs.specs.Invariant.{IsSoFar, AreMade, IsCurrent, IsBegun, IsSessionInvariant, IsSearchedOn}
use Rattle.session_runs.specs.declared.sessions.Session.{Session}
use Rattle.session_runs.proofs.FollowedCommands.{followed-at-start, may-come, followed-change, followed-search, followed-later}
use Rattle.session_runs.proofs.SearchEnds.{ends-more, no-ends}
use Rattle.session_runs.proofs.SearchedLogs.{ready-so-far}
use Rattle.session_runs.proofs.WholeSessions.{whole-session, whole-work, whole-undecided}

next-left : (commands : List ScriptCommand) (place : ℕ) (c : ScriptCommand) → slice_get commands place ≡ Some c
    → drop place commands ≡ c ∷ drop (place + 1) commands
next-left commands place c is = search (arith, drop-at)

pub search-is : (c : ScriptCommand) → is_search c ≡ true → c ≡ solve
search-is solve is = refl
search-is _ is = cc

-- the search state stays ready
ready-behind : FramesOpen → FramesClose → ClausesCome → (b : DatabaseState) (d : SearchState) (g : AigGraph) (es : List Entry)
    (c : ScriptCommand) → MayCome b c → CanBeginSearch b d g es → CanBeginSearch (database_behind b c) d g es
ready-behind opens closes comes b d g es push may ready = opens b d g es ready
ready-behind opens closes comes b d g es (add clause) may ready = comes b d g es clause may.0 may.2.bound ready
ready-behind opens closes comes b d g es pop may ready = closes b d g es may ready
ready-behind opens closes comes b d g es solve may ready = ready

module _ (stand : FollowingDatabasesStand) (commands : List ScriptCommand) (place : ℕ) (s : Session) (log : ProofLog)
    (c : ScriptCommand) (at : slice_get commands place ≡ Some c) (is : IsSessionInvariant commands place s log) where
  f : Dqbf
  f = s.file.now

  left : List ScriptCommand
  left = drop (place + 1) commands

  followed : IsFollowed s.file.now commands (c ∷ drop (place + 1) commands) s.database is.searches
  followed =
      subst (λ rest. IsFollowed s.file.now commands rest s.database is.searches) (next-left commands place c at) is.followed

  pub may-take : MayCome s.database c
  may-take = may-come stand s.file.now commands (drop (place + 1) commands) s.database is.searches c followed

  -- want of memory ends the run with a session's log
  pub work-of : (new : ProofLog) → IsSoFar s.database new.entries → IsWorkOf s.file.now commands new
  work-of new so-far =
      inr (whole-work stand s.file.now commands (drop place commands) s.database is.searches is.followed new.entries
      so-far.searched so-far.work)

  change-at : DatabasesFollow → FramesOpen → FramesClose → ClausesCome → is_search c ≡ false → (t : Session)
      → t ≡ record s { database = t.database; current = t.current } → t.database ≡ database_behind s.database c → IsCurrent t
      → IsSessionInvariant commands (place + 1) t log
  change-at follow opens closes comes other t same database current =
      let files = ap (λ (x : Session). x.file.now) same in
      let search_states = ap (λ (x : Session). x.search_state) same in
      let graphs = ap (λ (x : Session). x.graph) same in
      record {
        searches = is.searches;
        followed =
            subst (λ g. IsFollowed g commands (drop (place + 1) commands) t.database is.searches) (sym files)
            (subst (λ b. IsFollowed s.file.now commands (drop (place + 1) commands) b is.searches) (sym database)
            (followed-change follow stand s.file.now commands (drop (place + 1) commands) s.database is.searches c other
            followed));
        made = subst (λ g. AreMade (all_clauses g commands) log is.searches) (sym files) is.made;
        written = ap (λ (x : Session). x.text.items) same ∙ is.written;
        count = ap (λ (x : Session). x.count) same ∙ is.count;
        few = (let few = is.few in omega (arith, few));
        ready =
            subst (λ b. CanBeginSearch b t.search_state t.graph log.entries) (sym database)
            (subst (λ d. CanBeginSearch (database_behind s.database c) d t.graph log.entries) (sym search_states)
            (subst (λ g. CanBeginSearch (database_behind s.database c) s.search_state g log.entries) (sym graphs)
            (ready-behind opens closes comes s.database s.search_state s.graph log.entries c may-take is.ready)));
        current = current;
        limit = is.limit;
      }

pub standing-change : DatabasesFollow → FollowingDatabasesStand → FramesOpen → FramesClose → ClausesCome
    → (commands : List ScriptCommand) (place : ℕ) (s : Session) (log : ProofLog) (c : ScriptCommand)
    → slice_get commands place ≡ Some c → IsSessionInvariant commands place s log → is_search c ≡ false → (t : Session)
    → t ≡ record s { database = t.database; current = t.current } → t.database ≡ database_behind s.database c → IsCurrent t
    → IsSessionInvariant commands (place + 1) t log
standing-change follow stand opens closes comes commands place s log c at is other t same database current =
    change-at stand commands place s log c at is follow opens closes comes other t same database current

-- one block more
blocks-more : (k : ℕ) (ss : List Search) (x : Search)
    → blocks_text k (ss ++ x ∷ []) ≡ blocks_text k ss ++ block_text (k + length ss) x
blocks-more k [] x = search (arith, append-nil)
blocks-more k (s ∷ ss) x = search (arith, (blocks-more (k + 1) ss x), append_assoc)

shown-whole : (all whole : Dqbf) (log : ProofLog) (f : Dqbf) (v : Verdict)
    → (IsUndecidedSince all log.entries
    → IsUndecidedSince whole log.entries)
    → IsShown all log f v → IsShown whole log f v
shown-whole all whole log f (is_unknown rounds learned) more shown = search arith
shown-whole all whole log f _ more shown = shown

same-all : (b c : DatabaseState) → IsDatabaseAfter b c → all_of c ≡ all_of b
same-all b c after = ap all_of after.same

same-frames : (b c : DatabaseState) → IsDatabaseAfter b c → frames_of c ≡ frames_of b
same-frames b c after = ap frames_of after.same

module _ (stand : FollowingDatabasesStand) (undecided-law : UndecidedTakesClauses) (commands : List ScriptCommand)
    (place : ℕ) (s : Session) (log : ProofLog) (at : slice_get commands place ≡ Some solve)
    (is : IsSessionInvariant commands place s log) (t : Session) (new : ProofLog) (on : IsSearchedOn s log t new)
    (limit : new.limit ≡ log.limit) where
  abbrev made-now : Search
  made-now = record { formula = now_of s.database; verdict = on.verdict; entries = new.entries }

  session-so-far : IsProductiveSession (all_of s.database) (frames_of s.database) new.entries
  session-so-far = search (arith, same-all, same-frames)

  shown-now : IsShown (all_clauses s.file.now commands) (end_of new made-now) made-now.formula made-now.verdict
  shown-now = search (arith, shown-whole, whole-undecided, session-so-far)

  shown-before : All
      (λ (x : Search). IsShown (all_clauses s.file.now commands) (end_of new x) x.formula x.verdict) is.searches
  shown-before = search arith

  made : AreMade (all_clauses s.file.now commands) new (is.searches ++ made-now ∷ [])
  made = record {
    ends =
        map-append (λ (x : Search). x.entries) is.searches (made-now ∷ [])
        ∙ ap (λ es. es ++ new.entries ∷ []) is.made.ends
        ∙ ends-more new.entries on.began.more (live_of s.database) log.entries on.began.grown on.began.none;
    shown =
        All-push (λ (x : Search). IsShown (all_clauses s.file.now commands) (end_of new x) x.formula x.verdict)
        is.searches made-now shown-before shown-now;
  }

  pub standing-search : IsSessionInvariant commands (place + 1) t new
  standing-search =
      let long = length-append is.searches (made-now ∷ []) in
      let counted = is.count in
      let one : s.count + 1 ≡ 1 + length is.searches = omega (arith, counted) in
      record {
        searches = is.searches ++ made-now ∷ [];
        followed = search (arith, followed-later, followed-search, next-left);
        made = subst (λ g. AreMade (all_clauses g commands) new (is.searches ++ made-now ∷ [])) (sym on.file) made;
        written = search (arith, blocks-more);
        count = (let more = on.count in omega (arith, more, counted, long));
        few = (let few = is.few in omega (arith, few, long));
        ready = on.ready;
        current = on.current;
        limit = subst (λ n. n ≤ max_count) (sym limit) is.limit;
      }

-- all commands were taken
pub session-done : FollowingDatabasesStand → SessionsTakeClauses → (commands : List ScriptCommand) (s : Session)
    (log : ProofLog) → IsSessionInvariant commands (length commands) s log
    → IsSessionText s.file.now commands log s.text.items
session-done stand law commands s log is = search (arith, drop_all, ready-so-far, whole-session, append-nil)

-- before the first command
pub standing-at-start : (f : Dqbf) (commands : List ScriptCommand) (s : Session) (log : ProofLog)
    → AreAllowed f 0 (length f.matrix) commands → length f.matrix ≤ max_clauses → log.limit ≤ max_count
    → IsBegun f s log → IsSessionInvariant commands 0 s log
standing-at-start f commands s log allowed few limit is =
    search (
      arith,
      (followed-at-start f commands s.database.table allowed few),
      (no-ends log.entries is.none_began),
      All-nil,
    )
