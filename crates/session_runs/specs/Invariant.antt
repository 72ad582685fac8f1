-- Words of private contracts: a session between its commands.
use Rattle.std.specs.Prelude.{◌≡◌, ℕ, ◌+◌, ◌≤◌, List, [], ◌++◌, map, drop, length, IfSome}
use Rattle.std.specs.List.{All}
use Rattle.dq_lits.specs.Formula.{Dqbf}
use Rattle.cert_text.specs.Header.{max_count}
use Rattle.hint_log.specs.Entries.{Entry, ProofLog, beginnings_of}
use Rattle.hint_log.specs.Growth.{Each}
use Rattle.dq_session.specs.Databases.{DatabaseState, all_of, live_of, now_of}
use Rattle.dq_session.specs.Changes.{begun}
use Rattle.repair_loop.specs.SearchStates.{CanBeginSearch, IsDatabaseAfter, HasBegun}
use Rattle.script_text.specs.Commands.{ScriptCommand}
use Rattle.session_runs.specs.LargerSessions.{IsOfSearch}
use Rattle.session_runs.specs.Numbering.{all_clauses}
use Rattle.verdict_texts.specs.Forms.{plain}
use Rattle.verdict_texts.specs.Verdicts.{Verdict, verdict_text}
use Rattle.session_runs.specs.Blocks.{Search, block_text, blocks_text}
use Rattle.session_runs.specs.Ends.{ends_of}
use Rattle.session_runs.specs.Followed.{IsFollowed}
use Rattle.session_runs.specs.SessionFiles.{IsWorkOver}
use Rattle.session_runs.specs.Searches.{IsShown, end_of}
use Rattle.session_runs.specs.declared.sessions.Session.{Session}

-- the log's work is over the database's clauses
pub record IsSoFar (b : DatabaseState) (entries : List Entry) : Type 0 where
  pub work : IsWorkOver (all_of b) entries
  pub searched : Each IsOfSearch entries
  pub one_each : length b.frames ≡ length b.added

-- the searches that were made, by the log
pub record AreMade (all : Dqbf) (log : ProofLog) (searches : List Search) : Type 0 where
  pub ends : map (λ s. s.entries) searches ≡ ends_of log.entries
  pub shown : All (λ s. IsShown all (end_of log s) s.formula s.verdict) searches

-- the formula of now, where it is kept
abbrev pub IsCurrent : Session → Type 0
IsCurrent s = IfSome s.current (λ f. f ≡ now_of s.database)

-- before the first command
pub record IsBegun (f : Dqbf) (s : Session) (log : ProofLog) : Type 0 where
  pub file : s.file.now ≡ f
  pub database : s.database ≡ begun f s.database.table
  pub ready : CanBeginSearch s.database s.search_state s.graph log.entries
  pub none_began : beginnings_of log.entries ≡ 0
  pub none_kept : IsCurrent s
  pub no_text : s.text.items ≡ blocks_text 1 []
  pub no_count : s.count ≡ 0

-- the commands before the place were taken
pub record IsSessionInvariant (commands : List ScriptCommand) (place : ℕ) (s : Session)
    (log : ProofLog) : Type 0 where
  pub searches : List Search
  pub followed : IsFollowed s.file.now commands (drop place commands) s.database searches
  pub made : AreMade (all_clauses s.file.now commands) log searches
  pub written : s.text.items ≡ blocks_text 1 searches
  pub count : s.count ≡ length searches
  pub few : length searches ≤ place
  pub ready : CanBeginSearch s.database s.search_state s.graph log.entries
  pub current : IsCurrent s
  pub limit : log.limit ≤ max_count

-- a verdict on the database's formula of now, which the log of a search that began shows
pub record IsFound (b : DatabaseState) (f : Dqbf) (old new : ProofLog) (text : List ℕ) : Type 0 where
  pub verdict : Verdict
  pub began : HasBegun (live_of b) old.entries new.entries
  pub shown : IsShown (all_of b) new f verdict
  pub is : text ≡ verdict_text plain f verdict

-- one search more
pub record IsSearchedOn (s : Session) (log : ProofLog) (t : Session) (new : ProofLog) : Type 0 where
  pub verdict : Verdict
  pub began : HasBegun (live_of s.database) log.entries new.entries
  pub shown : IsShown (all_of s.database) new (now_of s.database) verdict
  pub file : t.file.now ≡ s.file.now
  pub database : IsDatabaseAfter s.database t.database
  pub ready : CanBeginSearch t.database t.search_state t.graph new.entries
  pub current : IsCurrent t
  pub count : t.count ≡ s.count + 1
  pub written : t.text.items
      ≡ s.text.items
      ++ block_text (s.count + 1)
      (record { formula = now_of s.database; verdict = verdict; entries = new.entries })
