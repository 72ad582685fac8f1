-- A script's next command.
use Rattle.std.proofs.Common.{◌≡◌, ℕ, ◌+◌, ◌-◌, ◌≤◌, false, List, [], ◌∷◌, ◌++◌, map, length, Some, refl, sym, ◌∙◌, ap, arith, append_assoc, append-nil, replicate}
use Rattle.std.proofs.lemmas.List.{length-append, map-append}
use Rattle.dq_lits.specs.Formula.{Dqbf}
use Rattle.hint_log.specs.Live.{live_numbers}
use Rattle.script_text.specs.Commands.{ScriptCommand, push, add, pop, solve}
use Rattle.script_text.specs.Frames.{frames_behind, formulas_from}
use Rattle.script_text.specs.Lawful.{IsAllowed, AreAllowed}
use Rattle.script_text.specs.Reading.{depth_behind, clauses_behind, max_clauses}
use Rattle.dq_session.specs.Databases.{DatabaseState, live_of, now_of}
use Rattle.dq_session.specs.Changes.{begun}
use Rattle.expansion.specs.Table.{TableState}
use Rattle.session_runs.specs.Following.{database_behind, MayCome}
use Rattle.session_runs.specs.Laws.{DatabasesFollow, StandsFor, FollowingDatabasesStand}
use Rattle.session_runs.specs.Numbering.{NumberedFrame, Numbering, numbering_at_start, numbering_behind, with_number, without_newest, live_from}
use Rattle.session_runs.specs.Blocks.{Search}
use Rattle.session_runs.specs.Followed.{is_search, IsFollowed}

-- before the first command
pub followed-at-start : (f : Dqbf) (commands : List ScriptCommand) (t : TableState)
    → AreAllowed f 0 (length f.matrix) commands → length f.matrix ≤ max_clauses
    → IsFollowed f commands commands (begun f t) []
followed-at-start f commands t allowed few = record {
  numbering = numbering_at_start f;
  frames = [];
  file = refl;
  follows = search (arith, append-nil);
  frames_are = tt;
  allowed = allowed;
  few = few;
  rest = refl;
  formulas = refl;
  begun = refl;
}

same-depth : (j : ℕ) (ns : List NumberedFrame) → length (with_number j ns) ≡ length ns
same-depth j [] = refl
same-depth j (n ∷ ns) = refl

less-depth : (ns : List NumberedFrame) → length (without_newest ns) ≡ length ns - 1
less-depth [] = refl
less-depth (n ∷ ns) = omega arith

depth-is : (s : Numbering) (command : ScriptCommand)
    → depth_behind (length s.open_frames) command ≡ length (numbering_behind s command).open_frames
depth-is s push = omega arith
depth-is s (add clause) = sym (same-depth (length s.clauses + 1) s.open_frames)
depth-is s pop = sym (less-depth s.open_frames)
depth-is s solve = refl

count-is : (s : Numbering) (command : ScriptCommand)
    → clauses_behind (length s.clauses) command ≡ length (numbering_behind s command).clauses
count-is s (add clause) = sym (length-append s.clauses (clause ∷ []))
count-is s _ = refl

few-behind : (f : Dqbf) (s : Numbering) (command : ScriptCommand) (depth : ℕ)
    → IsAllowed f depth (length s.clauses) command → length s.clauses ≤ max_clauses
    → length (numbering_behind s command).clauses ≤ max_clauses
few-behind f s (add clause) depth may few = search (arith, length-append)
few-behind f s _ depth may few = few

module _ (stand : FollowingDatabasesStand) (f : Dqbf) (commands left : List ScriptCommand) (b : DatabaseState)
    (searches : List Search) (command : ScriptCommand)
    (is : IsFollowed f commands (command ∷ left) b searches) where
  stands-for : StandsFor is.numbering is.frames b
  stands-for = stand is.numbering is.frames b is.follows is.frames_are

  -- it may come
  pub may-come : MayCome b command
  may-come = search (arith, length-append, stands-for)

  allowed-behind : AreAllowed f (length (numbering_behind is.numbering command).open_frames)
      (length (numbering_behind is.numbering command).clauses) left
  allowed-behind = search (arith, depth-is, count-is)

-- a command that is no search
file-stays : (b : DatabaseState) (command : ScriptCommand) → (database_behind b command).file ≡ b.file
file-stays b pop = refl
file-stays b _ = refl

pub followed-change : DatabasesFollow → FollowingDatabasesStand → (f : Dqbf) (commands left : List ScriptCommand) (b : DatabaseState)
    (searches : List Search) (command : ScriptCommand) → is_search command ≡ false
    → IsFollowed f commands (command ∷ left) b searches → IsFollowed f commands left (database_behind b command) searches
followed-change follow stand f commands left b searches command change is =
    let may = may-come stand f commands left b searches command is in
    let both = follow is.numbering is.frames b command is.follows is.frames_are may in
    record {
      numbering = numbering_behind is.numbering command;
      frames = frames_behind is.frames command;
      file = file-stays b command ∙ is.file;
      follows = both.0;
      frames_are = both.1;
      allowed = allowed-behind stand f commands left b searches command is;
      few = few-behind f is.numbering command (length is.numbering.open_frames) is.allowed.0 is.few;
      rest = is.rest;
      formulas = ap (λ gs. map (λ s. s.formula) searches ++ gs) (sym (formulas-stay command change)) ∙ is.formulas;
      begun =
          ap (λ js. map (λ s. live_numbers s.entries) searches ++ map Some js) (sym (live-stays command change))
          ∙ is.begun;
    }
  where
    formulas-stay : (c : ScriptCommand) → is_search c ≡ false
        → formulas_from f is.frames (c ∷ left) ≡ formulas_from f (frames_behind is.frames c) left
    formulas-stay solve h = cc
    formulas-stay _ h = refl

    live-stays : (c : ScriptCommand) → is_search c ≡ false
        → live_from (length f.matrix) is.numbering (c ∷ left)
        ≡ live_from (length f.matrix) (numbering_behind is.numbering c) left
    live-stays solve h = cc
    live-stays _ h = refl

-- a search, which leaves the database's clauses
pub followed-search : FollowingDatabasesStand → (f : Dqbf) (commands left : List ScriptCommand) (b : DatabaseState)
    (searches : List Search) (s : Search) → s.formula ≡ now_of b → live_numbers s.entries ≡ Some (live_of b)
    → IsFollowed f commands (solve ∷ left) b searches → IsFollowed f commands left b (searches ++ s ∷ [])
followed-search stand f commands left b searches s formula begun is = search (arith, map-append, append_assoc)

-- a database that has the same clauses, and other instances
pub followed-later : (f : Dqbf) (commands left : List ScriptCommand) (b c : DatabaseState) (searches : List Search)
    → c ≡ record b { table = c.table; given = c.given; groups = c.groups } → length c.groups ≡ length b.groups
    → IsFollowed f commands left b searches → IsFollowed f commands left c searches
followed-later f commands left b c searches same many is = search (arith, replicate)
