-- What numbering is for: the numbers of a search's clauses name its formula, and a database that
-- takes each command has these clauses.
use Rattle.std.specs.Prelude.{◌≡◌, List, map, length}
use Rattle.dq_lits.specs.Formula.{Dqbf}
use Rattle.hint_log.specs.Live.{with_matrix, formula_of}
use Rattle.script_text.specs.Commands.{ScriptCommand}
use Rattle.script_text.specs.Frames.{Frames, frames_behind, formula_in, formulas_of}
use Rattle.dq_session.specs.Databases.{DatabaseState, all_of, frames_of, live_of, now_of}
use Rattle.session_runs.specs.Numbering.{Numbering, numbering_behind, all_clauses, live_in, live_of_searches}
use Rattle.session_runs.specs.Following.{database_behind, MayCome, Follows, AreFramesOf}

-- a database that follows a script follows it behind the next command too
abbrev pub DatabasesFollow : Type 0
DatabasesFollow =
    (s : Numbering) (frames : Frames) (b : DatabaseState) (command : ScriptCommand)
    → Follows s b → AreFramesOf s.clauses s.open_frames frames → MayCome b command
    → Follows (numbering_behind s command) (database_behind b command)
    × AreFramesOf (numbering_behind s command).clauses (numbering_behind s command).open_frames
    (frames_behind frames command)

-- its formula of now is the script's, and its live clauses have the script's numbers
pub record StandsFor (s : Numbering) (frames : Frames) (b : DatabaseState) : Type 0 where
  pub all : all_of b ≡ with_matrix b.file s.clauses
  pub frames_are : frames_of b ≡ s.frames
  pub live : live_of b ≡ live_in (length b.file.matrix) s.open_frames
  pub now : now_of b ≡ formula_in b.file frames
  pub depth : length b.open_frames ≡ length s.open_frames

abbrev pub FollowingDatabasesStand : Type 0
FollowingDatabasesStand =
    (s : Numbering) (frames : Frames) (b : DatabaseState) → Follows s b
    → AreFramesOf s.clauses s.open_frames frames → StandsFor s frames b

-- the numbers of each search's clauses name its formula
abbrev pub NumbersNameFormulas : Type 0
NumbersNameFormulas =
    (f : Dqbf) (commands : List ScriptCommand)
    → map (formula_of (all_clauses f commands)) (live_of_searches f commands)
    ≡ formulas_of f commands
