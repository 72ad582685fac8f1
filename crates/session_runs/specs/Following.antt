-- How a database follows the commands of a script.
use Rattle.std.specs.Prelude.{◌≡◌, ℕ, ◌+◌, List, [], ◌∷◌, ◌++◌, map, length, replicate, Some}
use Rattle.std.specs.List.{range_with_len}
use Rattle.dq_lits.specs.Literal.{Literal}
use Rattle.hint_log.specs.Naming.{numbered_from_one}
use Rattle.script_text.specs.Commands.{ScriptCommand, push, add, pop, solve}
use Rattle.script_text.specs.Frames.{Frames}
use Rattle.script_text.specs.Lawful.{IsAllowed}
use Rattle.dq_session.specs.Databases.{DatabaseState}
use Rattle.dq_session.specs.Changes.{file_live, with_frame, with_clause, without_frame}
use Rattle.dq_session.specs.declared.live.Live.{Live}
use Rattle.dq_session.specs.declared.live.OpenFrame.{OpenFrame}
use Rattle.session_runs.specs.Numbering.{NumberedFrame, Numbering}

-- the database behind a command; a search is another call
abbrev pub database_behind : DatabaseState → ScriptCommand → DatabaseState
database_behind b push = with_frame b
database_behind b (add clause) = with_clause b clause
database_behind b pop = without_frame b
database_behind b solve = b

-- the command may come, by how many frames of the database are open and how many clauses it has
abbrev pub MayCome : DatabaseState → ScriptCommand → Type 0
MayCome b command =
    IsAllowed b.file (length b.open_frames) (length b.file.matrix + length b.added) command

abbrev pub frame_live : ℕ → ℕ → Live
frame_live frame j = record { clause = j; frame = frame }

-- a database's open frames, the newest last, and its live clauses are these
abbrev pub AreOpenFrames : ℕ → List NumberedFrame → List OpenFrame → List Live → Type 0
AreOpenFrames file [] opens live = (opens ≡ []) × (live ≡ map file_live (range_with_len 1 file))
AreOpenFrames file (newest ∷ older) opens live =
    (below : List OpenFrame) × (rest : List Live)
    × (opens ≡ below ++ record { number = newest.number; start = length rest } ∷ [])
    × (live ≡ rest ++ map (frame_live newest.number) newest.clauses)
    × AreOpenFrames file older below rest

-- a database has these clauses and frames
pub record Follows (s : Numbering) (b : DatabaseState) : Type 0 where
  pub clauses : b.file.matrix ++ b.added ≡ s.clauses
  pub frames : replicate (length b.file.matrix) 0 ++ b.frames ≡ s.frames
  pub opened : length b.groups ≡ s.opened + 1
  pub open_frames : AreOpenFrames (length b.file.matrix) s.open_frames b.open_frames b.live

-- the clauses of these numbers are those of the script's frames
abbrev pub AreFramesOf : List (List Literal) → List NumberedFrame → Frames → Type 0
AreFramesOf matrix [] [] = Unit {0}
AreFramesOf matrix (newest ∷ older) (clauses ∷ frames) =
    (map (numbered_from_one matrix) newest.clauses ≡ map Some clauses)
    × AreFramesOf matrix older frames
AreFramesOf matrix _ _ = ⊥
