-- The clauses of a session by their numbers. Clauses are numbered from 1 on over the formula and
-- all that a script adds, those that it takes away again too; frames are numbered from 1 on as they
-- are opened, and the formula is frame 0.
use Rattle.std.specs.Prelude.{ℕ, ◌+◌, List, [], ◌∷◌, ◌++◌, length, replicate}
use Rattle.std.specs.List.{range_with_len}
use Rattle.dq_lits.specs.Literal.{Literal}
use Rattle.dq_lits.specs.Formula.{Dqbf}
use Rattle.hint_log.specs.Live.{with_matrix}
use Rattle.script_text.specs.Commands.{ScriptCommand, push, add, pop, solve}

-- an open frame: its number, and those of its clauses
pub record NumberedFrame : Type 0 where
  pub number : ℕ
  pub clauses : List ℕ

-- all clauses so far, each with its frame; how many frames were opened; and those that are open,
-- the newest first
pub record Numbering : Type 0 where
  pub clauses : List (List Literal)
  pub frames : List ℕ
  pub opened : ℕ
  pub open_frames : List NumberedFrame

-- before the first command
abbrev pub numbering_at_start : Dqbf → Numbering
numbering_at_start f = record {
  clauses = f.matrix;
  frames = replicate (length f.matrix) 0;
  opened = 0;
  open_frames = [];
}

abbrev pub newest_number : List NumberedFrame → ℕ
newest_number [] = 0
newest_number (newest ∷ older) = newest.number

-- one clause more in the newest frame
abbrev pub with_number : ℕ → List NumberedFrame → List NumberedFrame
with_number j [] = []
with_number j (newest ∷ older) = record newest { clauses = newest.clauses ++ j ∷ [] } ∷ older

abbrev pub without_newest : List NumberedFrame → List NumberedFrame
without_newest [] = []
without_newest (newest ∷ older) = older

abbrev pub numbering_behind : Numbering → ScriptCommand → Numbering
numbering_behind s push = record s {
  opened = s.opened + 1;
  open_frames = record { number = s.opened + 1; clauses = [] } ∷ s.open_frames;
}
numbering_behind s (add clause) = record s {
  clauses = s.clauses ++ clause ∷ [];
  frames = s.frames ++ newest_number s.open_frames ∷ [];
  open_frames = with_number (length s.clauses + 1) s.open_frames;
}
numbering_behind s pop = record s { open_frames = without_newest s.open_frames }
numbering_behind s solve = s

abbrev pub numbering_from : Numbering → List ScriptCommand → Numbering
numbering_from s [] = s
numbering_from s (command ∷ commands) = numbering_from (numbering_behind s command) commands

abbrev pub numbering_of : Dqbf → List ScriptCommand → Numbering
numbering_of f commands = numbering_from (numbering_at_start f) commands

-- the formula's prefix over all clauses of a script
abbrev pub all_clauses : Dqbf → List ScriptCommand → Dqbf
all_clauses f commands = with_matrix f (numbering_of f commands).clauses

-- the frame of each
abbrev pub all_frames : Dqbf → List ScriptCommand → List ℕ
all_frames f commands = (numbering_of f commands).frames

-- the numbers of the clauses in force: of a formula with so many clauses, and of the open frames,
-- the oldest first
abbrev pub live_in : ℕ → List NumberedFrame → List ℕ
live_in file [] = range_with_len 1 file
live_in file (newest ∷ older) = live_in file older ++ newest.clauses

-- the same for each search that is asked for, in order
abbrev pub live_from : ℕ → Numbering → List ScriptCommand → List (List ℕ)
live_from file s [] = []
live_from file s (solve ∷ commands) = live_in file s.open_frames ∷ live_from file s commands
live_from file s (command ∷ commands) = live_from file (numbering_behind s command) commands

abbrev pub live_of_searches : Dqbf → List ScriptCommand → List (List ℕ)
live_of_searches f commands = live_from (length f.matrix) (numbering_at_start f) commands
