-- How a database changes.
use Rattle.std.specs.Prelude.{◌≡◌, ℕ, ◌+◌, ◌-◌, ◌≤◌, List, [], ◌∷◌, ◌++◌, map, take, length, None, slice_index_or}
use Rattle.std.specs.List.{filter_map, range_with_len}
use Rattle.std.specs.Option.{option_map}
use Rattle.dq_lits.specs.Literal.{Literal}
use Rattle.dq_lits.specs.Formula.{Dqbf}
use Rattle.oracle.specs.declared.groups.Group.{Group}
use Rattle.expansion.specs.Table.{TableState}
use Rattle.dq_session.specs.Databases.{DatabaseState, HasGroup, number_of}
use Rattle.dq_session.specs.declared.live.Live.{Live}
use Rattle.dq_session.specs.declared.live.OpenFrame.{OpenFrame}

-- a clause of the file
abbrev pub file_live : ℕ → Live
file_live j = record { clause = j; frame = 0 }

-- without frames: the file's clauses are live
abbrev pub begun : Dqbf → TableState → DatabaseState
begun f table = record {
  file = f;
  table = table;
  added = [];
  frames = [];
  given = [];
  groups = None ∷ [];
  open_frames = [];
  live = map file_live (range_with_len 1 (length f.matrix));
}

-- the frame that was opened last
abbrev pub newest : DatabaseState → OpenFrame
newest b = slice_index_or b.open_frames (length b.open_frames - 1) (record { number = 0; start = 0 })

abbrev pub with_frame : DatabaseState → DatabaseState
with_frame b = record b {
  groups = b.groups ++ None ∷ [];
  open_frames = b.open_frames ++ record { number = length b.groups; start = length b.live } ∷ [];
}

-- a clause more in the newest frame
abbrev pub with_clause : DatabaseState → List Literal → DatabaseState
with_clause b clause = record b {
  added = b.added ++ clause ∷ [];
  frames = b.frames ++ (newest b).number ∷ [];
  given = b.given ++ 0 ∷ [];
  live = b.live
      ++ record {
        clause = length b.file.matrix + length b.added + 1;
        frame = (newest b).number;
      } ∷ [];
}

-- without the newest frame, whose clauses keep their numbers
abbrev pub without_frame : DatabaseState → DatabaseState
without_frame b = record b {
  open_frames = take (length b.open_frames - 1) b.open_frames;
  live = take (newest b).start b.live;
}

-- the numbers of all groups that hold instances
abbrev pub groups_of : DatabaseState → List ℕ
groups_of b = b.table.group ∷ filter_map (option_map number_of) b.groups

-- the groups of the open frames, of those that have one
abbrev pub open_groups : DatabaseState → List Group
open_groups b = filter_map (λ o. slice_index_or b.groups o.number None) b.open_frames

-- instances were given, and groups made for them
pub record IsCaughtUp (old new : DatabaseState) : Type 0 where
  pub same : new ≡ record old { given = new.given; groups = new.groups }
  pub more : (place : ℕ) → slice_index_or old.given place 0 ≤ slice_index_or new.given place 0
  pub many_groups : length new.groups ≡ length old.groups
  pub made : (frame : ℕ) (g : Group) → HasGroup old frame g → HasGroup new frame g
