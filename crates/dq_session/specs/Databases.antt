-- The clauses of a session with their frames, and the instances that were given of them.
use Rattle.std.specs.Prelude.{◌≡◌, ◌≢◌, ℕ, ◌+◌, ◌≤◌, ◌<◌, ◌⊎◌, false, List, ◌++◌, map, length, replicate, Option, Some, slice_get, slice_index_or, Bool}
use Rattle.std.specs.List.{Contains, list_any}
use Rattle.dq_lits.specs.Literal.{Literal, variable_of}
use Rattle.dq_lits.specs.Formula.{Dqbf, IsWellFormed}
use Rattle.dq_lits.specs.Expansion.{universal_literal_true}
use Rattle.hint_log.specs.Entries.{Entry, Given}
use Rattle.hint_log.specs.Growth.{Each}
use Rattle.hint_log.specs.Live.{with_matrix, formula_of}
use Rattle.hint_log.specs.Naming.{rows_of}
use Rattle.hint_log.specs.ProductiveLog.{MatchesOrigin}
use Rattle.hint_log.specs.ProductiveSession.{frame_of}
use Rattle.hint_log.specs.declared.origins.Origin.TheVariants.{Instance}
use Rattle.log_laws.specs.Engines.{instances, part, IsInGroup}
use Rattle.oracle.specs.Calls.{IsMade}
use Rattle.oracle.specs.declared.groups.Group.{Group}
use Rattle.expansion.specs.Table.{TableState, IsTable, HasInstance}
use Rattle.dq_session.specs.declared.live.Live.{Live}
use Rattle.dq_session.specs.declared.live.OpenFrame.{OpenFrame}

-- the file's formula and its table; the clauses that were added, popped ones too, each with its
-- frame and under how many rows it has got its instances; each frame's group, where one was made,
-- by the frame's number; the frames that are open, the newest last; and the live clauses, ascending
pub record DatabaseState : Type 0 where
  pub file : Dqbf
  pub table : TableState
  pub added : List (List Literal)
  pub frames : List ℕ
  pub given : List ℕ
  pub groups : List (Option Group)
  pub open_frames : List OpenFrame
  pub live : List Live

-- all that was numbered
abbrev pub all_of : DatabaseState → Dqbf
all_of b = with_matrix b.file (b.file.matrix ++ b.added)

-- each with its frame; the file is frame 0
abbrev pub frames_of : DatabaseState → List ℕ
frames_of b = replicate (length b.file.matrix) 0 ++ b.frames

-- the numbers of the live clauses
abbrev pub live_of : DatabaseState → List ℕ
live_of b = map (λ l. l.clause) b.live

-- the formula of now
abbrev pub now_of : DatabaseState → Dqbf
now_of b = formula_of (all_of b) (live_of b)

-- the number of an added clause, by its place
abbrev pub number_at : DatabaseState → ℕ → ℕ
number_at b place = length b.file.matrix + place + 1

abbrev pub frame_at : DatabaseState → ℕ → ℕ
frame_at b place = slice_index_or b.frames place 0

abbrev pub given_at : DatabaseState → ℕ → ℕ
given_at b place = slice_index_or b.given place 0

abbrev pub HasGroup : DatabaseState → ℕ → Group → Type 0
HasGroup b frame g = slice_get b.groups frame ≡ Some (Some g)

-- the group's number
abbrev pub number_of : Group → ℕ
number_of g = variable_of g.selector

abbrev pub IsOpen : DatabaseState → ℕ → Type 0
IsOpen b frame = (o : OpenFrame) × Contains b.open_frames o × (o.number ≡ frame)

-- the file's clauses are live, and those of open frames
pub record IsStack (b : DatabaseState) : Type 0 where
  pub many_frames : length b.frames ≡ length b.added
  pub many_given : length b.given ≡ length b.added
  pub numbered : (place : ℕ) → place < length b.added
      → (1 ≤ frame_at b place) × (frame_at b place < length b.groups)
  pub first : 1 ≤ length b.groups
  pub ascending_live : (m n : ℕ) (l k : Live) → m < n → slice_get b.live m ≡ Some l
      → slice_get b.live n ≡ Some k → l.clause < k.clause
  pub file_live : (j : ℕ) → 1 ≤ j → j ≤ length b.file.matrix → Contains (live_of b) j
  pub open_live : (place : ℕ) → place < length b.added → IsOpen b (frame_at b place)
      → Contains (live_of b) (number_at b place)
  pub frames : (l : Live) → Contains b.live l
      → ((1 ≤ l.clause) × (l.clause ≤ length b.file.matrix) × (l.frame ≡ 0))
      ⊎ ((place : ℕ) × (l.clause ≡ number_at b place) × (place < length b.added)
      × (l.frame ≡ frame_at b place) × IsOpen b l.frame)
  -- an open frame's clauses, and those of newer ones, are the last of those that are live
  pub known : (i : ℕ) (o : OpenFrame) → slice_get b.open_frames i ≡ Some o
      → (1 ≤ o.number) × (o.number < length b.groups) × (o.start ≤ length b.live)
  pub ascending : (i j : ℕ) (o p : OpenFrame) → i < j → slice_get b.open_frames i ≡ Some o
      → slice_get b.open_frames j ≡ Some p → (o.number < p.number) × (o.start ≤ p.start)
  pub last : (i n : ℕ) (o : OpenFrame) (l : Live) → slice_get b.open_frames i ≡ Some o
      → slice_get b.live n ≡ Some l
      → (n < o.start → l.frame < o.number) × (o.start ≤ n → o.number ≤ l.frame)

-- the clause is one of the frame's group; the table's, for the file
abbrev pub IsInFrame : DatabaseState → ℕ → List Literal → Type 0
IsInFrame b frame c =
    ((frame ≡ 0) × IsInGroup b.table.group c)
    ⊎ ((g : Group) × HasGroup b frame g × IsInGroup (number_of g) c)

-- it is given to its frame's group, right by all that was numbered, and under one of the rows that
-- are done
pub record IsFrameInstance (b : DatabaseState) (earlier : List Entry) (k j : ℕ)
    (c : List Literal) : Type 0 where
  pub right : MatchesOrigin (all_of b) earlier (Given (Instance k j) c)
  pub in_frame : IsInFrame b (frame_of (frames_of b) j) c
  pub done : (place : ℕ) → j ≡ number_at b place → k ≤ given_at b place

abbrev pub IsInNoFrame : DatabaseState → List Literal → Type 0
IsInNoFrame b c = (frame : ℕ) (g : Group) → HasGroup b frame g → IsInGroup (number_of g) c → ⊥

-- the frames' groups hold the instances of their clauses, and nothing else
abbrev pub IsDatabaseEntry : DatabaseState → List Entry → Entry → Type 0
IsDatabaseEntry b earlier (Given (Instance k j) c) = IsFrameInstance b earlier k j c
IsDatabaseEntry b earlier (Given origin c) = IsInNoFrame b c
IsDatabaseEntry b earlier e = Unit {0}

-- the frames' groups were made, and are different from one another and from the table's
pub record AreFrameGroups (b : DatabaseState) (entries : List Entry) : Type 0 where
  pub made : (frame : ℕ) (g : Group) → HasGroup b frame g → IsMade entries g
  pub none_of_file : (frame : ℕ) (g : Group) → HasGroup b frame g → 1 ≤ frame
  pub apart : (frame other : ℕ) (g h : Group) → HasGroup b frame g → HasGroup b other h
      → number_of g ≡ number_of h → frame ≡ other
  pub off_table : (frame : ℕ) (g : Group) → HasGroup b frame g → number_of g ≢ b.table.group

-- each clause has its instances under the rows that are done, unless a universal makes it true
-- there; rows and clauses are counted from 0
abbrev pub HasDoneInstances : DatabaseState → List Entry → Type 0
HasDoneInstances b own =
    (k place : ℕ) (row : List Bool) (clause : List Literal)
    → slice_get b.table.rows k ≡ Some row → slice_get b.added place ≡ Some clause
    → k < given_at b place → list_any (universal_literal_true b.file row) clause ≡ false
    → (g : Group) × HasGroup b (frame_at b place) g
    × HasInstance b.file (number_of g) b.table.rows own k (length b.file.matrix + place) row clause

-- a database after these entries; a round may stand there whose row the table lacks
pub record IsDatabase (b : DatabaseState) (entries : List Entry) : Type 0 where
  pub well_formed : IsWellFormed (all_of b)
  pub stack : IsStack b
  pub table : IsTable b.file b.table entries
  pub groups : AreFrameGroups b entries
  pub givens : Each (IsDatabaseEntry b) entries
  pub done : (place : ℕ) → given_at b place ≤ length b.table.rows
  pub instances : HasDoneInstances b (part instances entries)

-- a database whose table has the rows of all rounds
pub record IsFullDatabase (b : DatabaseState) (entries : List Entry) : Type 0 where
  pub database : IsDatabase b entries
  pub rows : rows_of entries ≡ b.table.rows
