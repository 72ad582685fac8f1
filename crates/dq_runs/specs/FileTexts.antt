-- The texts of files that are read whole, by what the files told before a run and tell behind it.
use Rattle.std.specs.Prelude.{◌≡◌, true, ℕ, ◌<◌, ◌≤◌, List, length}
use Rattle.dq_io.specs.Causes.{next_count, Rose}
use Rattle.dq_io.specs.Files.{Holding, Untold, Absent, Holds}
use Rattle.dq_io.specs.State.{FilesState}

-- the text is the file's, where the file is told
abbrev pub IsTextOf : Holding → List ℕ → Type 0
IsTextOf Untold text = Unit {0}
IsTextOf Absent text = ⊥
IsTextOf (Holds bytes) text = text ≡ bytes

abbrev pub IsLong : ℕ → Holding → Type 0
IsLong limit Untold = Unit {0}
IsLong limit Absent = ⊥
IsLong limit (Holds bytes) = limit < length bytes

-- a text of at most so many bytes
pub record IsShortText (limit : ℕ) (holding : Holding) (text : List ℕ) : Type 0 where
  pub is : IsTextOf holding text
  pub short : length text ≤ limit

-- a file can't be read: a fault was counted, and over reliable files no file has the name
pub record IsUnreadable (before now : FilesState) (name : List ℕ) : Type 0 where
  pub counted : Rose before.faults now.faults
  pub absent : before.reliable ≡ true → before.held name ≡ Absent

-- a file gave more bytes than that
pub record IsTooLong (limit : ℕ) (before now : FilesState) (name : List ℕ) : Type 0 where
  pub long : IsLong limit (before.held name)
  pub given : limit < now.given

abbrev pub PickedOnce : FilesState → FilesState → Type 0
PickedOnce before now = now.picks ≡ next_count before.picks

abbrev pub PickedTwice : FilesState → FilesState → Type 0
PickedTwice before now = now.picks ≡ next_count (next_count before.picks)
