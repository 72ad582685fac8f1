-- Files that are kept in memory, of which one may be open.
use Rattle.std.specs.Prelude.{◌≡◌, ℕ, ◌<◌, ◌≤◌, Bool, true, false, List, [], length, drop, find, bytes_eq, slice_index_or, Option, Some, None}
use Rattle.dq_io.specs.Files.{Holding, Absent, Holds, Untold}

pub record NamedBytes : Type 0 where
  pub name : List ℕ
  pub bytes : List ℕ

-- the files, what is left to read of the open one, how many of its bytes were read, and how many
-- times one was picked
pub record StoredFiles : Type 0 where
  pub files : List NamedBytes
  pub rest : List ℕ
  pub given : ℕ
  pub picks : ℕ

abbrev pub holding_of : Option NamedBytes → Holding
holding_of None = Absent
holding_of (Some file) = Holds file.bytes

-- of several files of one name the first counts
abbrev pub held_in : List NamedBytes → List ℕ → Holding
held_in files name = holding_of (find (λ file. bytes_eq file.name name) files)

abbrev pub is_held : Holding → Bool
is_held (Holds bytes) = true
is_held Absent = false
is_held Untold = false

-- the bytes of a file, and none where there is no file
abbrev pub bytes_of : Holding → List ℕ
bytes_of (Holds bytes) = bytes
bytes_of Absent = []
bytes_of Untold = []

-- the file at a place of the list, and an empty one past its end
abbrev pub file_at : List NamedBytes → ℕ → NamedBytes
file_at files place = slice_index_or files place (record { name = []; bytes = [] })

-- the open file stands at a place of the list, and no more of its bytes were read than it has
abbrev pub IsOpenAt : List NamedBytes → Option ℕ → ℕ → Type 0
IsOpenAt files None given = given ≡ 0
IsOpenAt files (Some place) given =
    (place < length files) × (given ≤ length (file_at files place).bytes)

-- what is left of the open file
abbrev pub rest_from : List NamedBytes → Option ℕ → ℕ → List ℕ
rest_from files None given = []
rest_from files (Some place) given = drop given (file_at files place).bytes
