-- Files that are read by name: what is known of a name, and what a pick leaves to read
-- (POSIX: `open` by a name, then `read` from the front, short reads allowed).
use Rattle.std.specs.Prelude.{ℕ, List, [], Option, Some, None}

-- what is told of the file of a name
pub data Holding : Type 0 where
  -- nothing is told
  Untold : Holding
  -- no file has the name
  Absent : Holding
  -- a file with these bytes
  Holds : List ℕ → Holding

-- what is left to read of a file that was picked, where told
abbrev pub whole : Holding → Option (List ℕ)
whole Untold = None
whole Absent = Some []
whole (Holds bytes) = Some bytes

-- what is left to read where no file is picked, where told
abbrev pub nothing : Holding → Option (List ℕ)
nothing Untold = None
nothing Absent = Some []
nothing (Holds bytes) = Some []
