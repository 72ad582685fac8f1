-- A log at the end of each of its searches.
use Rattle.std.specs.Prelude.{List, [], ◌∷◌, ◌++◌}
use Rattle.hint_log.specs.Entries.{Entry, Begun}

-- the first search first: before the next one began, and as the log is now
abbrev pub ends_behind : List Entry → List Entry → List (List Entry)
ends_behind now [] = []
ends_behind now (Begun live ∷ earlier) = ends_behind earlier earlier ++ now ∷ []
ends_behind now (_ ∷ earlier) = ends_behind now earlier

abbrev pub ends_of : List Entry → List (List Entry)
ends_of entries = ends_behind entries entries
