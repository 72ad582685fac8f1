-- A session's log stays one where more clauses are numbered.
use Rattle.std.specs.Prelude.{◌≡◌, ℕ, List, ◌++◌, length, Some, IsSome}
use Rattle.dq_lits.specs.Literal.{Literal}
use Rattle.dq_lits.specs.Formula.{Dqbf}
use Rattle.hint_log.specs.Entries.{Entry, Given, Round}
use Rattle.hint_log.specs.Growth.{Each}
use Rattle.hint_log.specs.Live.{with_matrix, live_numbers}
use Rattle.hint_log.specs.ProductiveSession.{IsProductiveSession, IsUndecidedSince}
use Rattle.hint_log.specs.declared.origins.Origin.TheVariants.{Fault}

-- faults and rounds stand behind the beginning of a search
abbrev pub IsOfSearch : List Entry → Entry → Type 0
IsOfSearch earlier (Given (Fault j i leaf) clause) = IsSome (live_numbers earlier)
IsOfSearch earlier (Round row values j) = IsSome (live_numbers earlier)
IsOfSearch earlier e = Unit {0}

-- a session's log is one over more clauses
abbrev pub SessionsTakeClauses : Type 0
SessionsTakeClauses =
    (all : Dqbf) (frames : List ℕ) (more : List (List Literal)) (more_frames : List ℕ)
    (entries : List Entry) → length frames ≡ length all.matrix → Each IsOfSearch entries
    → IsProductiveSession all frames entries
    → IsProductiveSession (with_matrix all (all.matrix ++ more)) (frames ++ more_frames) entries

-- and what its last search left undecided stays so
abbrev pub UndecidedTakesClauses : Type 0
UndecidedTakesClauses =
    (all : Dqbf) (frames live : List ℕ) (more : List (List Literal)) (entries : List Entry)
    → IsProductiveSession all frames entries → live_numbers entries ≡ Some live
    → IsUndecidedSince all entries
    → IsUndecidedSince (with_matrix all (all.matrix ++ more)) entries
