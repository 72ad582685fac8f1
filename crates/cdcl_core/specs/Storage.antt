-- How clauses and their watches are kept.
use Rattle.std.specs.Prelude.{◌≡◌, ℕ, ◌+◌, ◌<◌, ◌≤◌, List, [], ◌∷◌, ◌++◌, length, vec_capacity, All}
use Rattle.dq_lits.specs.Literal.{Literal, positive}
use Rattle.cdcl_core.specs.declared.clauses.ClauseStore.TheInside.{Inside}
use Rattle.cdcl_core.specs.Chains.{place_of, IsLinked, HasNextRoom}
use Rattle.cdcl_core.specs.Watching.{AreWatched, AreShort}
use Rattle.cdcl_core.specs.Visits.{AreListed}

-- what a store shows: its clauses in order of time, the two literals that each is watched at, how
-- many lists of watches there are on either side, and how many literals one clause more has to stay
-- below
pub record Stored : Type 0 where
  pub clauses : List (List Literal)
  pub first : List Literal
  pub second : List Literal
  pub lists : ℕ
  pub second_lists : ℕ
  pub spare : ℕ

abbrev pub stored_in : Inside → Stored
stored_in s = record {
  clauses = s.arena.clauses;
  first = s.first.literals.items;
  second = s.second.literals.items;
  lists = length s.first.heads.items;
  second_lists = length s.second.heads.items;
  spare = s.spare;
}

-- there is a list for a literal on either side
pub record IsListed (s : Stored) (l : Literal) : Type 0 where
  pub first : place_of l + 1 ≤ s.lists
  pub second : place_of l + 1 ≤ s.second_lists

pub record HasLists (s : Stored) (clause : List Literal) : Type 0 where
  pub some : IsListed s (positive 1)
  pub all : All (λ l. IsListed s l) clause

pub record HasSpare (s : Inside) : Type 0 where
  pub arena : s.spare ≤ s.arena.spare
  pub first : HasNextRoom s.first
  pub second : HasNextRoom s.second
  pub short : length s.short.items < vec_capacity s.short

pub record IsStored (s : Inside) : Type 0 where
  pub linked : IsLinked s.first 0 []
  pub second_linked : IsLinked s.second 0 []
  pub watched : AreWatched s.arena.clauses s.first.literals.items s.second.literals.items
  pub count : length s.first.literals.items ≡ length s.arena.clauses
  pub second_count : length s.second.literals.items ≡ length s.arena.clauses
  pub listed : AreListed s.arena.clauses s.first
  pub second_listed : AreListed s.arena.clauses s.second
  pub short : AreShort s.arena.clauses s.first.literals.items s.second.literals.items s.short.items
  pub spare : 1 ≤ s.spare → HasSpare s

-- one clause more is watched at these literals
pub record IsHeldWatched (old new : Stored) (k l : Literal) : Type 0 where
  pub first : new.first ≡ old.first ++ k ∷ []
  pub second : new.second ≡ old.second ++ l ∷ []
  pub count : length old.first ≡ length old.clauses
  pub second_count : length old.second ≡ length old.clauses
