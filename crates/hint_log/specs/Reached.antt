-- Which clauses an answer rests on.
use Rattle.std.specs.Prelude.{◌≡◌, ℕ, List, Some, Contains}
use Rattle.std.specs.List.Sorted.{IsStrictlyIncreasing}
use Rattle.hint_log.specs.Entries.{Entry, hints_at}

-- the id itself, and the hints of each id reached
pub data Reaches (entries : List Entry) (id : ℕ) : ℕ → Type 0 where
  itself : Reaches entries id id
  by_hint : (at hint : ℕ) (hints : List ℕ) → Reaches entries id at
      → hints_at entries at ≡ Some hints → Contains hints hint → Reaches entries id hint

-- these ids, ascending
pub record AreReached (entries : List Entry) (id : ℕ) (ids : List ℕ) : Type 0 where
  pub ascending : IsStrictlyIncreasing ids
  pub sound : (i : ℕ) → Contains ids i → Reaches entries id i
  pub complete : (i : ℕ) → Reaches entries id i → Contains ids i
