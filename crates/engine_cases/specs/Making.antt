-- Which variables were made.
use Rattle.std.specs.Prelude.{◌≡◌, ℕ, ◌≤◌, ◌<◌, List, length, Some, IsSome}
use Rattle.std.specs.List.{All}
use Rattle.hint_log.specs.Entries.{Entry, name_of}
use Rattle.hint_log.specs.declared.names.Name.TheVariants.{Input}
use Rattle.engine_cases.specs.declared.calls.Made.{Made}

-- each has a name, no other variable of a larger number has one, and inputs have numbers below the
-- next one's
pub record AreMade (m : Made) (entries : List Entry) : Type 0 where
  pub named : All (λ v. IsSome (name_of entries v)) m.variables.items
  pub low : (v : ℕ) → IsSome (name_of entries v) → v ≤ m.largest
  pub inputs : (v k : ℕ) → name_of entries v ≡ Some (Input k) → k < length m.variables.items
