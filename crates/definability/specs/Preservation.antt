-- What leaves the copies as they stand: what other engines add to the log, and rounds; and flags
-- that are set, for private contracts.
use Rattle.std.specs.Prelude.{◌≡◌, ◌≢◌, ℕ, Bool, true, List, ◌∷◌, length}
use Rattle.std.specs.List.{All}
use Rattle.dq_lits.specs.Formula.{Dqbf}
use Rattle.hint_log.specs.Entries.{Entry, Round, ProofLog}
use Rattle.hint_log.specs.Growth.{Grew}
use Rattle.log_laws.specs.Engines.{Engine, IsAddedBy}
use Rattle.definability.specs.Copies.{IsDefinability, groups_of, is_copied_at}
use Rattle.definability.specs.declared.definability.Definability.{Definability}

-- the standing group of the other call is none of the copies' groups
abbrev pub EnginesLeaveCopies : Type 0
EnginesLeaveCopies =
    (f : Dqbf) (p : Definability) (engine : Engine) (group : ℕ) (silent : Bool) (old new : ProofLog)
    → Grew (IsAddedBy f engine group silent old.entries) old new
    → All (λ g. g ≢ group) (groups_of p) → IsDefinability f p old.entries → IsDefinability f p new.entries

abbrev pub RoundsLeaveCopies : Type 0
RoundsLeaveCopies =
    (f : Dqbf) (p : Definability) (entries : List Entry) (row values : List Bool) (j : ℕ)
    → IsDefinability f p entries → IsDefinability f p (Round row values j ∷ entries)

-- as many marks, and those that were set are set
pub record IsMarkedMore (old new : List Bool) : Type 0 where
  pub as_many : length new ≡ length old
  pub stays : (k : ℕ) → is_copied_at old k ≡ true → is_copied_at new k ≡ true
