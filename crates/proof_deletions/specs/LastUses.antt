-- Words of private contracts: the line that hints each earlier line last.
use Rattle.std.specs.Prelude.{◌≡◌, ℕ, zero, suc, ◌+◌, ◌<◌, nat_lt, Bool, ◌&&◌, List, [], ◌∷◌, length, slice_index_or, if◌then◌else◌}
use Rattle.dq_lits.specs.Derivation.{ProofStep}
use Rattle.rup_core.specs.Items.{is_among}

-- the line at a place hints the line at place k, which stands before it
abbrev pub uses : ℕ → ℕ → List ℕ → ℕ → Bool
uses first place hints k = nat_lt k place && is_among hints (first + k)

-- the later one of two, of which 0 is none
abbrev pub later_of : ℕ → ℕ → ℕ
later_of earlier zero = earlier
later_of earlier (suc later) = suc later

-- one more than the place of the last line from a place on that hints the line at place k, or 0
abbrev pub last_use : ℕ → ℕ → List ProofStep → ℕ → ℕ
last_use first place [] k = 0
last_use first place (step ∷ steps) k =
    later_of (if uses first place step.hints k then place + 1 else 0)
    (last_use first (place + 1) steps k)

-- by line
pub record AreLastUses (first : ℕ) (steps : List ProofStep) (n : ℕ) (table : List ℕ) : Type 0 where
  pub many : length table ≡ n
  pub each : (k : ℕ) → k < n → slice_index_or table k 0 ≡ last_use first 0 steps k

-- the last uses with those of one more line
pub record AreNoted (first place : ℕ) (hints old new : List ℕ) : Type 0 where
  pub many : length new ≡ length old
  pub each : (k : ℕ) → k < length old
      → slice_index_or new k 0
      ≡ (if uses first place hints k then place + 1 else slice_index_or old k 0)
