-- Words of private contracts: hints that are gathered.
use Rattle.std.specs.Prelude.{◌≡◌, ◌≤◌, ◌⊎◌, ℕ, true, List}
use Rattle.std.specs.List.{Contains}
use Rattle.rup_core.specs.Items.{ProofItem, derived, gone}
use Rattle.number_tables.specs.Numbers.{has_number}

-- the hints up to the last id are there beside what was there
pub record AddsHints (last : ℕ) (hints old new : List ℕ) : Type 0 where
  pub kept : (h : ℕ) → has_number old h ≡ true → has_number new h ≡ true
  pub all : (h : ℕ) → Contains hints h → h ≤ last → has_number new h ≡ true
  pub each : (h : ℕ) → has_number new h ≡ true
      → (has_number old h ≡ true) ⊎ (Contains hints h × (h ≤ last))

abbrev pub AddsItem : ℕ → ProofItem → List ℕ → List ℕ → Type 0
AddsItem last (derived step) old new = AddsHints last step.hints old new
AddsItem last (gone ids) old new = new ≡ old
