-- Words of private contracts: ascending lists of places, linked. The number of places ends a list.
use Rattle.std.specs.Prelude.{◌≡◌, ℕ, ◌+◌, ◌-◌, ◌<◌, ◌≤◌, ◌==◌, List, [], ◌∷◌, length, slice_index_or}
use Rattle.std.specs.List.{filter, range_with_len}
use Rattle.proof_deletions.specs.declared.chains.Chains.{Chains}

abbrev pub IsChain : List ℕ → ℕ → List ℕ → Type 0
IsChain nexts head [] = head ≡ length nexts
IsChain nexts head (k ∷ ks) =
    (head ≡ k) × (k < length nexts) × (k < slice_index_or nexts k 0)
    × IsChain nexts (slice_index_or nexts k 0) ks

-- of the places from one on, those whose line is hinted last by the line at place p
abbrev pub used_at : List ℕ → ℕ → ℕ → List ℕ
used_at table from p =
    filter (λ k. slice_index_or table k 0 == p + 1) (range_with_len from (length table - from))

pub record AreChained (table : List ℕ) (from : ℕ) (heads nexts : List ℕ) : Type 0 where
  pub heads_are_many : length heads ≡ length table
  pub nexts_are_many : length nexts ≡ length table
  pub behind : (p : ℕ) → p < length table → from ≤ slice_index_or heads p 0
  pub chains : (p : ℕ) → p < length table
      → IsChain nexts (slice_index_or heads p 0) (used_at table from p)

abbrev pub AreChains : Chains → Type 0
AreChains c = AreChained c.table.items 0 c.heads.items c.nexts.items
