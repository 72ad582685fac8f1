-- Differences of literals in binary AIGER (A. Biere, "The AIGER And-Inverter Graph (AIG) Format",
-- 2007): groups of seven bits, the lowest first, with the high bit set in all but the last.
use Rattle.std.specs.Prelude.{◌≡◌, ℕ, zero, suc, ◌+◌, ◌-◌, ◌*◌, ◌<◌, ◌≤◌, ◌⊎◌, nat_lt, List, [], ◌∷◌, Result, Ok, Err, if◌then◌else◌}
use Rattle.aiger_text.specs.declared.faults.AagFault.{AagFault}
use Rattle.aiger_text.specs.declared.faults.AagFault.TheVariants.{BadDelta, Truncated}

-- the most bytes of a difference
abbrev pub most_groups : ℕ
most_groups = 5

-- what is read behind something, unless that is at fault
abbrev pub and_then : {A B E : Type 0} → Result A E → (A → Result B E) → Result B E
and_then (Ok value) next = next value
and_then (Err fault) next = Err fault

-- a difference in at most so many bytes, and what stands behind it
abbrev pub read_delta : ℕ → List ℕ → Result (ℕ × List ℕ) AagFault
read_delta zero bytes = Err BadDelta
read_delta (suc groups) [] = Err Truncated
read_delta (suc groups) (byte ∷ bytes) =
    if nat_lt byte 128 then Ok (byte, bytes) else
    and_then (read_delta groups bytes) (λ high. Ok (byte - 128 + 128 * high.0, high.1))

-- these bytes are the groups of this number
abbrev pub AreGroups : List ℕ → ℕ → Type 0
AreGroups [] n = ⊥
AreGroups (byte ∷ bytes) n =
    ((byte < 128) × (bytes ≡ []) × (n ≡ byte))
    ⊎ ((128 ≤ byte) × ((high : ℕ) × AreGroups bytes high × (n ≡ byte - 128 + 128 * high)))
