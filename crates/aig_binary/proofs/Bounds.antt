-- Differences fit 64 bits.
use Rattle.std.proofs.Common.{◌≡◌, ℕ, zero, suc, ◌+◌, ◌-◌, ◌*◌, ◌<◌, ◌≤◌, List, ◌∷◌, arith}
use Rattle.std.specs.Prelude.{Err}
use Rattle.std.proofs.lemmas.Bool.{cond-false, le-ltb}
use Rattle.aiger_text.specs.declared.faults.AagFault.{AagFault}
use Rattle.aig_binary.specs.Deltas.{read_delta}
use Rattle.aig_binary.specs.Steps.{end_of}

some : (groups : ℕ) → 1 ≤ end_of groups
some zero = omega arith
some (suc groups) = let rest = some groups in omega (arith, rest)

pub one_group : (groups n : ℕ) → 1 ≤ groups → n < 128 → n < end_of groups
one_group zero n few low = absurd (omega arith)
one_group (suc groups) n few low = let rest = some groups in omega (arith, rest, low)

pub more_groups : (groups byte high : ℕ) → 1 ≤ groups → byte < 256 → high < end_of (groups - 1) →
    byte - 128 + 128 * high < end_of groups
more_groups zero byte high few small less = absurd (omega arith)
more_groups (suc groups) byte high few small less = search arith

pub at_most : (groups : ℕ) → groups ≤ 4 → end_of groups ≤ 268435456
at_most zero few = omega arith
at_most (suc zero) few = omega arith
at_most (suc (suc zero)) few = omega arith
at_most (suc (suc (suc zero))) few = omega arith
at_most (suc (suc (suc (suc zero)))) few = omega arith
at_most (suc (suc (suc (suc (suc groups))))) few = absurd (omega arith)

-- a difference that goes on stops where its other bytes do
pub delta_stops : (groups byte : ℕ) (bytes : List ℕ) (name : AagFault) → 1 ≤ groups → 128 ≤ byte →
    read_delta (groups - 1) bytes ≡ Err name → read_delta groups (byte ∷ bytes) ≡ Err name
delta_stops zero byte bytes name few large stops = absurd (omega arith)
delta_stops (suc groups) byte bytes name few large stops = search (arith, cond-false, le-ltb)
