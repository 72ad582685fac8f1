-- Errors with a cause: an object that reaches outside counts its faults, and a failure is told only
-- where the count rose (the counters saturate, as `u64::saturating_add` does in Rust's std).
use Rattle.std.specs.Prelude.{◌≡◌, ℕ, ◌+◌, ◌-◌, ◌^◌, ◌≤◌, min, Result, OnOk, OnErr}

-- the next value of a counter of 64 bits, which stays at its last value
abbrev pub next_count : ℕ → ℕ
next_count count = min (count + 1) (2 ^ 64 - 1)

-- a count rose, or stands at the last value of a counter
abbrev pub Rose : ℕ → ℕ → Type 0
Rose before now = next_count before ≤ now

-- a count of faults never falls, a call fails only where it rose, and succeeds only where it stayed
pub record HasCause {T E : Type 0} (before now : ℕ) (result : Result T E) : Type 0 where
  pub later : before ≤ now
  pub succeeded : OnOk result (now ≡ before)
  pub failed : OnErr result (Rose before now)
