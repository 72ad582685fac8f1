-- Calls that are to fail, by their numbers: fault injection for tests.
use Rattle.std.specs.Prelude.{ℕ, Bool, List, length, ◌==◌}
use Rattle.std.specs.List.{list_any}
use Rattle.dq_io.specs.Causes.{next_count}

-- the numbers of the calls that are to fail, the number of the last call (0 before the first), and
-- the faults
pub record CallFailures : Type 0 where
  pub failing : List ℕ
  pub calls : ℕ
  pub faults : ℕ

-- the next call is to fail
abbrev pub fails_next : CallFailures → Bool
fails_next failures = list_any (λ number. number == next_count failures.calls) failures.failing

-- no call is to fail
abbrev pub never_fails : CallFailures → Bool
never_fails failures = length failures.failing == 0

-- after one more call
abbrev pub called : CallFailures → CallFailures
called failures = record failures { calls = next_count failures.calls }

-- after one more fault
abbrev pub faulted : CallFailures → CallFailures
faulted failures = record failures { faults = next_count failures.faults }
