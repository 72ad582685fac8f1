-- Files and a sink in memory, whose calls fail by number.
use Rattle.std.specs.Prelude.{ℕ, List}
use Rattle.dq_io.specs.Failures.{CallFailures}
use Rattle.dq_io.specs.Store.{StoredFiles}

pub record MemoryFiles : Type 0 where
  -- the most that one read gives
  pub greatest : ℕ
  pub store : StoredFiles
  pub failures : CallFailures

pub record MemorySink : Type 0 where
  -- the most that one write takes
  pub greatest : ℕ
  pub taken : List ℕ
  pub failures : CallFailures
