-- How a run ends: what is due is written, or the sink fails before its end, or memory is wanted and
-- nothing written. Each refusal has its cause.
use Rattle.std.specs.Prelude.{◌≡◌, ◌≢◌, ℕ, ◌<◌, ◌⊎◌, Option, None, Result, Ok, Err}
use Rattle.std.specs.Io.KnownBytes.{append_known}
use Rattle.dq_io.specs.Causes.{Rose}
use Rattle.dq_io.specs.Sinks.{TakesPart}
use Rattle.dq_io.specs.State.{FilesState}
use Rattle.dq_lits.specs.declared.memory.Memory.{Memory}
use Rattle.dq_runs.specs.FormulaFiles.{max_formula}
use Rattle.dq_runs.specs.Printed.{Printed, printed}
use Rattle.dq_runs.specs.Sinks.{SinkState}
use Rattle.dq_runs.specs.declared.outputs.Output.{Output}

-- all of it was written
pub record IsWritten (p : Printed) (before now : SinkState) (status : ℕ) : Type 0 where
  pub ends_with : status ≡ p.status
  pub taken : now.taken ≡ append_known before.taken p.text
  pub unfaulted : now.faults ≡ before.faults

-- the sink failed before its end
pub record IsCutOff (p : Printed) (before now : SinkState) (status : ℕ) : Type 0 where
  pub ends_with : status ≡ 4
  pub part : TakesPart before.taken now.taken p.text
  pub counted : Rose before.faults now.faults

-- memory was wanted, and nothing written
pub record IsUnwritten (before now : SinkState) (status : ℕ) : Type 0 where
  pub ends_with : status ≡ 5
  pub same : now ≡ before

-- what becomes of a run's output
abbrev pub IsEnd : Result Output Memory → SinkState → SinkState → ℕ → Type 0
IsEnd (Ok output) before now status =
    IsWritten (printed output) before now status ⊎ IsCutOff (printed output) before now status
IsEnd (Err _) before now status = IsUnwritten before now status

-- something that was due became of a run
pub record IsDelivered (due : Printed → Type 0) (before now : SinkState) (status : ℕ) : Type 0 where
  pub printed : Printed
  pub is_due : due printed
  pub delivered : IsWritten printed before now status ⊎ IsCutOff printed before now status

-- memory was wanted; or what was due was delivered
abbrev pub Ends : (Printed → Type 0) → SinkState → SinkState → ℕ → Type 0
Ends due before now status = IsUnwritten before now status ⊎ IsDelivered due before now status

-- Each refusal of a command's words and files has its cause, over all files and sinks, and no fault
-- is passed over: where one was counted, its status comes, or a later cause's.
pub record HasCauses {Command : Type 0} (command : Option Command) (before now : FilesState)
    (sink sink_now : SinkState) (status : ℕ) : Type 0 where
  pub words : status ≡ 1 → command ≡ None
  pub source : status ≡ 3 → Rose before.faults now.faults
  pub sink_fault : status ≡ 4 → Rose sink.faults sink_now.faults
  pub long : status ≡ 6 → max_formula < now.given
  pub unfaulted_files : status ≢ 3 → status ≢ 4 → status ≢ 5 → now.faults ≡ before.faults
  pub unfaulted_sink : status ≢ 4 → sink_now.faults ≡ sink.faults
  pub held : now.held ≡ before.held
