-- What a sink tells at one time.
use Rattle.std.specs.Prelude.{ℕ, List, Option}
use Rattle.dq_io.specs.declared.sinks.Sink as sinks

pub record SinkState : Type 0 where
  -- the bytes taken so far, where told
  pub taken : Option (List ℕ)
  -- how many faults were counted
  pub faults : ℕ

module _ {X : Type 0} (K : sinks.Ghosts X) where
  abbrev pub sink_of : X → SinkState
  sink_of x = record { taken = K.taken x; faults = K.faults x }
