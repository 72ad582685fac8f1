-- Words of 64 marks: at each bit, a set of variables.
use Rattle.std.specs.Prelude.{ℕ, ◌==◌, Bool, List, slice_index, IsTrue, ◌↔◌}
use Rattle.std.specs.Int.{bit_at}
use Rattle.circuit_plain.specs.Netlist.{Netlist}
use Rattle.circuit_plain.specs.Reach.{Reaches}

-- whether a variable is marked at a bit of its word
abbrev pub marked : List ℕ → ℕ → ℕ → Bool
marked words i v = bit_at (slice_index words v) i == 1

-- at each bit, the new marks stand at what the variables marked before reach
abbrev pub WordsReach : Netlist → List ℕ → List ℕ → Type 0
WordsReach net old new =
    (i v : ℕ) → IsTrue (marked new i v) ↔ ((u : ℕ) × IsTrue (marked old i u) × Reaches net u v)
