-- Gates whose bytes come in pieces, words of private contracts.
use Rattle.std.specs.Prelude.{◌≡◌, ◌⊎◌, ℕ, ◌+◌, ◌-◌, ◌≤◌, ◌<◌, Bool, true, false, List, [], ◌∷◌, ◌++◌, length, drop, Option, None, Some, Result, Ok, Err}
use Rattle.circuit_plain.specs.Netlist.{Netlist}
use Rattle.aiger_text.specs.declared.faults.AagFault.{AagFault}
use Rattle.aiger_text.specs.declared.faults.AagFault.TheVariants.{Truncated}
use Rattle.aiger_text.specs.declared.faults.LineStop.{LineStop}
use Rattle.aiger_text.specs.declared.faults.LineStop.TheVariants.{Fault, Memory}
use Rattle.aiger_text.specs.declared.headers.Header.{Header}
use Rattle.aig_binary.specs.BareReading.{AreNumbered}
use Rattle.aig_binary.specs.Gates.{read_gate, read_gates}

-- it is said because the bytes end
abbrev pub waits : AagFault → Bool
waits Truncated = true
waits _ = false

-- the first gates of a header's
pub record AreGatesSoFar (h : Header) (net : Netlist) : Type 0 where
  pub max_var : net.max_var ≡ h.max_var
  pub no_inputs : net.inputs ≡ []
  pub numbered : AreNumbered (h.inputs + 1) net.gates
  pub counted : length net.gates ≤ h.gates

-- the variable of the next gate
abbrev pub next_variable : Header → Netlist → ℕ
next_variable h net = h.inputs + 1 + length net.gates

-- all gates, where these bytes stand behind those so far, and what stands behind them
abbrev pub gates_behind : Header → Netlist → List ℕ → Result (Netlist × List ℕ) AagFault
gates_behind h net bytes =
    read_gates (h.gates - length net.gates) (next_variable h net) net bytes

-- a gate is to come, and these bytes aren't all of it
pub record IsWaiting (h : Header) (net : Netlist) (bytes : List ℕ) : Type 0 where
  pub more : length net.gates < h.gates
  pub waits : read_gate (next_variable h net) bytes ≡ Err Truncated

-- what the gates and bytes gave behind which others come, those give then
abbrev pub GoOn : Header → Netlist → List ℕ → Netlist → List ℕ → Type 0
GoOn h old bytes new rest =
    (behind : List ℕ) → gates_behind h old (bytes ++ behind) ≡ gates_behind h new (rest ++ behind)

-- whether all came, or their fault, or want of memory
abbrev pub AreMoreGates : Header → Netlist → List ℕ → Result Bool LineStop → Netlist → List ℕ
    → Type 0
AreMoreGates h old bytes (Ok true) new rest =
    GoOn h old bytes new rest × (length new.gates ≡ h.gates)
AreMoreGates h old bytes (Ok false) new rest = GoOn h old bytes new rest × IsWaiting h new rest
AreMoreGates h old bytes (Err (Fault name)) new rest =
    (behind : List ℕ) → gates_behind h old (bytes ++ behind) ≡ Err name
AreMoreGates h old bytes (Err Memory) new rest = Unit {0}

-- the last bytes of others, fewer than these
pub record IsProperEnd (bytes rest : List ℕ) : Type 0 where
  pub first : ℕ
  pub front : List ℕ
  pub parts : bytes ≡ first ∷ (front ++ rest)

-- nothing was read, or what waited for bytes took some
abbrev pub IsBehind : Header → Netlist → List ℕ → Netlist → List ℕ → Type 0
IsBehind h old bytes new rest =
    (pending added : List ℕ) → bytes ≡ pending ++ added → IsWaiting h old pending
    → ((new ≡ old) × (rest ≡ bytes)) ⊎ IsProperEnd added rest

-- how many of the bytes are left behind the gates, if all came, or their fault, or want of memory
abbrev pub AreTaken : Header → Netlist → List ℕ → List ℕ → Result (Option ℕ) LineStop → Netlist
    → List ℕ → Type 0
AreTaken h old pending bytes (Ok None) new rest =
    ((behind : List ℕ) → gates_behind h old (pending ++ (bytes ++ behind))
    ≡ gates_behind h new (rest ++ behind))
    × IsWaiting h new rest
AreTaken h old pending bytes (Ok (Some left)) new rest =
    (left < length bytes) × (length new.gates ≡ h.gates)
    × ((behind : List ℕ) → gates_behind h old (pending ++ (bytes ++ behind))
    ≡ Ok (new, drop (length bytes - left) bytes ++ behind))
AreTaken h old pending bytes (Err (Fault name)) new rest =
    (behind : List ℕ) → gates_behind h old (pending ++ (bytes ++ behind)) ≡ Err name
AreTaken h old pending bytes (Err Memory) new rest = Unit {0}
