-- What the parts of a reading answer, words of private contracts.
use Rattle.std.specs.Prelude.{◌≡◌, ℕ, zero, suc, ◌*◌, List, [], Result, Ok, Err}
use Rattle.circuit_plain.specs.Netlist.{Netlist}
use Rattle.aiger_text.specs.Scan.{LineFault}
use Rattle.aiger_text.specs.declared.body.CircuitReader.{CircuitReader}
use Rattle.aiger_text.specs.declared.faults.AagFault.{AagFault}
use Rattle.aiger_text.specs.declared.faults.AagStop.{AagStop}
use Rattle.aiger_text.specs.declared.faults.AagStop.TheVariants.{Refused, Memory as NoMemory}
use Rattle.aiger_text.specs.declared.faults.LineStop.{LineStop}
use Rattle.aiger_text.specs.declared.faults.LineStop.TheVariants.{Fault, Memory}
use Rattle.aiger_text.specs.declared.headers.Header.{Header}
use Rattle.aig_binary.specs.Scan.{no_symbols}

-- a number of so many groups is less than this
abbrev pub end_of : ℕ → ℕ
end_of zero = 1
end_of (suc groups) = 128 * end_of groups

-- nothing was read behind the header
pub record IsFresh (r : CircuitReader) : Type 0 where
  pub inputs : r.circuit.inputs ≡ []
  pub outputs : r.circuit.outputs ≡ []
  pub gates : r.circuit.gates ≡ []
  pub symbols : r.symbols ≡ no_symbols

-- over the header's variables, without inputs and gates
pub record IsGateless (h : Header) (net : Netlist) : Type 0 where
  pub max_var : net.max_var ≡ h.max_var
  pub inputs : net.inputs ≡ []
  pub gates : net.gates ≡ []

-- the netlist and what stands behind the gates, or their fault, or want of memory
abbrev pub AreGatesOf : Result (Netlist × List ℕ) AagFault → Result (Unit {0}) LineStop → Netlist
    → List ℕ → Type 0
AreGatesOf read (Ok _) net bytes = read ≡ Ok (net, bytes)
AreGatesOf read (Err (Fault name)) net bytes = read ≡ Err name
AreGatesOf read (Err Memory) net bytes = Unit {0}

-- the same of the outputs' lines
abbrev pub AreOutputsOf : Result (Netlist × List ℕ) LineFault → Result (Unit {0}) AagStop → Netlist
    → List ℕ → Type 0
AreOutputsOf read (Ok _) net bytes = read ≡ Ok (net, bytes)
AreOutputsOf read (Err (Refused line name)) net bytes =
    read ≡ Err (record { line = line; name = name })
AreOutputsOf read (Err NoMemory) net bytes = Unit {0}
