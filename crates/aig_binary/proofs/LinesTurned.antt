-- From the header to the outputs, from these to the gates, and from the gates to the symbols.
use Rattle.std.proofs.Common.{◌≡◌, ℕ, ◌+◌, ◌<◌, List, [], length, Result, Err, ap, arith, append-nil}
use Rattle.circuit_plain.specs.Netlist.{Netlist}
use Rattle.aiger_text.specs.ReaderState.{body_of}
use Rattle.aiger_text.specs.Scan.{LineFault, start}
use Rattle.aiger_text.specs.declared.faults.AagFault.TheVariants.{Truncated}
use Rattle.aiger_text.specs.declared.files.ReadCircuit.{ReadCircuit}
use Rattle.aiger_text.specs.declared.headers.Header.{Header}
use Rattle.aig_binary.specs.FilesByLine.{binary_gives, gives_at, AreGates}
use Rattle.aig_binary.specs.Gates.{read_gates}
use Rattle.aig_binary.specs.Scan.{behind_gates, behind_header, behind_outputs, binary_line, on_line}
use Rattle.aig_binary.specs.declared.files_by_line.AigLines.{AigLines}
use Rattle.aig_binary.specs.declared.files_by_line.Place.{Place}
use Rattle.aig_binary.specs.declared.files_by_line.Place.TheVariants.{Outputs, Gates}
use Rattle.aig_binary.proofs.Steps.{gate_stops}

module _ (l : AigLines) where
  pub gives_there : (place : Place) (bytes : List ℕ) → l.place ≡ place → binary_gives l bytes ≡ gives_at place l bytes
  gives_there place bytes is = ap (λ p. gives_at p l bytes) is

  -- behind the header
  pub outputs_begin : (first : ℕ) (h : Header) (bytes : List ℕ) → l.place ≡ Outputs →
      body_of l.reader ≡ start first h → l.number ≡ first + 1 → behind_header first bytes h ≡ binary_gives l bytes
  outputs_begin first h bytes place is number = search (arith, gives_there)

abbrev gates_give : ℕ → Header → ℕ → ℕ → Netlist → List ℕ → Result ReadCircuit LineFault
gates_give line h more v net bytes = on_line (binary_line line h) (read_gates more v net bytes) (behind_gates line h)

-- there are none
pub no_gates : (line : ℕ) (h : Header) (net : Netlist) (bytes : List ℕ) → h.gates ≡ 0 →
    behind_outputs line h (net, bytes) ≡ behind_gates line h (net, bytes)
no_gates line h net bytes none = ap (λ k. gates_give line h k (h.inputs + 1) net bytes) none

-- the text ends before the last output
pub outputs_missing : (l : AigLines) → l.place ≡ Outputs →
    length l.reader.circuit.outputs < l.reader.header.outputs →
    binary_gives l [] ≡ Err (record { line = l.number; name = Truncated })
outputs_missing l place below = search (arith, gives_there)

-- or before the last gate
pub gates_missing : (l : AigLines) → l.place ≡ Gates → AreGates l →
    binary_gives l [] ≡ Err (record { line = l.number; name = Truncated })
gates_missing l place are = search (arith, append-nil, gate_stops, gives_there)
