-- What holds of a binary file whose inputs aren't listed.
use Rattle.std.specs.Prelude.{◌≡◌, ℕ, ◌+◌, ◌≤◌, ◌<◌, ◌^◌, List, [], length, Option, None, Some}
use Rattle.circuit_plain.specs.Netlist.{Netlist}
use Rattle.aiger_text.specs.declared.headers.Header.{Header}
use Rattle.aig_binary.specs.BareReading.{AreNumbered}
use Rattle.aig_binary.specs.Scan.{Ending}
use Rattle.aig_binary.specs.declared.bare.BareCircuit.{BareCircuit}

-- a comment's lines can be counted from its first one on
abbrev pub CanCount : Option (List ℕ) → Option ℕ → Type 0
CanCount (Some comment) (Some line) = line + length comment < 2 ^ 63
CanCount (Some comment) None = ⊥
CanCount None line = Unit {0}

pub record IsBare (bare : BareCircuit) : Type 0 where
  pub no_inputs : bare.file.circuit.inputs ≡ []
  pub numbered : AreNumbered (bare.inputs + 1) bare.file.circuit.gates
  pub in_range : bare.inputs ≤ bare.file.circuit.max_var
  pub comment : CanCount bare.file.comment bare.comment_line

-- the same of the netlist behind a header
pub record IsBareOf (h : Header) (net : Netlist) : Type 0 where
  pub no_inputs : net.inputs ≡ []
  pub numbered : AreNumbered (h.inputs + 1) net.gates
  pub in_range : h.inputs ≤ net.max_var

abbrev pub bare_with : Header → Netlist → Ending → BareCircuit
bare_with h net ending =
    record {
      inputs = h.inputs;
      file = record { circuit = net; symbols = ending.symbols; comment = ending.comment };
      comment_line = ending.comment_line;
    }
