-- The reader's fields as the definitions see them.
use Rattle.std.specs.Prelude.{◌≡◌, ℕ, ◌^◌, ◌<◌, ◌≤◌, Bool, ◌&&◌, length, Result, Ok, Err}
use Rattle.number_tables.specs.Numbers.{has_number}
use Rattle.circuit_plain.specs.Netlist.{Netlist, IsVariable, IsDefined}
use Rattle.aiger_text.specs.Lines.{is_defined, is_positive, is_literal}
use Rattle.aiger_text.specs.Scan.{Body}
use Rattle.aiger_text.specs.Symbol.{SymbolTable}
use Rattle.aiger_text.specs.declared.body.CircuitReader.{CircuitReader}
use Rattle.aiger_text.specs.declared.headers.Header.{Header}
use Rattle.aiger_text.specs.declared.headers.TheConstants.{MAX_COUNT}
use Rattle.aiger_text.specs.declared.numbers.GateNumbers.{GateNumbers}
use Rattle.aiger_text.specs.declared.faults.AagFault.{AagFault}
use Rattle.aiger_text.specs.declared.faults.LineStop.{LineStop}
use Rattle.aiger_text.specs.declared.faults.LineStop.TheVariants.{Fault, Memory}

abbrev pub body_of : CircuitReader → Body
body_of r =
    record {
      header_line = r.header_line;
      header = r.header;
      netlist = r.circuit;
      symbols = r.symbols;
    }

-- the header's counts are within their limit
pub record IsSmall (h : Header) : Type 0 where
  pub max_var : h.max_var ≤ MAX_COUNT
  pub inputs : h.inputs ≤ MAX_COUNT
  pub outputs : h.outputs ≤ MAX_COUNT
  pub gates : h.gates ≤ MAX_COUNT

-- the set has the variables of the inputs and gates, and the circuit the header's range
pub record IsCircuitReader (r : CircuitReader) : Type 0 where
  pub defined : (v : ℕ) → has_number r.defined v ≡ is_defined r.circuit v
  pub max_var : r.circuit.max_var ≡ r.header.max_var
  pub small : IsSmall r.header
  pub inputs_counted : length r.circuit.inputs ≤ r.header.inputs
  pub outputs_counted : length r.circuit.outputs ≤ r.header.outputs
  pub gates_counted : length r.circuit.gates ≤ r.header.gates
  pub line : r.header_line < 2 ^ 62

pub record IsNewVariable (net : Netlist) (v : ℕ) : Type 0 where
  pub in_range : IsVariable net.max_var v
  pub undefined : ¬ IsDefined net v

-- three numbers that are a gate's in range
abbrev pub gate_in_range : ℕ → GateNumbers → Bool
gate_in_range max_var g =
    is_positive max_var g.lhs && (is_literal max_var g.left && is_literal max_var g.right)

-- the netlist behind the line, or the line's fault, or want of memory
abbrev pub IsNetlistOf : Result Netlist AagFault → Result (Unit {0}) LineStop → Netlist → Type 0
IsNetlistOf line (Ok _) net = line ≡ Ok net
IsNetlistOf line (Err (Fault name)) net = line ≡ Err name
IsNetlistOf line (Err Memory) net = Unit {0}

-- the header and the symbols stay
pub record SameElse (old new : CircuitReader) : Type 0 where
  pub header_line : new.header_line ≡ old.header_line
  pub header : new.header ≡ old.header
  pub symbols : new.symbols ≡ old.symbols

-- the symbols behind the line, or the line's fault, or want of memory
abbrev pub IsTableOf : Result SymbolTable AagFault → Result (Unit {0}) LineStop → SymbolTable
    → Type 0
IsTableOf line (Ok _) table = line ≡ Ok table
IsTableOf line (Err (Fault name)) table = line ≡ Err name
IsTableOf line (Err Memory) table = Unit {0}

-- the header and the netlist stay
pub record SameButSymbols (old new : CircuitReader) : Type 0 where
  pub header_line : new.header_line ≡ old.header_line
  pub header : new.header ≡ old.header
  pub netlist : new.circuit ≡ old.circuit
