-- The first fault of a circuit file, line by line, or the file.
use Rattle.std.specs.Prelude.{◌≡◌, ℕ, ◌+◌, ◌/◌, ◌==◌, nat_lt, Bool, not, ◌&&◌, ◌||◌, List, [], ◌∷◌, length, Option, None, Some, Result, Ok, Err, if◌then◌else◌}
use Rattle.std.specs.List.{All, position}
use Rattle.circuit_plain.specs.Ground.{IsGrounded, IsFirstUngrounded}
use Rattle.circuit_plain.specs.Netlist.{Netlist}
use Rattle.circuit_plain.specs.declared.circuits.Gate.{Gate}
use Rattle.dq_text.specs.Line.{TextLine, line_tokens, lines_from}
use Rattle.dq_text.specs.BlankLine.{is_blank_line}
use Rattle.aiger_text.specs.Lines.{header_of, is_defined, numbers_of, input_line, output_line, gate_line, symbol_of, symbol_line, begins_comment}
use Rattle.aiger_text.specs.Symbol.{SymbolTable}
use Rattle.aiger_text.specs.declared.headers.Header.{Header}
use Rattle.aiger_text.specs.declared.faults.AagFault.{AagFault}
use Rattle.aiger_text.specs.declared.faults.AagFault.TheVariants.{BadHeader, Undefined, Cyclic, Truncated}
use Rattle.aiger_text.specs.declared.faults.AagStop.{AagStop}
use Rattle.aiger_text.specs.declared.faults.AagStop.TheVariants.{Refused, Memory}
use Rattle.aiger_text.specs.declared.files.AagFile.{AagFile}
use Rattle.aiger_text.specs.declared.body.NextLine.{NextLine}
use Rattle.aiger_text.specs.declared.body.NextLine.TheVariants.{InputLine, OutputLine, GateLine, SymbolLine}

-- a fault by its line and name
pub record LineFault : Type 0 where
  pub line : ℕ
  pub name : AagFault

-- what was read behind the header, and the header's line
pub record Body : Type 0 where
  pub header_line : ℕ
  pub header : Header
  pub netlist : Netlist
  pub symbols : SymbolTable

abbrev pub start : ℕ → Header → Body
start line header = record {
  header_line = line;
  header = header;
  netlist = record { max_var = header.max_var; inputs = []; outputs = []; gates = [] };
  symbols = record { inputs = []; outputs = [] };
}

-- the constant, an input or a gate
abbrev pub stands_on_defined : Netlist → ℕ → Bool
stands_on_defined net l = (l / 2 == 0) || is_defined net (l / 2)

abbrev pub reads_defined : Netlist → Gate → Bool
reads_defined net g = stands_on_defined net g.left && stands_on_defined net g.right

-- the lines of the outputs and of the gates follow those of the inputs
abbrev pub output_line_number : Body → ℕ → ℕ
output_line_number b j = b.header_line + 1 + b.header.inputs + j

abbrev pub gate_line_number : Body → ℕ → ℕ
gate_line_number b i = b.header_line + 1 + b.header.inputs + b.header.outputs + i

abbrev pub or_gate : Body → Option ℕ → Option ℕ → Option ℕ
or_gate b (Some j) _ = Some (output_line_number b j)
or_gate b None (Some i) = Some (gate_line_number b i)
or_gate b None None = None

-- the first line, outputs and then gates, that names a variable neither input nor gate
abbrev pub undefined_line : Body → Option ℕ
undefined_line b =
    or_gate b (position (λ l. not (stands_on_defined b.netlist l)) b.netlist.outputs)
    (position (λ g. not (reads_defined b.netlist g)) b.netlist.gates)

abbrev pub unless_undefined : Option ℕ → AagFile → Result AagFile LineFault
unless_undefined (Some line) _ = Err (record { line = line; name = Undefined })
unless_undefined None file = Ok file

-- the file as it stands, unless it names what it doesn't define
abbrev pub finish : Body → Option (List ℕ) → Result AagFile LineFault
finish b comment =
    unless_undefined (undefined_line b)
    (record { circuit = b.netlist; symbols = b.symbols; comment = comment })

-- which line comes next
abbrev pub next_part : Body → NextLine
next_part b =
    if nat_lt (length b.netlist.inputs) b.header.inputs then InputLine else
    if nat_lt (length b.netlist.outputs) b.header.outputs then OutputLine else
    if nat_lt (length b.netlist.gates) b.header.gates then GateLine else
    SymbolLine

abbrev pub go_on : ℕ → Body → Result Netlist AagFault → (Body → Result AagFile LineFault)
    → Result AagFile LineFault
go_on line b (Ok net) next = next (record b { netlist = net })
go_on line b (Err name) next = Err (record { line = line; name = name })

abbrev pub with_symbol : ℕ → Body → Result SymbolTable AagFault → (Body → Result AagFile LineFault)
    → Result AagFile LineFault
with_symbol line b (Ok table) next = next (record b { symbols = table })
with_symbol line b (Err name) next = Err (record { line = line; name = name })

-- behind the gates
abbrev pub behind_gates : Body → TextLine → (Body → Result AagFile LineFault)
    → Result AagFile LineFault
behind_gates b line next =
    if is_blank_line line.text then next b else
    if begins_comment line.text then finish b (Some line.behind) else
    with_symbol line.number b (symbol_line b.header b.symbols (symbol_of line.text)) next

abbrev pub read_line : NextLine → Body → TextLine → (Body → Result AagFile LineFault)
    → Result AagFile LineFault
read_line InputLine b line next =
    go_on line.number b (input_line b.netlist (numbers_of (line_tokens line.text))) next
read_line OutputLine b line next =
    go_on line.number b (output_line b.netlist (numbers_of (line_tokens line.text))) next
read_line GateLine b line next =
    go_on line.number b (gate_line b.netlist (numbers_of (line_tokens line.text))) next
read_line SymbolLine b line next = behind_gates b line next

-- the end of the text, where the next line would have this number
abbrev pub at_end : NextLine → Body → ℕ → Result AagFile LineFault
at_end InputLine b number = Err (record { line = number; name = Truncated })
at_end OutputLine b number = Err (record { line = number; name = Truncated })
at_end GateLine b number = Err (record { line = number; name = Truncated })
at_end SymbolLine b number = finish b None

abbrev pub read_body : Body → List TextLine → ℕ → Result AagFile LineFault
read_body b [] number = at_end (next_part b) b number
read_body b (line ∷ lines) number =
    read_line (next_part b) b line (λ c. read_body c lines (line.number + 1))

abbrev pub behind_header : ℕ → Result Header AagFault → (Body → Result AagFile LineFault)
    → Result AagFile LineFault
behind_header line (Ok header) next = next (start line header)
behind_header line (Err name) next = Err (record { line = line; name = name })

abbrev pub read_lines : List TextLine → ℕ → Result AagFile LineFault
read_lines [] number = Err (record { line = number; name = BadHeader })
read_lines (line ∷ lines) number =
    behind_header line.number (header_of (line_tokens line.text))
    (λ b. read_body b lines (line.number + 1))

-- the file, or its first fault but for cycles, where the first line has this number
abbrev pub scan : List ℕ → ℕ → Result AagFile LineFault
scan bytes first = read_lines (lines_from first bytes) first

-- every gate is in the least set that AIGER's acyclicity asks for
abbrev pub AllGrounded : Netlist → Type 0
AllGrounded net = All (λ g. IsGrounded net g.variable) net.gates

-- the line of the first gate outside the least set: the gates' lines follow the header, the inputs
-- and the outputs
pub record IsCyclicAt (first : ℕ) (net : Netlist) (line : ℕ) : Type 0 where
  pub place : ℕ
  pub ungrounded : IsFirstUngrounded net place
  pub on_line : line ≡ first + 1 + length net.inputs + length net.outputs + place

-- what `read` answers, by what the scan gives
abbrev pub IsAagReading : ℕ → Result AagFile LineFault → Result AagFile AagStop → Type 0
IsAagReading first (Ok file) (Ok read) = (read ≡ file) × AllGrounded file.circuit
IsAagReading first (Ok file) (Err (Refused line name)) =
    (name ≡ Cyclic) × IsCyclicAt first file.circuit line
IsAagReading first (Err fault) (Ok read) = ⊥
IsAagReading first (Err fault) (Err (Refused line name)) =
    fault ≡ record { line = line; name = name }
IsAagReading first (Ok file) (Err Memory) = Unit {0}
IsAagReading first (Err fault) (Err Memory) = Unit {0}

-- the file of a body that was checked
abbrev pub checked_file : Body → Option (List ℕ) → Result (Unit {0}) AagStop
    → Result AagFile AagStop
checked_file b comment (Ok _) =
    Ok (record { circuit = b.netlist; symbols = b.symbols; comment = comment })
checked_file b comment (Err stop) = Err stop
