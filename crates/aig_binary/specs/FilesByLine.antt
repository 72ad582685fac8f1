-- A circuit file in the binary form that is read as its bytes come: what was read, what the bytes to
-- come give, and what a line does, wherever the lines of its text end within the gates.
use Rattle.std.specs.Prelude.{◌≡◌, ◌≢◌, ◌⊎◌, ℕ, ◌+◌, ◌-◌, ◌<◌, Bool, true, false, List, [], ◌∷◌, ◌++◌, length, drop, Option, None, Some, Result, Ok, Err}
use Rattle.std.specs.List.{All}
use Rattle.dq_text.specs.Line.{TextLine, lines_from, IsFirstLine}
use Rattle.aiger_text.specs.ReaderState.{IsCircuitReader}
use Rattle.aiger_text.specs.Scan.{LineFault}
use Rattle.aiger_text.specs.Steps.{line_of}
use Rattle.aiger_text.specs.Symbol.{SymbolTable}
use Rattle.aiger_text.specs.declared.faults.AagStop.{AagStop}
use Rattle.aiger_text.specs.declared.faults.AagStop.TheVariants.{Refused, Memory}
use Rattle.aiger_text.specs.declared.files.ReadCircuit.{ReadCircuit}
use Rattle.aig_binary.specs.BareFile.{IsBareOf, bare_with}
use Rattle.aig_binary.specs.Deltas.{and_then}
use Rattle.aig_binary.specs.MoreGates.{AreGatesSoFar, IsWaiting, gates_behind}
use Rattle.aig_binary.specs.Scan.{Ending, behind_gates, behind_outputs, binary_line, file_with, no_symbols, on_line, read_outputs, read_symbols, scan_lines}
use Rattle.aig_binary.specs.declared.bare.BareCircuit.{BareCircuit}
use Rattle.aig_binary.specs.declared.files_by_line.AigLines.{AigLines}
use Rattle.aig_binary.specs.declared.files_by_line.Place.{Place}
use Rattle.aig_binary.specs.declared.files_by_line.Place.TheVariants.{Outputs, Gates, Symbols, Comment}

abbrev pub comment_from : SymbolTable → List ℕ → ℕ → Ending
comment_from table bytes line =
    record { symbols = table; comment = Some bytes; comment_line = Some line }

abbrev pub gives_at : Place → AigLines → List ℕ → Result ReadCircuit LineFault
gives_at Outputs l bytes =
    and_then
    (read_outputs (l.reader.header.outputs - length l.reader.circuit.outputs) l.reader.circuit
    l.number bytes) (behind_outputs l.reader.header_line l.reader.header)
gives_at Gates l bytes =
    on_line (binary_line l.reader.header_line l.reader.header)
    (gates_behind l.reader.header l.circuit (l.pending.items ++ bytes))
    (behind_gates l.reader.header_line l.reader.header)
gives_at Symbols l bytes =
    and_then (read_symbols l.reader.header l.reader.symbols (lines_from l.number bytes))
    (λ ending. Ok (file_with l.reader.header l.circuit ending))
gives_at Comment l bytes =
    Ok (file_with l.reader.header l.circuit (comment_from l.reader.symbols bytes l.number))

-- the file, or its first fault, where these are the bytes to come
abbrev pub binary_gives : AigLines → List ℕ → Result ReadCircuit LineFault
binary_gives l bytes = gives_at l.place l bytes

pub record AreOutputs (l : AigLines) : Type 0 where
  pub no_inputs : l.reader.circuit.inputs ≡ []
  pub no_gates : l.reader.circuit.gates ≡ []
  pub no_symbols : l.reader.symbols ≡ no_symbols
  pub number : l.number ≡ l.reader.header_line + 1 + length l.reader.circuit.outputs
  pub none : l.pending.items ≡ []

pub record AreGates (l : AigLines) : Type 0 where
  pub so_far : AreGatesSoFar l.reader.header l.circuit
  pub waiting : IsWaiting l.reader.header l.circuit l.pending.items
  pub no_symbols : l.reader.symbols ≡ no_symbols
  pub number : l.number ≡ binary_line l.reader.header_line l.reader.header

abbrev pub IsAt : Place → AigLines → Type 0
IsAt Outputs l =
    AreOutputs l × (length l.reader.circuit.outputs < l.reader.header.outputs)
IsAt Gates l = AreGates l
IsAt Symbols l = IsBareOf l.reader.header l.circuit
IsAt Comment l = IsBareOf l.reader.header l.circuit

pub record AreAigLines (l : AigLines) : Type 0 where
  pub ready : IsCircuitReader l.reader
  pub all_defined : l.reader.header.max_var ≡ l.reader.header.inputs + l.reader.header.gates
  pub at : IsAt l.place l

-- the header's line
abbrev pub BeginsBinary : ℕ → List ℕ → Result AigLines AagStop → Type 0
BeginsBinary first text (Ok l) =
    (behind : List ℕ) (lines : List TextLine)
    → scan_lines first (line_of text first behind ∷ lines) ≡ binary_gives l behind
BeginsBinary first text (Err (Refused line name)) =
    (behind : List ℕ) (lines : List TextLine)
    → scan_lines first (line_of text first behind ∷ lines)
    ≡ Err (record { line = line; name = name })
BeginsBinary first text (Err Memory) = Unit {0}

-- these bytes are a line, its LF, and others, or the line alone, which isn't empty then
pub record IsLine (text : List ℕ) (ended : Bool) (bytes behind : List ℕ) : Type 0 where
  pub one_line : All (λ byte. byte ≢ 10) text
  pub fed : ended ≡ true → bytes ≡ text ++ (10 ∷ behind)
  pub last : ended ≡ false → (text ≢ []) × (bytes ≡ text) × (behind ≡ [])

-- What the bytes gave, those behind the line give; and other bytes too, behind what may end the line.
pub record GoesOn (old : AigLines) (text : List ℕ) (ended : Bool) (new : AigLines) : Type 0 where
  pub line : (bytes behind : List ℕ) → IsLine text ended bytes behind
      → binary_gives old bytes ≡ binary_gives new behind
  pub end : List ℕ
  pub any : (behind : List ℕ)
      → binary_gives old (text ++ (end ++ behind)) ≡ binary_gives new behind

-- or the fault, or want of memory
abbrev pub TakesBinary : AigLines → List ℕ → Bool → Result (Unit {0}) AagStop → AigLines → Type 0
TakesBinary old text ended (Ok _) new = GoesOn old text ended new
TakesBinary old text ended (Err (Refused line name)) new =
    (bytes behind : List ℕ) → IsLine text ended bytes behind
    → binary_gives old bytes ≡ Err (record { line = line; name = name })
TakesBinary old text ended (Err Memory) new = Unit {0}

-- the same of a line outside the gates, wherever it ends
abbrev pub TakesText : AigLines → List ℕ → Result (Unit {0}) AagStop → AigLines → Type 0
TakesText old text (Ok _) new =
    (bytes behind : List ℕ) → IsFirstLine bytes text behind → bytes ≢ []
    → binary_gives old bytes ≡ binary_gives new behind
TakesText old text (Err (Refused line name)) new =
    (bytes behind : List ℕ) → IsFirstLine bytes text behind → bytes ≢ []
    → binary_gives old bytes ≡ Err (record { line = line; name = name })
TakesText old text (Err Memory) new = Unit {0}

-- the same of bytes of gates: how many of them are left, if all gates came
abbrev pub TakesBytes : AigLines → List ℕ → Result (Option ℕ) AagStop → AigLines → Type 0
TakesBytes old bytes (Ok None) new =
    (behind : List ℕ) → binary_gives old (bytes ++ behind) ≡ binary_gives new behind
TakesBytes old bytes (Ok (Some left)) new =
    (left < length bytes) × (new.place ≡ Symbols)
    × ((behind : List ℕ) → binary_gives old (bytes ++ behind)
    ≡ binary_gives new (drop (length bytes - left) bytes ++ behind))
TakesBytes old bytes (Err (Refused line name)) new =
    (behind : List ℕ) → binary_gives old (bytes ++ behind)
    ≡ Err (record { line = line; name = name })
TakesBytes old bytes (Err Memory) new = Unit {0}

-- the same of LF
abbrev pub TakesFeed : AigLines → Result (Unit {0}) AagStop → AigLines → Type 0
TakesFeed old (Ok _) new =
    (behind : List ℕ) → binary_gives old (10 ∷ behind) ≡ binary_gives new behind
TakesFeed old (Err (Refused line name)) new =
    (behind : List ℕ) → binary_gives old (10 ∷ behind) ≡ Err (record { line = line; name = name })
TakesFeed old (Err Memory) new = Unit {0}

-- without a comment
abbrev pub file_so_far : AigLines → BareCircuit
file_so_far l =
    bare_with l.reader.header l.circuit
    (record { symbols = l.reader.symbols; comment = None; comment_line = None })

-- where the text ends: the circuit and its symbols, or the fault
abbrev pub EndsBinary : AigLines → Result BareCircuit AagStop → Type 0
EndsBinary l (Ok bare) =
    ((l.place ≡ Symbols) ⊎ (l.place ≡ Comment)) × (bare ≡ file_so_far l)
EndsBinary l (Err (Refused line name)) =
    binary_gives l [] ≡ Err (record { line = line; name = name })
EndsBinary l (Err Memory) = ⊥
