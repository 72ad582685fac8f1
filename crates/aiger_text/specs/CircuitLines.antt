-- A circuit file that is read line by line: what a line does, and what the lines to come give. The
-- comment isn't kept.
use Rattle.std.specs.Prelude.{◌≡◌, ℕ, ◌+◌, Bool, true, false, not, ◌&&◌, List, [], ◌∷◌, Option, None, Some, Result, Ok, Err}
use Rattle.dq_text.specs.Line.{TextLine}
use Rattle.circuit_plain.specs.Netlist.{Netlist}
use Rattle.aiger_text.specs.Scan.{AllGrounded, Body, IsAagReading, LineFault, finish, read_body, read_lines, undefined_line}
use Rattle.aiger_text.specs.Steps.{line_of}
use Rattle.aiger_text.specs.Symbol.{SymbolTable}
use Rattle.aiger_text.specs.declared.faults.AagStop.{AagStop}
use Rattle.aiger_text.specs.declared.files.AagFile.{AagFile}

-- what a reader knows
pub record CircuitLines : Type 0 where
  -- the number of the next line
  pub number : ℕ
  -- none before the header
  pub body : Option Body
  pub in_comment : Bool
  -- why nothing more is read
  pub stopped : Option AagStop

-- before the first line
abbrev pub no_lines : ℕ → CircuitLines
no_lines first = record { number = first; body = None; in_comment = false; stopped = None }

abbrev pub body_gives : Bool → Body → List TextLine → ℕ → Result AagFile LineFault
body_gives true b lines number = finish b None
body_gives false b lines number = read_body b lines number

abbrev pub gives : Option Body → Bool → List TextLine → ℕ → Result AagFile LineFault
gives None in_comment lines number = read_lines lines number
gives (Some b) in_comment lines number = body_gives in_comment b lines number

-- the file, or its first fault but for cycles, where these are the lines to come; where the comment
-- began it is left out
abbrev pub lines_give : CircuitLines → List TextLine → Result AagFile LineFault
lines_give r lines = gives r.body r.in_comment lines r.number

abbrev pub header_line_or : Option Body → ℕ → ℕ
header_line_or None number = number
header_line_or (Some b) number = b.header_line

-- the number of the header's line
abbrev pub header_line : CircuitLines → ℕ
header_line r = header_line_or r.body r.number

abbrev pub netlist_so_far : Option Body → Netlist
netlist_so_far None = record { max_var = 0; inputs = []; outputs = []; gates = [] }
netlist_so_far (Some b) = b.netlist

-- the file with this comment, where it begins here
abbrev pub commented : Bool → List ℕ → Result AagFile LineFault → Result AagFile LineFault
commented true comment (Ok file) = Ok (record file { comment = Some comment })
commented true comment (Err fault) = Err fault
commented false comment read = read

-- What a line and those behind it give, these give then. A line that is refused is the first fault of
-- the text, a cycle among them.
abbrev pub Reads : Option Body → Bool → ℕ → List ℕ → Result (Unit {0}) AagStop → Option Body → Bool
    → Type 0
Reads old old_comment number text (Ok _) new new_comment =
    (behind : List ℕ) (lines : List TextLine)
    → gives old old_comment (line_of text number behind ∷ lines) number
    ≡ commented (not old_comment && new_comment) behind (gives new new_comment lines (number + 1))
Reads old old_comment number text (Err stop) new new_comment =
    (behind : List ℕ) (lines : List TextLine) → IsAagReading (header_line_or old number)
    (gives old old_comment (line_of text number behind ∷ lines) number) (Err stop)

abbrev pub ReadsLine : CircuitLines → List ℕ → Result (Unit {0}) AagStop → CircuitLines → Type 0
ReadsLine old text result new =
    Reads old.body old.in_comment old.number text result new.body new.in_comment

-- behind a line that was read
pub record GoesOn (old new : CircuitLines) : Type 0 where
  pub number : new.number ≡ old.number + 1
  pub header : header_line new ≡ header_line old
  pub reads : new.stopped ≡ None

-- all that is kept behind a stop
abbrev pub with_stop : CircuitLines → AagStop → CircuitLines
with_stop r stop = record r { body = None; in_comment = false; stopped = Some stop }

-- a circuit with its symbols as a file without a comment
abbrev pub as_file : Result (Netlist × SymbolTable) AagStop → Result AagFile AagStop
as_file (Ok parts) = Ok (record { circuit = parts.0; symbols = parts.1; comment = None })
as_file (Err stop) = Err stop

-- it names only what it defines, and has no cycle
pub record IsWhole (b : Body) : Type 0 where
  pub defined : undefined_line b ≡ None
  pub grounded : AllGrounded b.netlist
