-- What a reader of a circuit file is, by its fields.
use Rattle.std.specs.Prelude.{◌≡◌, ℕ, ◌+◌, ◌<◌, ◌^◌, Bool, true, false, List, ◌∷◌, None, Some, Result, Ok, Err, IfSome, IfNone}
use Rattle.std.specs.Option.{option_map}
use Rattle.dq_text.specs.Line.{TextLine}
use Rattle.aiger_text.specs.ReaderState.{IsCircuitReader, body_of}
use Rattle.aiger_text.specs.Scan.{Body, IsAagReading, finish, read_body, read_lines}
use Rattle.aiger_text.specs.Steps.{line_of}
use Rattle.aiger_text.specs.declared.body.CircuitReader.{CircuitReader}
use Rattle.aiger_text.specs.declared.faults.AagStop.{AagStop}
use Rattle.aiger_text.specs.declared.reader.Taken.{Taken}
use Rattle.aiger_text.specs.declared.reader.Taken.TheVariants.{Line, CommentMark}
use Rattle.aiger_text.specs.CircuitLines.{CircuitLines, IsWhole, netlist_so_far}
use Rattle.aiger_text.specs.declared.circuits_by_line.AagLines.TheInside.{Inside}

abbrev pub lines_in : Inside → CircuitLines
lines_in l =
    record {
      number = l.number;
      body = option_map body_of l.reader;
      in_comment = l.in_comment;
      stopped = l.stopped;
    }

-- a file that is read, and whether its comment began
pub record IsReadSoFar (r : CircuitReader) (in_comment : Bool) : Type 0 where
  pub ready : IsCircuitReader r
  pub whole : in_comment ≡ true → IsWhole (body_of r)

pub record IsReader (l : Inside) : Type 0 where
  pub so_far : IfSome l.reader (λ r. IsReadSoFar r l.in_comment)
  pub small : IfNone l.stopped (IfNone l.reader (l.number < 2 ^ 62))
  -- nothing is kept behind a stop
  pub ended : IfSome l.stopped (λ _. l.reader ≡ None)
  pub nothing : l.nothing ≡ netlist_so_far None
  pub no_comment : IfNone l.reader (l.in_comment ≡ false)

-- what a line behind the header does
abbrev pub TakesBehind : Body → ℕ → List ℕ → Result Taken AagStop → Body → Type 0
TakesBehind old number text (Ok Line) new =
    (behind : List ℕ) (lines : List TextLine)
    → read_body old (line_of text number behind ∷ lines) number ≡ read_body new lines (number + 1)
TakesBehind old number text (Ok CommentMark) new =
    ((behind : List ℕ) (lines : List TextLine)
    → read_body old (line_of text number behind ∷ lines) number ≡ finish new (Some behind))
    × IsWhole new
TakesBehind old number text (Err stop) new =
    (behind : List ℕ) (lines : List TextLine) → IsAagReading old.header_line
    (read_body old (line_of text number behind ∷ lines) number) (Err stop)

-- what the header's line does
abbrev pub BeginsWith : ℕ → List ℕ → Result CircuitReader AagStop → Type 0
BeginsWith number text (Ok reader) =
    (behind : List ℕ) (lines : List TextLine)
    → read_lines (line_of text number behind ∷ lines) number
    ≡ read_body (body_of reader) lines (number + 1)
BeginsWith number text (Err stop) =
    (behind : List ℕ) (lines : List TextLine) → IsAagReading number
    (read_lines (line_of text number behind ∷ lines) number) (Err stop)
