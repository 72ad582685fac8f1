-- What one line does to the reading.
use Rattle.std.specs.Prelude.{◌≡◌, ℕ, true, false, List, Some, Result, Ok, Err}
use Rattle.dq_text.specs.Line.{TextLine}
use Rattle.dq_text.specs.BlankLine.{is_blank_line}
use Rattle.aiger_text.specs.Lines.{begins_comment}
use Rattle.aiger_text.specs.Scan.{Body, LineFault, next_part, read_line, finish}
use Rattle.aiger_text.specs.declared.body.NextLine.{NextLine}
use Rattle.aiger_text.specs.declared.body.NextLine.TheVariants.{InputLine, OutputLine, GateLine, SymbolLine}
use Rattle.aiger_text.specs.declared.faults.AagStop.{AagStop}
use Rattle.aiger_text.specs.declared.faults.AagStop.TheVariants.{Refused, Memory as NoMemory}
use Rattle.aiger_text.specs.declared.faults.LineStop.{LineStop}
use Rattle.aiger_text.specs.declared.faults.LineStop.TheVariants.{Fault, Memory}
use Rattle.aiger_text.specs.declared.files.AagFile.{AagFile}
use Rattle.aiger_text.specs.declared.reader.Taken.{Taken}
use Rattle.aiger_text.specs.declared.reader.Taken.TheVariants.{Line, CommentMark}

abbrev pub line_of : List ℕ → ℕ → List ℕ → TextLine
line_of text number behind = record { text = text; number = number; behind = behind }

-- the reading goes on with the new body, or stops at the line
abbrev pub TakesLine : Body → List ℕ → Result (Unit {0}) LineStop → Body → Type 0
TakesLine old text (Ok _) new =
    (number : ℕ) (behind : List ℕ) (next : Body → Result AagFile LineFault)
    → read_line (next_part old) old (line_of text number behind) next ≡ next new
TakesLine old text (Err (Fault name)) new =
    (number : ℕ) (behind : List ℕ) (next : Body → Result AagFile LineFault) →
    read_line (next_part old) old (line_of text number behind) next
    ≡ Err (record { line = number; name = name })
TakesLine old text (Err Memory) new = Unit {0}

abbrev pub StopsAt : ℕ → LineStop → AagStop → Type 0
StopsAt line (Fault name) stop = stop ≡ Refused line name
StopsAt line Memory stop = stop ≡ NoMemory

-- where symbols stand, the line is neither blank nor the comment's mark
abbrev pub IsSymbolIfLast : NextLine → List ℕ → Type 0
IsSymbolIfLast InputLine text = Unit {0}
IsSymbolIfLast OutputLine text = Unit {0}
IsSymbolIfLast GateLine text = Unit {0}
IsSymbolIfLast SymbolLine text = (is_blank_line text ≡ false) × (begins_comment text ≡ false)

-- the line is the comment's mark, and ends the reading, whatever stands behind it
pub record EndsAtMark (old : Body) (text : List ℕ) (new : Body) : Type 0 where
  pub ends : (number : ℕ) (behind : List ℕ) (next : Body → Result AagFile LineFault)
      → read_line (next_part old) old (line_of text number behind) next ≡ finish old (Some behind)
  pub marks : begins_comment text ≡ true
  pub same : new ≡ old

-- what any line does
abbrev pub TakesAnyLine : Body → List ℕ → Result Taken LineStop → Body → Type 0
TakesAnyLine old text (Ok Line) new = TakesLine old text (Ok tt) new
TakesAnyLine old text (Ok CommentMark) new = EndsAtMark old text new
TakesAnyLine old text (Err stop) new = TakesLine old text (Err stop) new
