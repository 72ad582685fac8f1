-- On which line a comment begins. In AIGER's binary form that can't be counted from the bytes before
-- it, so that the reading tells it.
use Rattle.std.specs.Prelude.{◌≡◌, ℕ, ◌+◌, true, List, ◌∷◌, ◌++◌, Option, None, Some, Result, Ok, Err}
use Rattle.dq_text.specs.Line.{TextLine, lines_from}
use Rattle.aiger_text.specs.Lines.{begins_comment}
use Rattle.aiger_text.specs.declared.faults.AagStop.{AagStop}
use Rattle.aiger_text.specs.declared.files.AagFile.{AagFile}
use Rattle.aiger_text.specs.declared.files.ReadCircuit.{ReadCircuit}

-- the comment stands behind its mark, a line of the text whose first line has this number, and
-- begins on the line behind that
pub record IsBehindMark (text : List ℕ) (first : ℕ) (comment : List ℕ) (line : ℕ) : Type 0 where
  pub before : List TextLine
  pub mark : TextLine
  pub after : List TextLine
  pub lines : lines_from first text ≡ before ++ (mark ∷ after)
  pub marks : begins_comment mark.text ≡ true
  pub comment_is : comment ≡ mark.behind
  pub line_is : line ≡ mark.number + 1

-- there is a line where there is a comment
abbrev pub IsCommentLine : List ℕ → ℕ → Option (List ℕ) → Option ℕ → Type 0
IsCommentLine text first None None = Unit {0}
IsCommentLine text first (Some comment) (Some line) = IsBehindMark text first comment line
IsCommentLine text first (Some comment) None = ⊥
IsCommentLine text first None (Some line) = ⊥

abbrev pub file_of : Result ReadCircuit AagStop → Result AagFile AagStop
file_of (Ok read) = Ok read.file
file_of (Err stop) = Err stop
