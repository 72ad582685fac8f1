-- What `Lines` and `LineTokens` show of their fields.
use Rattle.std.specs.Prelude.{ℕ, ◌+◌, ◌<◌, ◌^◌, List, length}
use Rattle.dq_text.specs.Line.{LineCursor, line_tokens}
use Rattle.dq_text.specs.declared.lines.Lines.TheInside.{Inside as LinesInside}
use Rattle.dq_text.specs.declared.lines.LineTokens.TheInside.{Inside as TokensInside}

abbrev pub cursor_of : LinesInside → LineCursor
cursor_of l = record { rest = l.rest.now; number = l.number }

-- the numbers don't pass their type's end
abbrev pub can_number : LinesInside → Type 0
can_number l = l.number + length l.rest.now < 2 ^ 64

abbrev pub tokens_in : TokensInside → List (List ℕ)
tokens_in t = line_tokens t.rest.now
