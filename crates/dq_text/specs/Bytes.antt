-- The bytes that part a text into lines and tokens.
use Rattle.std.specs.Prelude.{ℕ, ◌==◌, ◌||◌, if◌then◌else◌}
use Rattle.dq_text.specs.declared.bytes.ByteKind.{ByteKind}
use Rattle.dq_text.specs.declared.bytes.ByteKind.TheVariants.{Blank, LineFeed, LetterC, Other}

-- blanks are space, tab and CR; LF ends a line
abbrev pub kind_of : ℕ → ByteKind
kind_of byte =
    if byte == 32 || (byte == 9 || byte == 13) then Blank else
    if byte == 10 then LineFeed else
    if byte == 99 then LetterC else Other
