-- The tokens of a text: the longest runs of bytes other than space, tab, CR and LF, without comment
-- lines.
use Rattle.std.specs.Prelude.{ℕ, ◌+◌, ◌==◌, Bool, true, false, not, List, [], ◌∷◌, count_by, if◌then◌else◌}
use Rattle.dq_text.specs.Bytes.{kind_of}
use Rattle.dq_text.specs.declared.bytes.ByteKind.{ByteKind}
use Rattle.dq_text.specs.declared.bytes.ByteKind.TheVariants.{Blank, LineFeed, LetterC, Other}
use Rattle.dq_text.specs.declared.cursors.LinePlace.{LinePlace}
use Rattle.dq_text.specs.declared.cursors.LinePlace.TheVariants.{LineStart, InLine, InComment}

-- a token, with its line from 1 and its place in the text from 0
pub record TextToken : Type 0 where
  pub text : List ℕ
  pub line : ℕ
  pub at : ℕ

-- where the byte behind this one stands
abbrev pub place_after : ByteKind → LinePlace → LinePlace
place_after LineFeed _ = LineStart
place_after Blank place = place
place_after LetterC LineStart = InComment
place_after LetterC InLine = InLine
place_after LetterC InComment = InComment
place_after Other LineStart = InLine
place_after Other InLine = InLine
place_after Other InComment = InComment

abbrev pub line_after : ByteKind → ℕ → ℕ
line_after LineFeed line = line + 1
line_after Blank line = line
line_after LetterC line = line
line_after Other line = line

-- a line whose first byte that isn't a blank is `c` is a comment
abbrev pub is_in_token : ByteKind → LinePlace → Bool
is_in_token LineFeed _ = false
is_in_token Blank _ = false
is_in_token LetterC LineStart = false
is_in_token LetterC InLine = true
is_in_token LetterC InComment = false
is_in_token Other LineStart = true
is_in_token Other InLine = true
is_in_token Other InComment = false

abbrev pub is_separator : ByteKind → Bool
is_separator LineFeed = true
is_separator Blank = true
is_separator LetterC = false
is_separator Other = false

-- whether a token that ends before these bytes would go on in them
abbrev pub goes_on : List ℕ → Bool
goes_on [] = false
goes_on (byte ∷ _) = not (is_separator (kind_of byte))

abbrev pub extend : ℕ → ℕ → ℕ → List TextToken → List TextToken
extend byte line at [] = []
extend byte line at (token ∷ tokens) =
    record { text = byte ∷ token.text; line = line; at = at } ∷ tokens

-- a byte of a token, in front of the bytes behind it and of their tokens
abbrev pub put_byte : ℕ → ℕ → ℕ → List ℕ → List TextToken → List TextToken
put_byte byte line at bytes tokens =
    if goes_on bytes then extend byte line at tokens
    else record { text = byte ∷ []; line = line; at = at } ∷ tokens

-- the tokens of bytes that stand at this place of this line
abbrev pub tokens_from : LinePlace → ℕ → ℕ → List ℕ → List TextToken
tokens_from place line at [] = []
tokens_from place line at (byte ∷ bytes) =
    let kind = kind_of byte in
    let rest = tokens_from (place_after kind place) (line_after kind line) (at + 1) bytes in
    if is_in_token kind place then put_byte byte line at bytes rest else rest

abbrev pub tokens_of : List ℕ → List TextToken
tokens_of text = tokens_from LineStart 1 0 text

abbrev pub line_feeds : List ℕ → ℕ
line_feeds text = count_by (λ byte. byte == 10) text

-- the line behind the last LF
abbrev pub last_line_of : List ℕ → ℕ
last_line_of text = line_feeds text + 1

-- the tokens that are left, and the last line
pub record TokenStream : Type 0 where
  pub left : List TextToken
  pub last_line : ℕ
