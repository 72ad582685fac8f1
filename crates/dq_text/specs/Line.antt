-- The lines of a text, and the tokens of one line where no line is a comment.
use Rattle.std.specs.Prelude.{ℕ, ◌+◌, ◌==◌, List, [], ◌∷◌, ◌++◌, ◌≡◌, ◌≢◌, ◌⊎◌, if◌then◌else◌}
use Rattle.std.specs.List.{All}
use Rattle.dq_text.specs.Bytes.{kind_of}
use Rattle.dq_text.specs.Token.{is_separator, goes_on}

-- a line without its LF, with its number and the bytes behind it and its LF
pub record TextLine : Type 0 where
  pub text : List ℕ
  pub number : ℕ
  pub behind : List ℕ

-- a byte that isn't LF, in front of lines
abbrev pub extend_line : ℕ → ℕ → List TextLine → List TextLine
extend_line byte number [] = record { text = byte ∷ []; number = number; behind = [] } ∷ []
extend_line byte number (line ∷ lines) =
    record { text = byte ∷ line.text; number = number; behind = line.behind } ∷ lines

-- the lines of bytes whose first line has this number; a line ends at LF or at the end of the
-- bytes, and an empty piece behind the last LF is no line
abbrev pub lines_from : ℕ → List ℕ → List TextLine
lines_from number [] = []
lines_from number (byte ∷ bytes) =
    if byte == 10
    then record { text = []; number = number; behind = bytes } ∷ lines_from (number + 1) bytes
    else extend_line byte number (lines_from number bytes)

-- these bytes are a line with this text, with its LF if it has one, and then the others
pub record IsFirstLine (bytes text others : List ℕ) : Type 0 where
  pub parts : (bytes ≡ text ++ (10 ∷ others)) ⊎ ((bytes ≡ text) × (others ≡ []))
  pub one_line : All (λ byte. byte ≢ 10) text

-- the bytes that are left, and the number of the line that begins there
pub record LineCursor : Type 0 where
  pub rest : List ℕ
  pub number : ℕ

abbrev pub extend_token : ℕ → List (List ℕ) → List (List ℕ)
extend_token byte [] = []
extend_token byte (token ∷ tokens) = (byte ∷ token) ∷ tokens

-- the longest runs of bytes other than space, tab, CR and LF
abbrev pub line_tokens : List ℕ → List (List ℕ)
line_tokens [] = []
line_tokens (byte ∷ bytes) =
    if is_separator (kind_of byte) then line_tokens bytes else
    if goes_on bytes then extend_token byte (line_tokens bytes) else (byte ∷ []) ∷ line_tokens bytes
