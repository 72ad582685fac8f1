-- The tokens of a text that comes in pieces, wherever it is cut: a token may begin in one piece and
-- end in another, so that what is known of it is its summary.
use Rattle.std.specs.Prelude.{ℕ, ℤ, ◌≡◌, ◌≢◌, ◌<◌, ◌≤◌, ◌++◌, length, Bool, true, false, List, [], ◌∷◌, if◌then◌else◌}
use Rattle.std.specs.List.{All}
use Rattle.dq_text.specs.Bytes.{kind_of}
use Rattle.dq_text.specs.Cursor.{begins_token}
use Rattle.dq_text.specs.LongestRuns.{IsVisible}
use Rattle.dq_text.specs.Number.{number_of}
use Rattle.dq_text.specs.Summary.{is_begun, no_bytes, grown, summary_of}
use Rattle.dq_text.specs.Token.{TextToken, place_after, line_after, is_in_token, is_separator}
use Rattle.dq_text.specs.declared.bytes.ByteKind.{ByteKind}
use Rattle.dq_text.specs.declared.cursors.LinePlace.{LinePlace}
use Rattle.dq_text.specs.declared.cursors.LinePlace.TheVariants.{LineStart, InLine, InComment}
use Rattle.dq_text.specs.declared.numbers.Number.TheVariants.{Int}
use Rattle.dq_text.specs.declared.summaries.TokenSummary.{TokenSummary}
use Rattle.dq_text.specs.declared.token_pieces.TokenPieces.{TokenPieces}

-- what is known of a token, and its line
pub record SummarizedToken : Type 0 where
  pub summary : TokenSummary
  pub line : ℕ

abbrev pub summarized : TextToken → SummarizedToken
summarized token = record { summary = summary_of token.text; line = token.line }

-- a token that ends here, if one was begun, in front of others
abbrev pub ended : TokenSummary → ℕ → List SummarizedToken → List SummarizedToken
ended token line rest = if is_begun token.head then record { summary = token; line = line } ∷ rest else rest

-- behind an unfinished token a byte of this kind, and then what the bytes behind it give
abbrev pub tokens_by : ByteKind → TokenSummary → LinePlace → ℕ → ℕ →
    (TokenSummary → LinePlace → ℕ → List SummarizedToken) → List SummarizedToken
tokens_by kind token place line byte next =
    if is_in_token kind place
    then next (grown token byte) (place_after kind place) (line_after kind line)
    else ended token line (next no_bytes (place_after kind place) (line_after kind line))

-- the tokens of the bytes to come behind an unfinished one, which may have no byte
abbrev pub tokens_behind : TokenSummary → LinePlace → ℕ → List ℕ → List SummarizedToken
tokens_behind token place line [] = ended token line []
tokens_behind token place line (byte ∷ bytes) =
    tokens_by (kind_of byte) token place line byte (λ t p l. tokens_behind t p l bytes)

-- the line behind the last LF of the bytes to come
abbrev pub line_behind : ℕ → List ℕ → ℕ
line_behind line [] = line
line_behind line (byte ∷ bytes) = line_behind (line_after (kind_of byte) line) bytes

-- the tokens, and the last line, where these bytes come behind the pieces so far
abbrev pub tokens_to_come : TokenPieces → List ℕ → List SummarizedToken
tokens_to_come pieces bytes = tokens_behind pieces.token pieces.place pieces.line bytes

abbrev pub last_line_to_come : TokenPieces → List ℕ → ℕ
last_line_to_come pieces bytes = line_behind pieces.line bytes

abbrev pub no_pieces : TokenPieces
no_pieces = record { token = no_bytes; place = LineStart; line = 1 }

abbrev pub begins_with_separator : List ℕ → Bool
begins_with_separator [] = false
begins_with_separator (byte ∷ _) = is_separator (kind_of byte)

-- no token is begun, and the bytes begin with one
pub record IsAtStart (pieces : TokenPieces) (bytes : List ℕ) : Type 0 where
  pub fresh : is_begun pieces.token.head ≡ false
  pub begins : begins_token pieces.place bytes
  pub some : 0 < length bytes

-- that token is this one, which ends in the bytes
pub record IsWholeToken (pieces : TokenPieces) (bytes text behind : List ℕ) : Type 0 where
  pub start : IsAtStart pieces bytes
  pub parts : bytes ≡ text ++ behind
  pub some : 0 < length text
  pub visible : All IsVisible text
  pub ends : begins_with_separator behind ≡ true

-- no token is begun, and the bytes begin with one that ends in them and is this number
pub record IsWholeNumber (pieces : TokenPieces) (bytes : List ℕ) (n : ℤ) (behind : List ℕ) : Type 0 where
  pub text : List ℕ
  pub token : IsWholeToken pieces bytes text behind
  pub number : number_of text ≡ Int n

-- the bytes are some without an LF, and then these
pub record IsBehindLine (bytes left : List ℕ) : Type 0 where
  pub before : List ℕ
  pub parts : bytes ≡ before ++ left
  pub one_line : All (λ byte. byte ≢ 10) before

-- at this place all bytes, but in a comment those from some place on, at or before its LF
abbrev pub EndsComment : LinePlace → List ℕ → List ℕ → Type 0
EndsComment InComment bytes left = IsBehindLine bytes left
EndsComment LineStart bytes left = left ≡ bytes
EndsComment InLine bytes left = left ≡ bytes

-- from here on what is left gives what the bytes gave before
pub record Skips (old new : TokenPieces) (bytes left : List ℕ) : Type 0 where
  pub shorter : length left ≤ length bytes
  pub tokens : (more : List ℕ)
      → tokens_to_come old (bytes ++ more) ≡ tokens_to_come new (left ++ more)
  pub lines : (more : List ℕ)
      → last_line_to_come old (bytes ++ more) ≡ last_line_to_come new (left ++ more)
