-- How the tokens left are kept: the bytes left, and where they stand.
use Rattle.std.specs.Prelude.{◌≡◌, ◌+◌, ◌<◌, ◌^◌, ℕ, true, List, [], ◌∷◌, length}
use Rattle.dq_text.specs.Bytes.{kind_of}
use Rattle.dq_text.specs.Token.{TextToken, tokens_from, line_feeds, is_in_token}
use Rattle.dq_text.specs.declared.tokens.Token.{Token}
use Rattle.dq_text.specs.declared.cursors.Cursor.{Cursor}
use Rattle.dq_text.specs.declared.cursors.LinePlace.{LinePlace}

abbrev pub text_token : Token → TextToken
text_token t = record { text = t.text.now; line = t.line; at = t.at }

abbrev pub tokens_left : Cursor → List TextToken
tokens_left c = tokens_from c.place c.line c.at c.rest.now

abbrev pub last_line : Cursor → ℕ
last_line c = c.line + line_feeds c.rest.now

-- neither the line nor the place passes its type's end
pub record CanCount (c : Cursor) : Type 0 where
  pub lines : c.line + length c.rest.now < 2 ^ 64
  pub places : c.at + length c.rest.now < 2 ^ 64

abbrev pub begins_token : LinePlace → List ℕ → Type 0
begins_token place [] = Unit {0}
begins_token place (byte ∷ _) = is_in_token (kind_of byte) place ≡ true

-- the bytes are at their end or begin with a token
abbrev pub IsAtToken : Cursor → Type 0
IsAtToken c = begins_token c.place c.rest.now
