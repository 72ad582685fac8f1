-- The tokens of a text, told by its lines: those of the lines that aren't comments.
use Rattle.std.specs.Prelude.{ℕ, Bool, true, false, List, [], ◌∷◌, map, if◌then◌else◌}
use Rattle.dq_text.specs.Bytes.{kind_of}
use Rattle.dq_text.specs.Line.{TextLine, line_tokens}
use Rattle.dq_text.specs.Token.{TextToken}
use Rattle.dq_text.specs.declared.bytes.ByteKind.{ByteKind}
use Rattle.dq_text.specs.declared.bytes.ByteKind.TheVariants.{Blank, LineFeed, LetterC, Other}

abbrev pub begins_comment : ByteKind → Bool → Bool
begins_comment Blank rest = rest
begins_comment LineFeed _ = false
begins_comment LetterC _ = true
begins_comment Other _ = false

-- the line's first byte that isn't a blank is `c`
abbrev pub is_comment : List ℕ → Bool
is_comment [] = false
is_comment (byte ∷ bytes) = begins_comment (kind_of byte) (is_comment bytes)

-- a token's text with the number of its line
abbrev pub numbered : TextToken → ℕ × List ℕ
numbered t = (t.line, t.text)

-- the same of the tokens of a line, and none of a comment
abbrev pub numbered_tokens : TextLine → List (ℕ × List ℕ)
numbered_tokens l = if is_comment l.text then [] else map (λ t. (l.number, t)) (line_tokens l.text)
