-- What the tokens of a line are: the longest runs of bytes other than space, tab, CR and LF.
use Rattle.std.specs.Prelude.{◌≡◌, ◌≢◌, ℕ, true, false, List, [], ◌∷◌, ◌++◌}
use Rattle.std.specs.List.{All}
use Rattle.dq_text.specs.Bytes.{kind_of}
use Rattle.dq_text.specs.Token.{is_separator, goes_on}

abbrev pub IsSeparator : ℕ → Type 0
IsSeparator byte = is_separator (kind_of byte) ≡ true

abbrev pub IsVisible : ℕ → Type 0
IsVisible byte = is_separator (kind_of byte) ≡ false

-- the bytes are separators, then this token, then others, in which the token doesn't go on
pub record IsFirstToken (bytes token others : List ℕ) : Type 0 where
  pub before : List ℕ
  pub parts : bytes ≡ before ++ (token ++ others)
  pub separators : All IsSeparator before
  pub some : token ≢ []
  pub visible : All IsVisible token
  pub longest : goes_on others ≡ false

-- these are all tokens of the bytes, in order
abbrev pub AreLongestRuns : List ℕ → List (List ℕ) → Type 0
AreLongestRuns bytes [] = All IsSeparator bytes
AreLongestRuns bytes (token ∷ tokens) =
    (others : List ℕ) × IsFirstToken bytes token others × AreLongestRuns others tokens
