-- Numbers as the canonical texts write them.
use Rattle.std.specs.Prelude.{ℕ, List, [], ◌∷◌, ◌++◌}
use Rattle.std.specs.Fmt.{decimal}

-- a number and a space
abbrev pub number_text : ℕ → List ℕ
number_text n = decimal n ++ 32 ∷ []

-- a number and the end of the line
abbrev pub number_line : ℕ → List ℕ
number_line n = decimal n ++ 10 ∷ []

-- `0` and the end of the line
abbrev pub line_end : List ℕ
line_end = 48 ∷ 10 ∷ []
