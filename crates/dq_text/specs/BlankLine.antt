-- Lines of blanks.
use Rattle.std.specs.Prelude.{ℕ, Bool, true, false, List, [], ◌∷◌}
use Rattle.dq_text.specs.Line.{line_tokens}

abbrev pub has_no_token : List (List ℕ) → Bool
has_no_token [] = true
has_no_token (_ ∷ _) = false

abbrev pub is_blank_line : List ℕ → Bool
is_blank_line text = has_no_token (line_tokens text)
