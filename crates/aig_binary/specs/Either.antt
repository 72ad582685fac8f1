-- Which of AIGER's two forms a text is in.
use Rattle.std.specs.Prelude.{ℕ, Bool, false, List, [], ◌∷◌, codes}
use Rattle.std.specs.Str.{bytes_eq}
use Rattle.dq_text.specs.Line.{TextLine, line_tokens}

abbrev pub begins_with_word : List (List ℕ) → Bool
begins_with_word [] = false
begins_with_word (word ∷ _) = bytes_eq word (codes "aig")

-- by the first token of its first line
abbrev pub is_binary : List TextLine → Bool
is_binary [] = false
is_binary (line ∷ _) = begins_with_word (line_tokens line.text)
