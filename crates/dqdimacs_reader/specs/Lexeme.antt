-- What a token is to the grammar.
use Rattle.std.specs.Prelude.{ℕ, ℤ, suc, pos, negsuc, Bool, List, [], ◌∷◌, codes, if◌then◌else◌}
use Rattle.std.specs.Str.{bytes_eq}
use Rattle.dq_text.specs.Number.{begins_with_minus, number_of}
use Rattle.dq_text.specs.declared.numbers.Number.{Number}
use Rattle.dq_text.specs.declared.numbers.Number.TheVariants.{Int, NotANumber, TooBig}
use Rattle.dq_text.specs.Summary.{summary_number}
use Rattle.dq_text.specs.declared.summaries.Head.{Head}
use Rattle.dq_text.specs.declared.summaries.Head.TheVariants.{Empty, One, Two, Three, Longer}
use Rattle.dq_text.specs.declared.summaries.TokenSummary.{TokenSummary}
use Rattle.dqdimacs_reader.specs.declared.lexemes.Lexeme.{Lexeme}
use Rattle.dqdimacs_reader.specs.declared.lexemes.Lexeme.TheVariants.{P, Cnf, A, D, E, X, Natural, Negative, Large, NegativeLarge, Other}

abbrev pub number_lexeme : Bool → Number → Lexeme
number_lexeme minus NotANumber = Other
number_lexeme minus TooBig = if minus then NegativeLarge else Large
number_lexeme minus (Int (pos n)) = Natural n
number_lexeme minus (Int (negsuc n)) = Negative (suc n)

-- the lexeme of a number below 10^18
abbrev pub lexeme_of_int : ℤ → Lexeme
lexeme_of_int (pos n) = Natural n
lexeme_of_int (negsuc n) = Negative (suc n)

-- a word of the grammar, or else what is left
abbrev pub word_or : List ℕ → Lexeme → Lexeme
word_or text rest =
    if bytes_eq text (codes "p") then P else
    if bytes_eq text (codes "cnf") then Cnf else
    if bytes_eq text (codes "a") then A else
    if bytes_eq text (codes "d") then D else
    if bytes_eq text (codes "e") then E else
    if bytes_eq text (codes "x") then X else rest

abbrev pub lexeme_of : List ℕ → Lexeme
lexeme_of text = word_or text (number_lexeme (begins_with_minus text) (number_of text))

-- the same by the first bytes of a token, where these are all
abbrev pub head_or : Head → Lexeme → Lexeme
head_or Empty rest = rest
head_or (One a) rest = word_or (a ∷ []) rest
head_or (Two a b) rest = word_or (a ∷ b ∷ []) rest
head_or (Three a b c) rest = word_or (a ∷ b ∷ c ∷ []) rest
head_or Longer rest = rest

-- what a token is of which a summary was kept
abbrev pub summary_lexeme : TokenSummary → Lexeme
summary_lexeme token = head_or token.head (number_lexeme token.minus (summary_number token))
