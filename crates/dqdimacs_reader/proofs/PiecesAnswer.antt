-- What is read of a text that comes in pieces.
use Rattle.std.proofs.Common.{◌≡◌, ℕ, ◌&&◌, Bool, true, false, List, [], ◌∷◌, map, codes, Result, refl, sym, arith}
use Rattle.list_laws.proofs.Truths.{and-false}
use Rattle.dq_lits.specs.Formula.{Dqbf}
use Rattle.dq_text.specs.Number.{begins_with_minus, number_of}
use Rattle.dq_text.specs.Pieces.{SummarizedToken, summarized}
use Rattle.dq_text.specs.Summary.{head_of, summary_of, summary_number}
use Rattle.dq_text.specs.Token.{TextToken, tokens_of, last_line_of}
use Rattle.dqdimacs_reader.specs.Lexeme.{word_or, lexeme_of, head_or, summary_lexeme}
use Rattle.dqdimacs_reader.specs.Machine.{State, before_header, read_from, reading}
use Rattle.dqdimacs_reader.specs.Progress.{Progress, goes_on, has_stopped, has_ended, may_answer, read_summaries}
use Rattle.dqdimacs_reader.specs.declared.faults.ReadStop.{ReadStop}
use Rattle.dqdimacs_reader.specs.declared.lexemes.Lexeme.{Lexeme}
use Rattle.dqdimacs_reader.proofs.NumberWords.{no_letter}

not_cnf : (p q r : Bool) → (p && (q && (r && false))) ≡ false
not_cnf true true r = and-false r
not_cnf true false r = refl
not_cnf false q r = refl

longer_word : (a b c d : ℕ) (bytes : List ℕ) (rest : Lexeme) → word_or (a ∷ b ∷ c ∷ d ∷ bytes) rest ≡ rest
longer_word a b c d bytes rest = search (arith, no_letter, codes, and-false, not_cnf)

head_word : (text : List ℕ) (rest : Lexeme) → head_or (head_of text) rest ≡ word_or text rest
head_word [] rest = refl
head_word (a ∷ []) rest = refl
head_word (a ∷ b ∷ []) rest = refl
head_word (a ∷ b ∷ c ∷ []) rest = refl
head_word (a ∷ b ∷ c ∷ d ∷ bytes) rest = sym (longer_word a b c d bytes rest)

-- what summaries tell
pub record Tells : Type 0 where
  pub head : (text : List ℕ) → (summary_of text).head ≡ head_of text
  pub minus : (text : List ℕ) → (summary_of text).minus ≡ begins_with_minus text
  pub number : (text : List ℕ) → summary_number (summary_of text) ≡ number_of text

pub summary_is : Tells → (text : List ℕ) → summary_lexeme (summary_of text) ≡ lexeme_of text
summary_is tells text = search (arith, head_word)

read_tokens : Tells → (tokens : List TextToken) (state : State) (last_line : ℕ) →
    read_summaries state (map summarized tokens) last_line ≡ read_from state tokens last_line
read_tokens tells [] state last_line = refl
read_tokens tells (token ∷ tokens) state last_line = search (arith, summary_is, (read_tokens tells tokens))

-- what is read of a text's summarized tokens is read of the text
pub whole_is_read : Tells → (text : List ℕ) (tokens : List SummarizedToken) (last_line : ℕ) →
    tokens ≡ map summarized (tokens_of text) → last_line ≡ last_line_of text →
    read_summaries before_header tokens last_line ≡ reading text
whole_is_read tells text tokens last_line same ends = search (arith, read_tokens)

-- once it has stopped, its answer rests on no token
pub stays : (progress : Progress) → has_ended progress ≡ true →
    (tokens others : List SummarizedToken) (last other : ℕ) (answer : Result Dqbf ReadStop) →
    may_answer progress tokens last answer → may_answer progress others other answer
stays (goes_on state) ended tokens others last other answer may = cc
stays (has_stopped stop) ended tokens others last other answer may = may
