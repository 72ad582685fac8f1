-- How a certificate begins: by its header line, or by a line that states the verdict and then the
-- header line. No verdict stands before definitions.
use Rattle.std.specs.Prelude.{◌≡◌, ◌≢◌, ℕ, ◌+◌, ◌⊎◌, List, [], ◌∷◌, length, codes, Option, None, Some}
use Rattle.dq_text.specs.Line.{TextLine, line_tokens, lines_from}
use Rattle.cert_text.specs.declared.kinds.Kind.{Kind}
use Rattle.cert_text.specs.declared.kinds.Kind.TheVariants.{Circuit, BinaryCircuit, Refutation, Definitions}

-- the first token of the header line
abbrev pub header_word : Kind → List ℕ
header_word (Circuit _ _) = codes "aag"
header_word (BinaryCircuit _ _) = codes "aig"
header_word (Refutation _ _) = codes "p"
header_word (Definitions _ _) = codes "p"

-- the tokens behind the first one
abbrev pub HasRest : Kind → List (List ℕ) → Type 0
HasRest (Circuit _ _) rest = Unit {0}
HasRest (BinaryCircuit _ _) rest = Unit {0}
HasRest (Refutation _ _) rest = (others : List (List ℕ)) → rest ≢ codes "dqd" ∷ others
HasRest (Definitions _ _) rest = (others : List (List ℕ)) × (rest ≡ codes "dqd" ∷ others)

-- the verdict that the kind shows
abbrev pub verdict_word : Kind → Option (List ℕ)
verdict_word (Circuit _ _) = Some (codes "TRUE")
verdict_word (BinaryCircuit _ _) = Some (codes "TRUE")
verdict_word (Refutation _ _) = Some (codes "FALSE")
verdict_word (Definitions _ _) = None

-- where the header line begins, in bytes from 0, and its number
abbrev pub header_place : Kind → ℕ
header_place (Circuit place _) = place
header_place (BinaryCircuit place _) = place
header_place (Refutation place _) = place
header_place (Definitions place _) = place

abbrev pub header_number : Kind → ℕ
header_number (Circuit _ number) = number
header_number (BinaryCircuit _ number) = number
header_number (Refutation _ number) = number
header_number (Definitions _ number) = number

-- the first line is the header line
pub record BeginsPlainly (text : List ℕ) (kind : Kind) : Type 0 where
  pub header : TextLine
  pub others : List TextLine
  pub rest : List (List ℕ)
  pub lines : lines_from 1 text ≡ header ∷ others
  pub word : line_tokens header.text ≡ header_word kind ∷ rest
  pub behind : HasRest kind rest
  pub place : header_place kind ≡ 0
  pub number : header_number kind ≡ 1

-- the first line is `s` and the verdict, and the header line begins behind it
pub record BeginsWithVerdict (text : List ℕ) (kind : Kind) : Type 0 where
  pub stated : TextLine
  pub header : TextLine
  pub others : List TextLine
  pub rest : List (List ℕ)
  pub shown : List ℕ
  pub shows : verdict_word kind ≡ Some shown
  pub lines : lines_from 1 text ≡ stated ∷ header ∷ others
  pub verdict : line_tokens stated.text ≡ codes "s" ∷ shown ∷ []
  pub word : line_tokens header.text ≡ header_word kind ∷ rest
  pub behind : HasRest kind rest
  pub place : header_place kind + length stated.behind ≡ length text
  pub number : header_number kind ≡ 2

abbrev pub Begins : List ℕ → Kind → Type 0
Begins text kind = BeginsPlainly text kind ⊎ BeginsWithVerdict text kind
