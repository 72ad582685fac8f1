-- What is read of a row's line from left to right.
use Rattle.std.specs.Prelude.{◌≡◌, ℕ, ◌<◌, ◌≤◌, ◌^◌, ℤ, pos, nat_abs, Bool, true, false, List, ◌∷◌, ◌++◌, map, take, length, slice_index_or}
use Rattle.std.specs.Int.{is_positive}
use Rattle.dq_text.specs.Number.{number_of}
use Rattle.cert_text.specs.Grammar.{Tokens, integers}

-- the first universals, so many, stand with signs in front of the tokens that are left, and the row
-- has these signs
pub record SignsTaken (universals : List ℕ) (tokens left : Tokens) (row : List Bool)
    (i : ℕ) : Type 0 where
  pub numbers : List ℤ
  pub spelled : map number_of tokens ≡ integers numbers ++ map number_of left
  pub named : map nat_abs numbers ≡ take i universals
  pub whole : length row ≡ length universals
  pub bits : (k : ℕ) → k < i
      → slice_index_or row k false ≡ is_positive (slice_index_or numbers k (pos 0))

-- bytes, behind a minus or not
abbrev pub behind_sign : Bool → List ℕ → List ℕ
behind_sign true bytes = bytes
behind_sign false bytes = 45 ∷ bytes

-- a variable that a text can spell
abbrev pub IsSpelled : ℕ → Type 0
IsSpelled x = (1 ≤ x) × (x < 10 ^ 18)
