-- Conditions of a question: which of them copies can meet, and bits of universals that meet the
-- others, for private contracts.
use Rattle.std.specs.Prelude.{◌≡◌, ◌≢◌, ◌<◌, ◌==◌, ℕ, Bool, not, List, length, Some, slice_get}
use Rattle.std.specs.List.{position_or_len}
use Rattle.dq_lits.specs.Formula.{Dqbf}
use Rattle.dq_lits.specs.Literal.{Literal, variable_of, is_negative}
use Rattle.dq_lits.specs.Row.{bit_of}
use Rattle.definability.specs.Copies.{is_copied_at}

-- whether a variable has copies, by its first place among the universals
abbrev pub has_copies : Dqbf → List Bool → ℕ → Bool
has_copies f flags v = is_copied_at flags (position_or_len (λ u. u == v) f.universals)

-- the literal is true at the new row if it stands on a universal, and the bits of all others stay
pub record IsBitSet (f : Dqbf) (l : Literal) (old new : List Bool) : Type 0 where
  pub long : length new ≡ length old
  pub is_true : (k : ℕ) → slice_get f.universals k ≡ Some (variable_of l)
      → bit_of new k ≡ not (is_negative l)
  pub rest : (k x : ℕ) → slice_get f.universals k ≡ Some x → x ≢ variable_of l
      → bit_of new k ≡ bit_of old k

-- the first so many of these literals are true at the row where they stand on universals
pub record MeetsLiterals (f : Dqbf) (lits : List Literal) (i : ℕ) (row : List Bool) : Type 0 where
  pub long : length row ≡ length f.universals
  pub meets : (j k : ℕ) (l : Literal) → j < i → slice_get lits j ≡ Some l
      → slice_get f.universals k ≡ Some (variable_of l) → bit_of row k ≡ not (is_negative l)
