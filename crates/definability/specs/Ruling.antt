-- What a search in the first copy alone shows, for private contracts.
use Rattle.std.specs.Prelude.{◌≡◌, ◌⊎◌, ◌≤◌, ◌<◌, ◌^◌, ◌==◌, ℕ, Bool, true, false, List, map, Option, None, Some, slice_index_or, if◌then◌else◌}
use Rattle.std.specs.List.{All, filter_map}
use Rattle.dq_lits.specs.Derivation.{holds}
use Rattle.dq_lits.specs.Formula.{Dqbf}
use Rattle.dq_lits.specs.Henkin.{MatrixHolds}
use Rattle.dq_lits.specs.Literal.{Assignment, Literal, positive, variable_of, is_negative, opposite, clause_true}
use Rattle.dq_lits.specs.Row.{bit_of}
use Rattle.hint_log.specs.Conditions.{IsId}
use Rattle.hint_log.specs.Entries.{Entry, clause_at, name_of}
use Rattle.hint_log.specs.declared.names.Name.{Name}
use Rattle.hint_log.specs.declared.names.Name.TheVariants.{Selector, Pair, Input, And, Bad, Copy as CopyOf, Term}
use Rattle.definability.specs.Dividing.{IsSelectorLiteral}
use Rattle.definability.specs.declared.copies.MatrixCopy.{MatrixCopy}

-- each copy has its variable's value, and all groups are active
abbrev pub copy_value : Assignment → Name → Bool
copy_value m (Selector _) = true
copy_value m (Pair _ _) = false
copy_value m (Input _) = false
copy_value m (And _ _) = false
copy_value m (Bad _ _) = false
copy_value m (CopyOf _ v) = m v
copy_value m (Term _ _) = false

abbrev pub value_by : Assignment → Option Name → Bool
value_by m None = false
value_by m (Some n) = copy_value m n

abbrev pub copied_assignment : List Entry → Assignment → Assignment
copied_assignment entries m v = value_by m (name_of entries v)

-- the literals stand on first copies
abbrev pub AreFirstCopies : List Entry → List Literal → Type 0
AreFirstCopies entries lits =
    All (λ l. (v : ℕ) × (name_of entries (variable_of l) ≡ Some (CopyOf 1 v))) lits

-- an answer whose clause has negated selectors and negated assumptions alone, and is true wherever
-- the matrix is
pub record ShowsClause (f : Dqbf) (entries : List Entry) (asked : List Literal)
    (id : ℕ) : Type 0 where
  pub clause : List Literal
  pub is_id : IsId entries id
  pub clause_is : clause_at entries id ≡ Some clause
  pub negated : (l : Literal) → holds clause l ≡ true
      → IsSelectorLiteral entries (opposite l) ⊎ (holds asked (opposite l) ≡ true)
  pub implied : (m : Assignment) → MatrixHolds f m
      → clause_true (copied_assignment entries m) clause ≡ true

-- the literal where the bit is true, else its negation
abbrev pub signed_literal : Literal → Bool → Literal
signed_literal l true = l
signed_literal l false = opposite l

-- the copies of the universals at these places, with the row's bits
abbrev pub row_copies : MatrixCopy → List Bool → List ℕ → List Literal
row_copies copy row places =
    map (λ p. signed_literal (slice_index_or copy.universals.items p (positive 0)) (bit_of row p))
    places

-- what a literal of an answer's clause puts into a cube: on the variable that was copied, but for
-- one, with the other sign
abbrev pub cube_literal : ℕ → Bool → Option Name → Option Literal
cube_literal y negated (Some (CopyOf side v)) =
    if v == y then None else Some (signed_literal (positive v) negated)
cube_literal y negated _ = None

abbrev pub cube_of : List Entry → ℕ → List Literal → List Literal
cube_of entries y clause =
    filter_map (λ l. cube_literal y (is_negative l) (name_of entries (variable_of l))) clause

-- the name is a copy's of a variable that a literal can have, or no copy's
abbrev pub IsLiteralName : Option Name → Type 0
IsLiteralName None = ⊥
IsLiteralName (Some (CopyOf side v)) = (1 ≤ v) × (v < 2 ^ 62)
IsLiteralName (Some _) = Unit {0}
