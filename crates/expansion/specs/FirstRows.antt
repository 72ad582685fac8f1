-- For each dependency set the rows that are the first to show their bits there, in order of these
-- bits, so that a row's first one is found by binary search.
use Rattle.std.specs.Prelude.{◌≡◌, ℕ, ◌≤◌, ◌<◌, Bool, true, List, [], map, length, Option, None, Some, slice_get, slice_index, slice_index_or}
use Rattle.std.specs.List.{Contains, position_or_len}
use Rattle.std.specs.List.Sorted.{IsSortedBy}
use Rattle.std.specs.Cmp.Lexicographic.{slice_cmp}
use Rattle.std.specs.Ordering.{bool_cmp, is_lt}
use Rattle.std.specs.declared.cmp.Ordering.{Ordering}
use Rattle.std.specs.declared.cmp.Ordering.TheVariants.{Less}
use Rattle.dq_lits.specs.Formula.{Dqbf, Existential}
use Rattle.dq_lits.specs.Henkin.{same_bits}
use Rattle.dq_lits.specs.Expansion.{row_assignment, agree_on}
use Rattle.dq_formula.specs.Sets.{AreLeaders}

-- places of rows, and how many rows were looked at, from the first on
pub record RowOrder : Type 0 where
  pub places : List ℕ
  pub learnt : ℕ

-- for each existential, by its place, the place of one with the same dependency set that stands for
-- it, and an order for those that stand for themselves
pub record RowIndex : Type 0 where
  pub leaders : List ℕ
  pub orders : List RowOrder

-- the bits of a row at these universals
abbrev pub seen_by : Dqbf → List ℕ → List Bool → List Bool
seen_by f sees row = map (row_assignment f row) sees

abbrev pub sees_of : Option Existential → List ℕ
sees_of None = []
sees_of (Some y) = y.sees

abbrev pub row_at : List (List Bool) → ℕ → List Bool
row_at rows k = slice_index_or rows k []

-- false before true at the first place where they differ
abbrev pub bits_cmp : List Bool → List Bool → Ordering
bits_cmp = slice_cmp bool_cmp

-- a row that is found, against another
abbrev pub found_cmp : Dqbf → List ℕ → List Bool → Option (List Bool) → Ordering
found_cmp f sees row None = Less
found_cmp f sees row (Some r) = bits_cmp (seen_by f sees r) (seen_by f sees row)

-- the place of the first row that shows the same bits as this one; the number of rows where none
-- does
abbrev pub first_alike : Dqbf → List ℕ → List (List Bool) → List Bool → ℕ
first_alike f sees rows row =
    position_or_len (λ r. same_bits (seen_by f sees row) (seen_by f sees r)) rows

-- the places stand in order, they are those of first rows, and each row that was looked at agrees
-- with one of them
pub record IsRowOrder (f : Dqbf) (sees : List ℕ) (rows : List (List Bool))
    (o : RowOrder) : Type 0 where
  pub within : o.learnt ≤ length rows
  pub sorted : IsSortedBy
      (λ a b. is_lt (bits_cmp (seen_by f sees (row_at rows a)) (seen_by f sees (row_at rows b))))
      o.places
  pub firsts : (k : ℕ) → Contains o.places k
      → (k < o.learnt) × (first_alike f sees rows (row_at rows k) ≡ k)
  pub whole : (k : ℕ) → k < o.learnt
      → (p : ℕ) × Contains o.places p
      × (same_bits (seen_by f sees (row_at rows k)) (seen_by f sees (row_at rows p)) ≡ true)

abbrev pub no_order : RowOrder
no_order = record { places = []; learnt = 0 }

pub record IsRowIndex (f : Dqbf) (rows : List (List Bool)) (index : RowIndex) : Type 0 where
  pub leaders : AreLeaders f index.leaders
  pub many : length index.orders ≡ length f.existentials
  pub orders : (place : ℕ) (y : Existential) → slice_get f.existentials place ≡ Some y
      → IsRowOrder f y.sees rows (slice_index_or index.orders place no_order)

-- the place of the first row that agrees with this one on what the existential at a place sees; the
-- number of rows where none does
abbrev pub IsFirstRow : Dqbf → List (List Bool) → List Bool → ℕ → ℕ → Type 0
IsFirstRow f rows row place first =
    (y : Existential) → slice_get f.existentials place ≡ Some y
    → first ≡ position_or_len (agree_on f y row) rows

-- those of the first so many existentials
abbrev pub AreFirstRows : Dqbf → List (List Bool) → List Bool → ℕ → List ℕ → Type 0
AreFirstRows f rows row n firsts =
    (length firsts ≡ n)
    × ((place : ℕ) → place < n → IsFirstRow f rows row place (slice_index firsts place))
