-- The table of an expansion: the rows of the first rounds, the arbiters of their pairs, and the
-- instances that the log was given.
use Rattle.std.specs.Prelude.{◌≡◌, ℕ, ◌+◌, ◌-◌, ◌≤◌, Bool, false, List, [], ◌∷◌, map, length, Some, slice_get, slice_index_or}
use Rattle.std.specs.List.{All, Contains, list_any, filter_map}
use Rattle.dq_lits.specs.Literal.{Assignment, Literal, negative}
use Rattle.dq_lits.specs.Formula.{Dqbf, IsWellFormed}
use Rattle.dq_lits.specs.Row.{assignment_of}
use Rattle.dq_lits.specs.Expansion.{pair_number, universal_literal_true, IsExpansionModel}
use Rattle.hint_log.specs.Deciding.{DecidesFalse}
use Rattle.hint_log.specs.Entries.{Entry, Given, Answer, name_of, last_id}
use Rattle.hint_log.specs.Growth.{Each}
use Rattle.hint_log.specs.Naming.{AreNamedAs, arbiter, on_arbiter, rows_of}
use Rattle.hint_log.specs.declared.names.Name.TheVariants.{Selector, Pair}
use Rattle.hint_log.specs.declared.origins.Origin.TheVariants.{Instance}
use Rattle.log_laws.specs.Engines.{instances, part, IsOwnGiven}
use Rattle.expansion.specs.FirstRows.{RowIndex, IsRowIndex}

-- the group of the instances; for each row the variables of its pairs, in order of the
-- existentials; and where first rows are found
pub record TableState : Type 0 where
  pub group : ℕ
  pub existentials : List ℕ
  pub rows : List (List Bool)
  pub pairs : List (List ℕ)
  pub first_rows : RowIndex

-- the variables are named as the arbiters of a row
abbrev pub AreArbiters : Dqbf → List Entry → List (List Bool) → List Bool → List ℕ → Type 0
AreArbiters f entries rows row variables =
    map (name_of entries) variables ≡ map (λ y. Some (arbiter f rows row y)) f.existentials

-- the instance of clause j under row k of the rows, both counted from 0, was given to the group
pub record HasInstance (f : Dqbf) (group : ℕ) (rows : List (List Bool)) (own : List Entry) (k j : ℕ)
    (row : List Bool) (clause : List Literal) : Type 0 where
  pub rest : List Literal
  pub given : Contains own (Given (Instance (k + 1) (j + 1)) (negative group ∷ rest))
  pub named : AreNamedAs own rest (filter_map (on_arbiter f rows row) clause)

-- the variable is one of a row's pairs
abbrev pub IsOfPairs : List (List ℕ) → ℕ → Type 0
IsOfPairs pairs v =
    (k : ℕ) × (variables : List ℕ) × (slice_get pairs k ≡ Some variables) × Contains variables v

-- the part of the log that the table made: the arbiters' names and the instances under its rows,
-- all of these and no others
pub record IsTablePart (f : Dqbf) (t : TableState) (own : List Entry) : Type 0 where
  pub whole : All (λ row. length row ≡ length f.universals) t.rows
  pub pairs_long : length t.pairs ≡ length t.rows
  pub names : (v k y : ℕ) → name_of own v ≡ Some (Pair k y)
      → (k ≤ length t.rows) × IsOfPairs t.pairs v
  pub given : (k j : ℕ) (c : List Literal) → Contains own (Given (Instance k j) c)
      → k ≤ length t.rows
  pub arbiters : (k : ℕ) (row : List Bool) (variables : List ℕ) → slice_get t.rows k ≡ Some row
      → slice_get t.pairs k ≡ Some variables
      → AreArbiters f own t.rows row variables
  pub complete : (k j : ℕ) (row : List Bool) (clause : List Literal) → slice_get t.rows k ≡ Some row
      → slice_get f.matrix j ≡ Some clause
      → list_any (universal_literal_true f row) clause ≡ false
      → HasInstance f t.group t.rows own k j row clause

pub record IsTable (f : Dqbf) (t : TableState) (entries : List Entry) : Type 0 where
  pub group : name_of entries t.group ≡ Some (Selector t.group)
  pub existentials : t.existentials ≡ map (λ y. y.variable) f.existentials
  pub own_group : Each (IsOwnGiven f instances t.group) entries
  pub own : IsTablePart f t (part instances entries)
  pub first_rows : IsRowIndex f t.rows t.first_rows

-- a table of a well-formed formula whose rows are those of all rounds
pub record IsFullTable (f : Dqbf) (t : TableState) (entries : List Entry) : Type 0 where
  pub formula : IsWellFormed f
  pub table : IsTable f t entries
  pub rows : rows_of entries ≡ t.rows

-- a bit for each round and existential
abbrev pub PointBits : Type 0
PointBits = ℕ → ℕ → Bool

-- the existentials' variables, and their bits for each round
pub record PointState : Type 0 where
  pub variables : List ℕ
  pub rows : List (List Bool)

abbrev pub point_bits : PointState → PointBits
point_bits p k y = assignment_of p.variables (slice_index_or p.rows (k - 1) []) y

-- the points are those of a model of all instances under the rows
pub record ArePoints (f : Dqbf) (rows : List (List Bool)) (points : PointBits) : Type 0 where
  pub model : Assignment
  pub holds_there : IsExpansionModel f rows model
  pub bits : (k : ℕ) (row : List Bool) → slice_get rows k ≡ Some row
      → All (λ y. points (k + 1) y.variable ≡ model (pair_number f rows row y)) f.existentials

-- the last entry is an answer that rests on instances alone
pub record IsRefutedBy (entries : List Entry) (id : ℕ) : Type 0 where
  pub clause : List Literal
  pub hints : List ℕ
  pub earlier : List Entry
  pub answered : entries ≡ Answer clause hints ∷ earlier
  pub last : id ≡ last_id entries
  pub decides : DecidesFalse earlier clause hints
