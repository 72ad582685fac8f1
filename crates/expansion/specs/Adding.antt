-- A table to which a row is added: its existentials get their pairs' variables one by one, and then
-- its instances are given in order.
use Rattle.std.specs.Prelude.{◌≡◌, ℕ, ◌+◌, ◌^◌, ◌<◌, ◌≤◌, ◌⊎◌, Bool, true, false, List, [], ◌∷◌, ◌++◌, map, take, length, Some, slice_get}
use Rattle.std.specs.List.{All, Contains, list_any}
use Rattle.dq_lits.specs.Literal.{Literal, positive, negative}
use Rattle.dq_lits.specs.Formula.{Dqbf, Existential}
use Rattle.dq_lits.specs.Expansion.{universal_literal_true}
use Rattle.hint_log.specs.Entries.{Entry, Named, Given, ProofLog, name_of}
use Rattle.hint_log.specs.Growth.{Each, Grew}
use Rattle.hint_log.specs.Naming.{arbiter, rows_of}
use Rattle.hint_log.specs.ProductiveLog.{MatchesOrigin, IsNotRepeated, fault_groups, fault_room}
use Rattle.hint_log.specs.declared.names.Name.TheVariants.{Selector, Pair}
use Rattle.hint_log.specs.declared.origins.Origin.{Origin}
use Rattle.hint_log.specs.declared.origins.Origin.TheVariants.{Instance}
use Rattle.log_laws.specs.Engines.{instances, origin_engine, part, IsInGroup, IsOwnGiven, IsNamedBy}
use Rattle.expansion.specs.Table.{TableState, AreArbiters, HasInstance, IsOfPairs}

abbrev pub with_row : TableState → List Bool → List (List Bool)
with_row t row = t.rows ++ row ∷ []

-- the new row is the first that agrees with itself on what one of the first so many existentials
-- sees, of this variable
abbrev pub IsNewPair : Dqbf → TableState → List Bool → ℕ → ℕ → Type 0
IsNewPair f t row named y =
    (p : ℕ) × (e : Existential) × (p < named) × (slice_get f.existentials p ≡ Some e)
    × (arbiter f (with_row t row) row e ≡ Pair (length t.rows + 1) y)

-- the variables are named as the arbiters of the new row, for the first so many existentials
abbrev pub AreFirstArbiters : Dqbf → TableState → List Bool → List Entry → ℕ → List ℕ → Type 0
AreFirstArbiters f t row own named variables =
    map (name_of own) variables
    ≡ map (λ y. Some (arbiter f (with_row t row) row y)) (take named f.existentials)

-- the part of the log that the table made, with so many existentials named and so many clauses
-- given under the new row
pub record IsAddingPart (f : Dqbf) (t : TableState) (row : List Bool) (named given : ℕ)
    (own : List Entry) : Type 0 where
  pub whole : All (λ r. length r ≡ length f.universals) (with_row t row)
  pub pairs_long : length t.pairs ≡ length t.rows
  pub names : (v k y : ℕ) → name_of own v ≡ Some (Pair k y)
      → ((k ≤ length t.rows) × IsOfPairs t.pairs v)
      ⊎ ((k ≡ length t.rows + 1) × IsNewPair f t row named y)
  pub given_before : (k j : ℕ) (c : List Literal) → Contains own (Given (Instance k j) c)
      → (k ≤ length t.rows) ⊎ ((k ≡ length t.rows + 1) × (j ≤ given))
  pub arbiters : (k : ℕ) (r : List Bool) (variables : List ℕ) → slice_get t.rows k ≡ Some r
      → slice_get t.pairs k ≡ Some variables
      → AreArbiters f own (with_row t row) r variables
  pub complete : (k j : ℕ) (r : List Bool) (clause : List Literal) → slice_get t.rows k ≡ Some r
      → slice_get f.matrix j ≡ Some clause
      → list_any (universal_literal_true f r) clause ≡ false
      → HasInstance f t.group (with_row t row) own k j r clause
  pub complete_so_far : (j : ℕ) (clause : List Literal) → j < given
      → slice_get f.matrix j ≡ Some clause
      → list_any (universal_literal_true f row) clause ≡ false
      → HasInstance f t.group (with_row t row) own (length t.rows) j row clause

pub record IsAdding (f : Dqbf) (t : TableState) (row : List Bool) (named given : ℕ)
    (entries : List Entry) : Type 0 where
  pub group : name_of entries t.group ≡ Some (Selector t.group)
  pub existentials : t.existentials ≡ map (λ y. y.variable) f.existentials
  pub own_group : Each (IsOwnGiven f instances t.group) entries
  pub rows : rows_of entries ≡ with_row t row
  pub faults : length (fault_groups entries) ≤ fault_room entries
  pub own : IsAddingPart f t row named given (part instances entries)

-- an instance that goes into the group, the first of its origin
pub record IsRowInstance (f : Dqbf) (group : ℕ) (earlier : List Entry) (origin : Origin)
    (clause : List Literal) : Type 0 where
  pub own : origin_engine origin ≡ instances
  pub in_group : IsInGroup group clause
  pub matches_origin : MatchesOrigin f earlier (Given origin clause)
  pub not_repeated : IsNotRepeated earlier (Given origin clause)

-- what a row adds to the log: names and instances, and no answer
abbrev pub IsRowEntry : Dqbf → ℕ → List Entry → Entry → Type 0
IsRowEntry f group earlier (Named v name) = IsNamedBy f instances earlier v name
IsRowEntry f group earlier (Given origin clause) = IsRowInstance f group earlier origin clause
IsRowEntry f group earlier _ = ⊥

-- the variable of the new row's pair of the existential at a place was found or named
pub record IsNamedNext (f : Dqbf) (t : TableState) (row : List Bool) (place v : ℕ)
    (old new : ProofLog) : Type 0 where
  pub grew : Grew (IsRowEntry f t.group) old new
  pub adding : IsAdding f t row (place + 1) 0 new.entries
  pub variables : (vs : List ℕ) → AreFirstArbiters f t row (part instances old.entries) place vs
      → AreFirstArbiters f t row (part instances new.entries) (place + 1) (vs ++ v ∷ [])

-- the variables of all pairs of the new row
abbrev pub AreNewArbiters : Dqbf → TableState → List Bool → List Entry → List ℕ → Type 0
AreNewArbiters f t row entries variables =
    AreArbiters f (part instances entries) (with_row t row) row variables

-- the instance of a clause was given, or a universal makes the clause true
pub record IsGivenNext (f : Dqbf) (t : TableState) (row : List Bool) (j : ℕ)
    (old new : ProofLog) : Type 0 where
  pub grew : Grew (IsRowEntry f t.group) old new
  pub adding : IsAdding f t row (length f.existentials) (j + 1) new.entries
  pub variables : (vs : List ℕ) → AreNewArbiters f t row old.entries vs
      → AreNewArbiters f t row new.entries vs

abbrev pub AreInRange : List ℕ → Type 0
AreInRange = All (λ v. (1 ≤ v) × (v < 2 ^ 62))

-- the literal of a variable with a sign
abbrev pub signed : Bool → ℕ → Literal
signed true v = negative v
signed false v = positive v
