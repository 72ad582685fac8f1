-- Groups that rest: no search assumes their selectors. A solver holds a clause of negated selectors
-- of such groups in the place of each clause that one of them switches off: no assumption makes the
-- one or the other unit, and so the search never comes to them.
use Rattle.std.specs.Prelude.{◌≡◌, ℕ, Bool, true, false, List, [], ◌∷◌, ◌⊎◌, Some, length, slice_index_or}
use Rattle.dq_lits.specs.Literal.{Literal, positive, negative}
use Rattle.dq_lits.specs.Derivation.{holds}
use Rattle.hint_log.specs.Entries.{Entry, name_of}
use Rattle.hint_log.specs.declared.names.Name.TheVariants.{Selector}
use Rattle.oracle.specs.Fit.{Fit, live_in}

-- the group with this selector rests
abbrev pub rests : List Bool → ℕ → Bool
rests resting v = slice_index_or resting v false

-- two negated selectors of groups that rest
pub record IsPlaceholder (resting : List Bool) (clause : List Literal) : Type 0 where
  pub first : ℕ
  pub second : ℕ
  pub is : clause ≡ negative first ∷ negative second ∷ []
  pub first_rests : rests resting first ≡ true
  pub second_rests : rests resting second ≡ true

-- a clause with the negated selector of a group that rests, and what is held in its place
pub record IsPut (resting : List Bool) (clause put : List Literal) : Type 0 where
  pub group : ℕ
  pub among : holds clause (negative group) ≡ true
  pub group_rests : rests resting group ≡ true
  pub placeholder : IsPlaceholder resting put

-- a solver goes with the log that holds its clauses, but for those of groups that rest
pub record HeldFit (held : List (List Literal)) (resting : List Bool) (variables : ℕ)
    (entries : List Entry) : Type 0 where
  pub whole : List (List Literal)
  pub fit : Fit whole variables entries
  pub count : length held ≡ length whole
  pub same : (id : ℕ) (clause put : List Literal) → live_in whole id ≡ Some clause
      → live_in held id ≡ Some put → (put ≡ clause) ⊎ IsPut resting clause put
  pub selectors : (v : ℕ) → rests resting v ≡ true → name_of entries v ≡ Some (Selector v)

-- the groups of assumed selectors don't rest
abbrev pub AreAwake : List Bool → List Literal → Type 0
AreAwake resting assumptions =
    (v : ℕ) → rests resting v ≡ true → holds assumptions (positive v) ≡ false
