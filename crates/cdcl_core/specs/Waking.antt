-- What a solver holds of its log, where groups rest.
use Rattle.std.specs.Prelude.{◌≡◌, ℕ, Bool, true, false, List, [], ◌∷◌, ◌++◌, ◌⊎◌, Some, length}
use Rattle.std.specs.List.{list_any}
use Rattle.dq_lits.specs.Literal.{Literal, variable_of}
use Rattle.hint_log.specs.Entries.{Entry, clause_at, name_of}
use Rattle.hint_log.specs.declared.names.Name.TheVariants.{Selector}
use Rattle.oracle.specs.declared.groups.Group.{Group}
use Rattle.oracle.specs.Fit.{live_in}
use Rattle.learning_trail.specs.Resting.{rests, IsPut}

-- what rests are groups
abbrev pub AreSelectors : List Entry → List Bool → Type 0
AreSelectors entries resting = (v : ℕ) → rests resting v ≡ true → name_of entries v ≡ Some (Selector v)

-- none of these groups rests
abbrev pub AreActiveAwake : List Bool → List Group → Type 0
AreActiveAwake resting active =
    list_any (λ g. rests resting (variable_of g.selector)) active ≡ false

-- the first so many clauses of the log, or what is held in their place
pub record HoldsPut (resting : List Bool) (entries : List Entry) (held : List (List Literal))
    (count : ℕ) : Type 0 where
  pub long : length held ≡ count
  pub each : (id : ℕ) (clause put : List Literal) → clause_at entries id ≡ Some clause
      → live_in held id ≡ Some put → (put ≡ clause) ⊎ IsPut resting clause put

-- one clause more
pub record IsPutAs (resting : List Bool) (entries : List Entry) (id : ℕ)
    (old new : List (List Literal)) : Type 0 where
  pub clause : List Literal
  pub put : List Literal
  pub logged : clause_at entries id ≡ Some clause
  pub is : new ≡ old ++ put ∷ []
  pub same : (put ≡ clause) ⊎ IsPut resting clause put
