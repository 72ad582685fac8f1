-- What a shared solver keeps of its log.
use Rattle.std.specs.Prelude.{◌≡◌, ℕ, true, List, ◌∷◌, Some, IsSome, Contains}
use Rattle.dq_lits.specs.Literal.{Assignment, Literal, positive, negative, variable_of, is_negative, clause_true}
use Rattle.dq_lits.specs.Derivation.{holds}
use Rattle.hint_log.specs.Entries.{Entry, Given, clause_at, name_of}
use Rattle.hint_log.specs.declared.names.Name.TheVariants.{Selector}
use Rattle.hint_log.specs.declared.origins.Origin.{Origin}
use Rattle.hint_log.specs.Conditions.{AreLogged}
use Rattle.hint_log.specs.Deciding.{KeepsSelectors}
use Rattle.hint_log.specs.Growth.{Each}
use Rattle.hint_log.specs.Naming.{is_selector}
use Rattle.hint_log.specs.ProductiveLog.{IsDerivedByHints, IsNewLemma}
use Rattle.oracle.specs.Calls.{IsPlain}

-- the negated selector of a group, and then literals without selectors
pub record IsOfGroup (earlier : List Entry) (clause : List Literal) : Type 0 where
  pub group : ℕ
  pub rest : List Literal
  pub clause_is : clause ≡ negative group ∷ rest
  pub named : name_of earlier group ≡ Some (Selector group)
  pub plain : (l : Literal) → holds rest l ≡ true → IsPlain earlier l

abbrev pub IsGivenToGroup : List Entry → Entry → Type 0
IsGivenToGroup earlier (Given _ clause) = IsOfGroup earlier clause
IsGivenToGroup earlier _ = Unit {0}

-- the literal stands on a variable that has a name, and is negated where that is a selector
pub record Stands (entries : List Entry) (l : Literal) : Type 0 where
  pub named : IsSome (name_of entries (variable_of l))
  pub negated : is_selector entries (variable_of l) ≡ true → is_negative l ≡ true

-- selectors stand only negated, in what was given, learned and answered
abbrev pub NegatesSelectors : List Entry → Type 0
NegatesSelectors entries =
    (id : ℕ) (clause : List Literal) (l : Literal) → clause_at entries id ≡ Some clause
    → holds clause l ≡ true → Stands entries l

-- every given clause is of a group; what was learned or answered is derived, new and keeps the
-- selectors that it rests on
pub record IsSearched (entries : List Entry) : Type 0 where
  pub logged : AreLogged entries
  pub selectors : (v g : ℕ) → name_of entries v ≡ Some (Selector g) → g ≡ v
  pub grouped : Each IsGivenToGroup entries
  pub negated : NegatesSelectors entries
  pub derived : Each IsDerivedByHints entries
  pub new : Each IsNewLemma entries
  pub kept : KeepsSelectors entries

-- the assignment makes every clause true that was given to a group whose selector is assumed
abbrev pub MakesActiveTrue : Assignment → List Entry → List Literal → Type 0
MakesActiveTrue m entries assumptions =
    (origin : Origin) (group : ℕ) (rest : List Literal)
    → Contains entries (Given origin (negative group ∷ rest))
    → holds assumptions (positive group) ≡ true
    → clause_true m (negative group ∷ rest) ≡ true
