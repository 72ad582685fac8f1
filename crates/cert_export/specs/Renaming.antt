-- Partial renaming of variables: literals on variables without a new name are left out.
use Rattle.std.specs.Prelude.{◌≡◌, ℕ, List, [], ◌∷◌, map, Option, Some}
use Rattle.std.specs.List.{filter_map, All, Contains}
use Rattle.std.specs.Option.{option_map}
use Rattle.dq_lits.specs.Literal.{Literal, variable_of, on_variable, opposite}
use Rattle.hint_log.specs.Entries.{Entry, Given, has_id, numbered}
use Rattle.hint_log.specs.declared.origins.Origin.{Origin}
use Rattle.dq_lits.specs.Derivation.{LiveClauses, ClauseStatus, falsified, unit, stuck, status_of, IsDerived}

abbrev pub Renaming : Type 0
Renaming = ℕ → Option ℕ

-- no two variables get one name
abbrev pub IsInjective : Renaming → Type 0
IsInjective r = (v w x : ℕ) → r v ≡ Some x → r w ≡ Some x → v ≡ w

abbrev pub renamed_literal : Renaming → Literal → Option Literal
renamed_literal r l = option_map (λ w. on_variable w l) (r (variable_of l))

abbrev pub renamed_clause : Renaming → List Literal → List Literal
renamed_clause r clause = filter_map (renamed_literal r) clause

-- where the one gives a variable a name, the other gives it the same
abbrev pub IsPartOf : Renaming → Renaming → Type 0
IsPartOf r s = (v x : ℕ) → r v ≡ Some x → s v ≡ Some x

-- a variable has its name of the other renaming, or none where it has none there
abbrev pub IsNamed : Renaming → Renaming → Literal → Type 0
IsNamed target r l = r (variable_of l) ≡ target (variable_of l)

-- some variables have their names, among them those of these literals
pub record AreNamedIn (target r : Renaming) (literals : List Literal) : Type 0 where
  pub right : IsPartOf r target
  pub named : All (IsNamed target r) literals

-- the names of the variables that the given clauses among these ids stand on; perhaps of further
-- ones
pub record IsRenamingOf (target : Renaming) (entries : List Entry) (ids : List ℕ)
    (r : Renaming) : Type 0 where
  pub right : IsPartOf r target
  pub whole : (id : ℕ) (origin : Origin) (c : List Literal) → Contains ids id
      → numbered has_id entries id ≡ Some (Given origin c)
      → renamed_clause r c ≡ renamed_clause target c

-- hints up to the first that is falsified
abbrev pub cut_by : ClauseStatus → (Literal → List ℕ) → List ℕ
cut_by falsified next = []
cut_by (unit l) next = next l
cut_by stuck next = []

abbrev pub cut_hints : LiveClauses → List Literal → List ℕ → List ℕ
cut_hints live trues [] = []
cut_hints live trues (hint ∷ hints) =
    hint ∷ cut_by (status_of trues (live hint)) (λ l. cut_hints live (l ∷ trues) hints)

-- the id's clause is that of another id, renamed
abbrev pub IsRenamedAt : Renaming → (ℕ → ℕ) → LiveClauses → LiveClauses → ℕ → Type 0
IsRenamedAt r to live renamed id =
    (clause : List Literal) → live id ≡ Some clause
    → renamed (to id) ≡ Some (renamed_clause r clause)

-- a derived line stays derived, by its hints up to the first that is falsified
abbrev pub RenamedLinesAreDerived : Type 0
RenamedLinesAreDerived = (r : Renaming) (to : ℕ → ℕ) (live renamed : LiveClauses) → IsInjective r →
    (literals : List Literal) (hints : List ℕ) → All (IsRenamedAt r to live renamed) hints
    → IsDerived live literals hints →
    IsDerived renamed (renamed_clause r literals)
    (cut_hints renamed (map opposite (renamed_clause r literals)) (map to hints))
