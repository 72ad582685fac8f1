-- A log of productive work for a formula. Each of its points speaks of an entry and the earlier
-- ones, so that it stays true as the log grows. Clause learning is by first unique implication
-- points (J. Marques-Silva, K. Sakallah, "GRASP", 1999; M. Moskewicz et al., "Chaff", 2001), hints
-- as in LRAT (L. Cruz-Filipe et al., 2017).
use Rattle.std.specs.Prelude.{◌≡◌, ℕ, ◌+◌, ◌-◌, ◌≤◌, Bool, true, false, List, [], ◌∷◌, map, length, Some, if◌then◌else◌}
use Rattle.std.specs.List.{Contains, list_any}
use Rattle.dq_lits.specs.Literal.{Assignment, Literal, negative, variable_of, opposite, same_literal, clause_true}
use Rattle.dq_lits.specs.Formula.{Dqbf}
use Rattle.dq_lits.specs.Expansion.{pair_number, IsExpansionModel}
use Rattle.dq_lits.specs.Derivation.{LiveClauses, IsDerived, holds, is_tautology, status_of, stuck}
use Rattle.hint_log.specs.Entries.{clause_at, rounds_of, beginnings_of, Entry, Named, Given, Learned, Answer, Round}
use Rattle.hint_log.specs.declared.names.Name.{Name}
use Rattle.hint_log.specs.declared.names.Name.TheVariants.{Input}
use Rattle.hint_log.specs.declared.origins.Origin.{Origin}
use Rattle.hint_log.specs.declared.origins.Origin.TheVariants.{Fault}
use Rattle.hint_log.specs.Growth.{Each}
use Rattle.hint_log.specs.Naming.{is_selector, numbered_from_one, rows_of, round_assignment}
use Rattle.hint_log.specs.Origins.{IsOriginsClause}

-- an input stands for a universal of the formula; so a gate's cone, whose sides were named before,
-- reaches inputs of universals alone
abbrev pub IsRightlyNamed : Dqbf → Name → Type 0
IsRightlyNamed f (Input x) = Contains f.universals x
IsRightlyNamed f _ = Unit {0}

-- point 1: every input is a universal's, and every given clause is its origin's
abbrev pub MatchesOrigin : Dqbf → List Entry → Entry → Type 0
MatchesOrigin f earlier (Named v name) = IsRightlyNamed f name
MatchesOrigin f earlier (Given origin clause) = IsOriginsClause f earlier origin clause
MatchesOrigin f earlier _ = Unit {0}

-- point 2: every learned clause and every answer is derived by its hints from earlier ids
abbrev pub IsDerivedByHints : List Entry → Entry → Type 0
IsDerivedByHints earlier (Learned clause hints) = IsDerived (clause_at earlier) clause hints
IsDerivedByHints earlier (Answer clause hints) = IsDerived (clause_at earlier) clause hints
IsDerivedByHints earlier _ = Unit {0}

-- where these literals are true, every clause has a true literal, or two that aren't false:
-- propagation has come to its end
abbrev pub IsClosed : LiveClauses → List Literal → Type 0
IsClosed live trues = (id : ℕ) → status_of trues (live id) ≡ stuck

-- the clause makes a literal true where propagation to its end over all clauses had given it no
-- value
pub record IsNewByPropagation (earlier : List Entry) (clause : List Literal) : Type 0 where
  pub literal : Literal
  pub trues : List Literal
  pub among : holds clause literal ≡ true
  pub no_selector : is_selector earlier (variable_of literal) ≡ false
  pub consistent : is_tautology trues ≡ false
  pub not_true : holds trues literal ≡ false
  pub not_false : holds trues (opposite literal) ≡ false
  pub rest_false : (l : Literal) → holds clause l ≡ true → same_literal l literal ≡ false
      → holds trues (opposite l) ≡ true
  pub closed : IsClosed (clause_at earlier) trues

-- point 3: every learned clause is new by propagation
abbrev pub IsNewLemma : List Entry → Entry → Type 0
IsNewLemma earlier (Learned clause hints) = IsNewByPropagation earlier clause
IsNewLemma earlier _ = Unit {0}

-- a row that wasn't tried, with values under which a clause is false
pub record IsNewFailure (f : Dqbf) (earlier : List Entry) (row values : List Bool)
    (j : ℕ) : Type 0 where
  pub row_length : length row ≡ length f.universals
  pub values_length : length values ≡ length f.existentials
  pub untried : Contains (rows_of earlier) row → ⊥
  pub clause : List Literal
  pub clause_is : numbered_from_one f.matrix j ≡ Some clause
  pub is_false : clause_true (round_assignment f row values) clause ≡ false

-- point 4: every round has a new row, and a clause that is false there
abbrev pub RefutesNewRow : Dqbf → List Entry → Entry → Type 0
RefutesNewRow f earlier (Round row values j) = IsNewFailure f earlier row values j
RefutesNewRow f earlier _ = Unit {0}

-- the instances of the earlier rounds have a model with these values at the row's pairs
pub record HasModelWith (f : Dqbf) (rows : List (List Bool)) (row values : List Bool) : Type 0 where
  pub model : Assignment
  pub holds_there : IsExpansionModel f rows model
  pub values_are : values ≡ map (λ y. model (pair_number f rows row y)) f.existentials

-- point 5: every round's values come from a model of the earlier rounds' instances
abbrev pub FollowsModel : Dqbf → List Entry → Entry → Type 0
FollowsModel f earlier (Round row values j) = HasModelWith f (rows_of earlier) row values
FollowsModel f earlier _ = Unit {0}

abbrev pub is_fault : Origin → Bool
is_fault (Fault _ _ _) = true
is_fault _ = false

abbrev pub with_group : List Literal → List ℕ → List ℕ
with_group [] groups = groups
with_group (l ∷ _) groups =
    if list_any (λ g. same_literal (negative g) l) groups then groups else variable_of l ∷ groups

-- the groups that were given faults, each once
abbrev pub fault_groups : List Entry → List ℕ
fault_groups [] = []
fault_groups (Given origin clause ∷ earlier) =
    if is_fault origin then with_group clause (fault_groups earlier) else fault_groups earlier
fault_groups (_ ∷ earlier) = fault_groups earlier

-- how many groups may have been given faults: one more than the rounds, and one more for each
-- search that began after the first
abbrev pub fault_room : List Entry → ℕ
fault_room entries = rounds_of entries + 1 + (beginnings_of entries - 1)

-- no two given clauses have one origin, faults aside, and the groups that were given faults are few
pub record IsFirstOfOrigin (earlier : List Entry) (origin : Origin)
    (clause : List Literal) : Type 0 where
  pub first : is_fault origin ≡ false → (c : List Literal) → Contains earlier (Given origin c) → ⊥
  pub groups : length (fault_groups (Given origin clause ∷ earlier)) ≤ fault_room earlier

-- point 6: nothing is given twice
abbrev pub IsNotRepeated : List Entry → Entry → Type 0
IsNotRepeated earlier (Given origin clause) = IsFirstOfOrigin earlier origin clause
IsNotRepeated earlier _ = Unit {0}

pub record IsProductiveLog (f : Dqbf) (entries : List Entry) : Type 0 where
  pub givens_match_origins : Each (MatchesOrigin f) entries
  pub lemmas_are_derived : Each IsDerivedByHints entries
  pub lemmas_are_new : Each IsNewLemma entries
  pub rounds_refute_new_rows : Each (RefutesNewRow f) entries
  pub rounds_follow_a_model : Each (FollowsModel f) entries
  pub givens_are_not_repeated : Each IsNotRepeated entries
