-- A proof log, newest entry first: what a search named, was given, learned, answered and tried.
-- Clauses that were derived have hints, as in LRAT (L. Cruz-Filipe, M. Heule, W. Hunt, M. Kaufmann,
-- P. Schneider-Kamp, "Efficient certified RAT verification", 2017).
use Rattle.std.specs.Prelude.{ℕ, ◌+◌, ◌==◌, Bool, true, false, ◌&&◌, List, [], ◌∷◌, ◌++◌, Option, Some, None, if◌then◌else◌}
use Rattle.std.specs.Option.{option_and_then}
use Rattle.dq_lits.specs.Literal.{Literal}
use Rattle.hint_log.specs.declared.names.Name.{Name}
use Rattle.hint_log.specs.declared.origins.Origin.{Origin}

-- clauses have ids, and rounds have numbers of their own
pub data Entry : Type 0 where
  -- a solver variable gets its name
  Named : ℕ → Name → Entry
  -- a clause that was put to the solver, with its origin
  Given : Origin → List Literal → Entry
  -- a clause that was learned, with the hints that derive it
  Learned : List Literal → List ℕ → Entry
  -- a clause that shows that some groups can't be true together, with the hints that derive it
  Answer : List Literal → List ℕ → Entry
  -- candidates failed: a row, the values of the existentials there, and the number of a clause that
  -- is false
  Round : List Bool → List Bool → ℕ → Entry
  -- a search begins over these of the clauses that were numbered so far, by their numbers
  Begun : List ℕ → Entry

pub record ProofLog : Type 0 where
  -- the most counted entries
  pub limit : ℕ
  pub entries : List Entry

abbrev pub with_entry : ProofLog → Entry → ProofLog
with_entry log entry = record log { entries = entry ∷ log.entries }

-- the entries that have ids
abbrev pub has_id : Entry → Bool
has_id (Named _ _) = false
has_id (Round _ _ _) = false
has_id (Begun _) = false
has_id _ = true

abbrev pub is_round : Entry → Bool
is_round (Round _ _ _) = true
is_round _ = false

abbrev pub is_beginning : Entry → Bool
is_beginning (Begun _) = true
is_beginning _ = false

-- the entries that count as steps
abbrev pub is_counted : Entry → Bool
is_counted (Learned _ _) = true
is_counted (Round _ _ _) = true
is_counted _ = false

abbrev pub count : (Entry → Bool) → List Entry → ℕ
count test [] = 0
count test (e ∷ earlier) = if test e then count test earlier + 1 else count test earlier

-- ids run from 1 on without gaps
abbrev pub last_id : List Entry → ℕ
last_id entries = count has_id entries

abbrev pub steps_of : List Entry → ℕ
steps_of entries = count is_counted entries

abbrev pub rounds_of : List Entry → ℕ
rounds_of entries = count is_round entries

abbrev pub beginnings_of : List Entry → ℕ
beginnings_of entries = count is_beginning entries

-- the entry of a number among those that pass a test, counted from 1 in order of time
abbrev pub numbered : (Entry → Bool) → List Entry → ℕ → Option Entry
numbered test [] number = None
numbered test (e ∷ earlier) number =
    if test e && (number == count test earlier + 1) then Some e else numbered test earlier number

abbrev pub clause_of : Entry → Option (List Literal)
clause_of (Given _ clause) = Some clause
clause_of (Learned clause _) = Some clause
clause_of (Answer clause _) = Some clause
clause_of _ = None

-- a given clause has no hints
abbrev pub hints_of : Entry → List ℕ
hints_of (Learned _ hints) = hints
hints_of (Answer _ hints) = hints
hints_of _ = []

abbrev pub origin_of : Entry → Option Origin
origin_of (Given origin _) = Some origin
origin_of _ = None

abbrev pub row_of : Entry → Option (List Bool)
row_of (Round row _ _) = Some row
row_of _ = None

abbrev pub clause_at : List Entry → ℕ → Option (List Literal)
clause_at entries id = option_and_then clause_of (numbered has_id entries id)

abbrev pub hints_at : List Entry → ℕ → Option (List ℕ)
hints_at entries id = option_and_then (λ e. Some (hints_of e)) (numbered has_id entries id)

abbrev pub origin_at : List Entry → ℕ → Option Origin
origin_at entries id = option_and_then origin_of (numbered has_id entries id)

abbrev pub row_at : List Entry → ℕ → Option (List Bool)
row_at entries k = option_and_then row_of (numbered is_round entries k)

-- the name of a variable
abbrev pub name_of : List Entry → ℕ → Option Name
name_of [] v = None
name_of (Named w name ∷ earlier) v = if v == w then Some name else name_of earlier v
name_of (_ ∷ earlier) v = name_of earlier v

-- the variables and their names, in order of time
abbrev pub names_of : List Entry → List (ℕ × Name)
names_of [] = []
names_of (Named v name ∷ earlier) = names_of earlier ++ (v, name) ∷ []
names_of (_ ∷ earlier) = names_of earlier
