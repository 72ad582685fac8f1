-- The lines that an answer stands for, over any renaming of the variables and any base: the derived
-- clauses that it rests on, renamed.
use Rattle.std.specs.Prelude.{ℕ, ◌+◌, ◌==◌, Bool, true, false, List, [], map, Option, None, Some}
use Rattle.std.specs.List.{filter, position_or_len}
use Rattle.std.specs.Option.{option_map}
use Rattle.dq_lits.specs.Literal.{Literal, opposite}
use Rattle.dq_lits.specs.Derivation.{LiveClauses, ProofStep}
use Rattle.hint_log.specs.Entries.{Entry, Given, Learned, Answer, has_id, numbered, hints_of, clause_at}
use Rattle.hint_log.specs.declared.origins.Origin.{Origin}
use Rattle.cert_export.specs.Renaming.{Renaming, renamed_clause, cut_hints}

abbrev pub clause_or_empty : Option Entry → List Literal
clause_or_empty (Some (Given _ clause)) = clause
clause_or_empty (Some (Learned clause _)) = clause
clause_or_empty (Some (Answer clause _)) = clause
clause_or_empty _ = []

abbrev pub hints_or_none : Option Entry → List ℕ
hints_or_none (Some e) = hints_of e
hints_or_none None = []

-- clauses that were learned or answer
abbrev pub is_lemma : Entry → Bool
is_lemma (Learned _ _) = true
is_lemma (Answer _ _) = true
is_lemma _ = false

abbrev pub is_derived : Option Entry → Bool
is_derived (Some e) = is_lemma e
is_derived None = false

abbrev pub derived_ids : List Entry → List ℕ → List ℕ
derived_ids entries ids = filter (λ id. is_derived (numbered has_id entries id)) ids

-- lines are numbered one after the other, behind the base
abbrev pub line_number : ℕ → List ℕ → ℕ → ℕ
line_number base lines id = base + position_or_len (λ line. line == id) lines + 1

-- a given clause has its origin's number, and a derived one a number of its own
abbrev pub number_by : (Origin → ℕ) → ℕ → Option Entry → ℕ
number_by base_id number (Some (Given origin _)) = base_id origin
number_by base_id number (Some (Learned _ _)) = number
number_by base_id number (Some (Answer _ _)) = number
number_by base_id number _ = 0

abbrev pub new_number : (Origin → ℕ) → List Entry → (ℕ → ℕ) → ℕ → ℕ
new_number base_id entries number id = number_by base_id (number id) (numbered has_id entries id)

-- the log's clauses, renamed
abbrev pub renamed_clauses : Renaming → List Entry → LiveClauses
renamed_clauses r entries id = option_map (renamed_clause r) (clause_at entries id)

abbrev pub line_clause : Renaming → List Entry → ℕ → List Literal
line_clause r entries id = renamed_clause r (clause_or_empty (numbered has_id entries id))

-- the hints that the renamed clause needs, by the log's ids
abbrev pub line_hints : Renaming → List Entry → ℕ → List ℕ
line_hints r entries id =
    cut_hints (renamed_clauses r entries) (map opposite (line_clause r entries id))
    (hints_or_none (numbered has_id entries id))

abbrev pub line_step : Renaming → (Origin → ℕ) → List Entry → (ℕ → ℕ) → ℕ → ProofStep
line_step r base_id entries number id = record {
  id = number id;
  literals = line_clause r entries id;
  hints = map (new_number base_id entries number) (line_hints r entries id);
}

abbrev pub line_steps : Renaming → (Origin → ℕ) → List Entry → (ℕ → ℕ) → List ℕ → List ProofStep
line_steps r base_id entries number ids = map (line_step r base_id entries number) ids
