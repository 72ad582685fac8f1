-- Words of private contracts: clauses by their places, in pages.
use Rattle.std.specs.Prelude.{◌≡◌, ℕ, ◌==◌, ◌*◌, ◌/◌, ◌%◌, List, [], length, Option, None, slice_index_or, if◌then◌else◌}
use Rattle.dq_lits.specs.Literal.{Literal}
use Rattle.rup_core.specs.Lines.{lines_below}
use Rattle.rup_core.specs.declared.stores.TheConstants.{PAGE}

abbrev pub Clauses : Type 0
Clauses = List (Option (List Literal))

-- a place behind the last one has none
abbrev pub clause_at : Clauses → ℕ → Option (List Literal)
clause_at page place = slice_index_or page place None

abbrev pub clause_among : List Clauses → ℕ → Option (List Literal)
clause_among pages place = clause_at (slice_index_or pages (place / PAGE) []) (place % PAGE)

-- a page behind the last one has none
abbrev pub AreSamePages : List Clauses → List Clauses → Type 0
AreSamePages old new = (k : ℕ) → slice_index_or new k [] ≡ slice_index_or old k []

abbrev pub AreSameClauses : (ℕ → Option (List Literal)) → (ℕ → Option (List Literal)) → Type 0
AreSameClauses old new = (k : ℕ) → new k ≡ old k

-- as before, but for one place
abbrev pub Sets : (ℕ → Option (List Literal)) → (ℕ → Option (List Literal)) → ℕ
    → Option (List Literal) → Type 0
Sets old new place clause = (k : ℕ) → new k ≡ (if k == place then clause else old k)

-- the lines whose clauses stand in the pages, where the first place has the id `first`
abbrev pub stored_lines : ℕ → List Clauses → List (ℕ × List Literal)
stored_lines first pages = lines_below first (length pages * PAGE) (clause_among pages)
