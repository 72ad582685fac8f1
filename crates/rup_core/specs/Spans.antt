-- Clauses among the literals of a page.
use Rattle.std.specs.Prelude.{ℕ, ◌≡◌, ◌-◌, nat_le, Bool, List, length, take, drop, Option, None, Some, slice_index_or, if◌then◌else◌}
use Rattle.dq_lits.specs.Literal.{Literal}
use Rattle.rup_core.specs.declared.pages.Span.{Span}

abbrev pub gone_span : Span
gone_span = record { start = 1; end = 0 }

abbrev pub is_span : Span → Bool
is_span s = nat_le s.start s.end

abbrev pub clause_in : List Literal → Span → Option (List Literal)
clause_in literals s =
    if is_span s then Some (take (s.end - s.start) (drop s.start literals)) else None

-- a place behind the last one has none
abbrev pub AreSameSpans : List Span → List Span → Type 0
AreSameSpans old new =
    (k : ℕ) → slice_index_or new k gone_span ≡ slice_index_or old k gone_span

abbrev pub written_span : List Literal → List Literal → Span
written_span old new = record { start = length old; end = length new }
