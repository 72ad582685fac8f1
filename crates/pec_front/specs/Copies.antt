-- Words of private contracts: the copies that driven inputs see, as ranges.
use Rattle.std.specs.Prelude.{◌≡◌, ℕ, ◌*◌, ◌%◌, ◌==◌, true, List, length, slice_index_or, Option, None, Some, if◌then◌else◌}
use Rattle.std.specs.List.{list_any, range_with_len}
use Rattle.circuit_plain.specs.Netlist.{literal_variable}
use Rattle.number_tables.specs.Numbers.{has_number, place_of}
use Rattle.pec_front.specs.Boxes.{BlackBox}
use Rattle.pec_front.specs.Encoding.{copies_for}
use Rattle.pec_front.specs.declared.copies.Copies.{Copies}
use Rattle.pec_front.specs.declared.copies.Span.{Span}

abbrev pub no_span : Span
no_span = record { start = 0; count = 0 }

abbrev pub span_at : List Span → Option ℕ → Span
span_at spans None = no_span
span_at spans (Some place) = slice_index_or spans place no_span

-- a variable's range, by its place; none for a variable that has no place
abbrev pub span_in : Copies → ℕ → Span
span_in c v = span_at c.spans.items (place_of c.further.now v)

abbrev pub numbers_in : Span → List ℕ
numbers_in span = range_with_len span.start span.count

-- each further input has a range
abbrev pub IsSized : Copies → Type 0
IsSized c = length c.spans.items ≡ length c.further.now

-- one variable's range changes
abbrev pub IsSpanSet : (ℕ → Span) → (ℕ → Span) → ℕ → Span → Type 0
IsSpanSet old new variable span = (v : ℕ) → new v ≡ (if v == variable then span else old v)

-- those of the variables of these literals do
abbrev pub AreSpansSet : (ℕ → Span) → (ℕ → Span) → List ℕ → Span → Type 0
AreSpansSet old new outs span =
    (v : ℕ) → new v ≡ (if list_any (λ o. o == 2 * v) outs then span else old v)

-- the positive literal of a further input
abbrev pub IsKnownOut : List ℕ → ℕ → Type 0
IsKnownOut further out = (out % 2 ≡ 0) × (has_number further (literal_variable out) ≡ true)

-- each variable has the copies of what the first box reads that drives it
abbrev pub AreCopies : ℕ → List BlackBox → (ℕ → Span) → Type 0
AreCopies next boxes spans = (v : ℕ) → numbers_in (spans v) ≡ copies_for next boxes (2 * v)
