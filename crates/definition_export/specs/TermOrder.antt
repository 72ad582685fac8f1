-- The gates over first copies that a log has named so far, in the order of naming.
use Rattle.std.specs.Prelude.{◌≡◌, ◌≤◌, ℕ, List, [], ◌∷◌, length, take}
use Rattle.hint_log.specs.Entries.{Entry, names_of}
use Rattle.hint_log.specs.declared.names.Name.{Name}
use Rattle.hint_log.specs.declared.names.Name.TheVariants.{Term}
use Rattle.number_tables.specs.Numbers.{with_number}
use Rattle.definition_export.specs.declared.terms.TermOrder.{TermOrder}

abbrev pub with_term : List ℕ → ℕ × Name → List ℕ
with_term terms (v, Term a b) = with_number terms v
with_term terms _ = terms

abbrev pub with_terms : List ℕ → List (ℕ × Name) → List ℕ
with_terms terms [] = terms
with_terms terms (named ∷ names) = with_terms (with_term terms named) names

-- those among the first names that were read
pub record HasRead (order : TermOrder) (entries : List Entry) : Type 0 where
  pub within : order.read ≤ length (names_of entries)
  pub terms : order.terms ≡ with_terms [] (take order.read (names_of entries))

-- all of them
abbrev pub IsTermOrder : TermOrder → List Entry → Type 0
IsTermOrder order entries = order.terms ≡ with_terms [] (names_of entries)
