-- How the notes of an analysis are kept.
use Rattle.std.specs.Prelude.{◌≡◌, ℕ, ◌<◌, Bool, true, false, List, length, map, slice_index_or, All, Contains}
use Rattle.dq_lits.specs.Literal.{Literal}
use Rattle.learning_trail.specs.declared.notes.Mark.{Mark}
use Rattle.learning_trail.specs.declared.notes.Mark.TheVariants.{Clear, Marked, Past}
use Rattle.learning_trail.specs.declared.notes.Notes.TheInside.{Inside}

-- what notes show
pub record Noted : Type 0 where
  pub marks : List Bool
  pub places : List ℕ
  pub hints : List ℕ
  pub literals : List Literal

abbrev pub is_marked : Mark → Bool
is_marked Clear = false
is_marked Marked = true
is_marked Past = false

abbrev pub is_touched : Mark → Bool
is_touched Clear = false
is_touched Marked = true
is_touched Past = true

abbrev pub noted_in : Inside → Noted
noted_in n = record {
  marks = map is_marked n.marks.items;
  places = n.places.items;
  hints = n.hints.items;
  literals = n.literals.items;
}

-- all variables whose marks aren't clear are among these
pub record AreTouched (marks : List Mark) (touched : List ℕ) : Type 0 where
  pub in_range : All (λ v. v < length marks) touched
  pub whole : (v : ℕ) → is_touched (slice_index_or marks v Clear) ≡ true → Contains touched v

abbrev pub HasTouched : Inside → Type 0
HasTouched n = AreTouched n.marks.items n.touched.items
