-- Words of private contracts: a mark for each line, in blocks.
use Rattle.std.specs.Prelude.{◌≡◌, ◌<◌, ℕ, zero, suc, ◌==◌, ◌/◌, ◌%◌, Bool, List, [], ◌∷◌, ◌++◌, length, slice_index_or, if◌then◌else◌}
use Rattle.dq_lits.specs.Row.{bit_of}
use Rattle.cert_text.specs.declared.live_lines.TheConstants.{BLOCK}

abbrev pub IsBlock : List Bool → Type 0
IsBlock block = length block ≡ BLOCK

abbrev pub mark_among : List (List Bool) → ℕ → Bool
mark_among blocks place = bit_of (slice_index_or blocks (place / BLOCK) []) (place % BLOCK)

-- the marks of the first places
abbrev pub marks_below : ℕ → (ℕ → Bool) → List Bool
marks_below zero at = []
marks_below (suc n) at = marks_below n at ++ at n ∷ []

-- as before at the first places
abbrev pub AreSameBelow : ℕ → (ℕ → Bool) → (ℕ → Bool) → Type 0
AreSameBelow n old new = (k : ℕ) → k < n → new k ≡ old k

-- as before, but for one place
abbrev pub SetsMark : (ℕ → Bool) → (ℕ → Bool) → ℕ → Bool → Type 0
SetsMark old new place mark = (k : ℕ) → new k ≡ (if k == place then mark else old k)
