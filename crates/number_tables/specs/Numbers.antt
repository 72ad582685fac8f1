-- Numbers in the order in which they were added, each once.
use Rattle.std.specs.Prelude.{ℕ, ◌==◌, ◌++◌, Bool, List, [], ◌∷◌, Option, if◌then◌else◌}
use Rattle.std.specs.List.{list_any, position}

abbrev pub has_number : List ℕ → ℕ → Bool
has_number numbers n = list_any (λ number. number == n) numbers

abbrev pub place_of : List ℕ → ℕ → Option ℕ
place_of numbers n = position (λ number. number == n) numbers

-- one more number, where it wasn't there
abbrev pub with_number : List ℕ → ℕ → List ℕ
with_number numbers n = if has_number numbers n then numbers else numbers ++ n ∷ []
