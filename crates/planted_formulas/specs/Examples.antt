-- Short words for formulas that are written out.
use Rattle.std.specs.Prelude.{ℕ, [], ◌∷◌}
use Rattle.dq_lits.specs.Formula.{Existential}

-- an existential with the two universals that it sees
abbrev pub sees : ℕ → ℕ → ℕ → Existential
sees y a b = record { variable = y; sees = a ∷ b ∷ [] }
