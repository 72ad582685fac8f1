-- Small formulas, to hold the definitions against.
use Rattle.std.specs.Prelude.{ℕ, List, [], ◌∷◌}
use Rattle.dq_lits.specs.Literal.{Literal, positive, negative}
use Rattle.dq_lits.specs.Formula.{Existential, Dqbf}
use Rattle.dq_prep.specs.declared.traces.Taken.{Taken}

abbrev pub existential : ℕ → List ℕ → Existential
existential y xs = record { variable = y; sees = xs }

abbrev pub taken : ℕ → Literal → Taken
taken place l = record { place = place; literal = l }

-- p cnf 3 2 / a 1 2 0 / d 3 1 0 / 3 2 0 / -3 1 0: 3 doesn't see 2, so that the first clause is a unit
abbrev pub emptied : Dqbf
emptied = record {
  variables = 3;
  universals = 1 ∷ 2 ∷ [];
  existentials = existential 3 (1 ∷ []) ∷ [];
  matrix = (positive 3 ∷ positive 2 ∷ []) ∷ (negative 3 ∷ positive 1 ∷ []) ∷ [];
}

abbrev pub emptied_units : List Taken
emptied_units = taken 0 (positive 3) ∷ []

-- p cnf 2 2 / a 1 0 / d 2 1 0 / 2 0 / 2 -1 0: the unit satisfies the other clause
abbrev pub settled : Dqbf
settled = record {
  variables = 2;
  universals = 1 ∷ [];
  existentials = existential 2 (1 ∷ []) ∷ [];
  matrix = (positive 2 ∷ []) ∷ (positive 2 ∷ negative 1 ∷ []) ∷ [];
}

abbrev pub settled_units : List Taken
settled_units = taken 0 (positive 2) ∷ []

-- p cnf 3 4 / a 1 0 / d 2 1 0 / d 3 0 / 3 0 / -3 2 1 0 / -3 1 -1 0 / 3 0: a unit that stands twice, a
-- universal that is seen, and a clause with a literal and its negation
abbrev pub kept : Dqbf
kept = record {
  variables = 3;
  universals = 1 ∷ [];
  existentials = existential 2 (1 ∷ []) ∷ existential 3 [] ∷ [];
  matrix =
      (positive 3 ∷ [])
      ∷ (negative 3 ∷ positive 2 ∷ positive 1 ∷ [])
      ∷ (negative 3 ∷ positive 1 ∷ negative 1 ∷ [])
      ∷ (positive 3 ∷ [])
      ∷ [];
}

abbrev pub kept_units : List Taken
kept_units = taken 0 (positive 3) ∷ []
