-- Three small formulas, to hold the definitions against.
use Rattle.std.specs.Prelude.{ℕ, ◌==◌, Bool, true, false, not, ◌&&◌, List, [], ◌∷◌, if◌then◌else◌}
use Rattle.dq_lits.specs.Literal.{Literal, positive, negative, literal_true}
use Rattle.dq_lits.specs.Formula.{Existential, Dqbf}
use Rattle.dq_lits.specs.Skolem.{OutputFunction}
use Rattle.dq_lits.specs.Derivation.{ProofStep}

abbrev pub existential : ℕ → List ℕ → Existential
existential y xs = record { variable = y; sees = xs }

abbrev pub step : ℕ → List Literal → List ℕ → ProofStep
step id literals hints = record { id = id; literals = literals; hints = hints }

-- p cnf 4 4 / a 1 2 0 / d 3 1 0 / d 4 2 0 / 3 -1 0 / -3 1 0 / 4 -2 0 / -4 2 0:
-- 3 copies 1 and 4 copies 2, each of which it sees
abbrev pub two_copies : Dqbf
two_copies = record {
  variables = 4;
  universals = 1 ∷ 2 ∷ [];
  existentials = existential 3 (1 ∷ []) ∷ existential 4 (2 ∷ []) ∷ [];
  matrix =
      (positive 3 ∷ negative 1 ∷ [])
      ∷ (negative 3 ∷ positive 1 ∷ [])
      ∷ (positive 4 ∷ negative 2 ∷ [])
      ∷ (negative 4 ∷ positive 2 ∷ [])
      ∷ [];
}

-- p cnf 3 2 / a 1 2 0 / d 3 1 0 / 3 -2 0 / -3 2 0: 3 is to copy 2, and sees 1
abbrev pub blind_copy : Dqbf
blind_copy = record {
  variables = 3;
  universals = 1 ∷ 2 ∷ [];
  existentials = existential 3 (1 ∷ []) ∷ [];
  matrix = (positive 3 ∷ negative 2 ∷ []) ∷ (negative 3 ∷ positive 2 ∷ []) ∷ [];
}

-- p cnf 4 6 / a 1 2 0 / d 3 1 0 / d 4 2 0, and that 3 xor 4 is 1 and 2
abbrev pub split_conjunction : Dqbf
split_conjunction = record {
  variables = 4;
  universals = 1 ∷ 2 ∷ [];
  existentials = existential 3 (1 ∷ []) ∷ existential 4 (2 ∷ []) ∷ [];
  matrix =
      (negative 1 ∷ negative 2 ∷ positive 3 ∷ positive 4 ∷ [])
      ∷ (negative 1 ∷ negative 2 ∷ negative 3 ∷ negative 4 ∷ [])
      ∷ (positive 1 ∷ negative 3 ∷ positive 4 ∷ [])
      ∷ (positive 1 ∷ positive 3 ∷ negative 4 ∷ [])
      ∷ (positive 2 ∷ negative 3 ∷ positive 4 ∷ [])
      ∷ (positive 2 ∷ positive 3 ∷ negative 4 ∷ [])
      ∷ [];
}

-- an output that is a literal, and reads its variable
abbrev pub literal_output : Literal → ℕ → OutputFunction
literal_output l x = record { value = λ m. literal_true m l; support = x ∷ [] }

-- an output for 3, and the input 2 for 4
abbrev pub outputs_with : OutputFunction → Existential → OutputFunction
outputs_with first y = if y.variable == 3 then first else literal_output (positive 2) 2

-- an output with the value of input 1 that reaches input 2 as well: 1 and not (2 and not 2)
abbrev pub roundabout_output : OutputFunction
roundabout_output = record { value = λ m. m 1 && not (m 2 && not (m 2)); support = 1 ∷ 2 ∷ [] }

-- the rows of two universals
abbrev pub row : Bool → Bool → List Bool
row a b = a ∷ b ∷ []

abbrev pub four_rows : List (List Bool)
four_rows = row false false ∷ row true false ∷ row false true ∷ row true true ∷ []
