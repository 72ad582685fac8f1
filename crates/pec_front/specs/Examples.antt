-- Designs to hold the definitions against: a gate of two inputs is the specification, and what drives one
-- further input is the implementation.
use Rattle.std.specs.Prelude.{true, not, List, [], ◌∷◌}
use Rattle.dq_lits.specs.Literal.{Literal, positive, negative}
use Rattle.circuit_plain.specs.Netlist.{Netlist}
use Rattle.pec_front.specs.Boxes.{BlackBox, BoxFunctions, PartialDesign}

abbrev pub specification : Netlist
specification = record {
  max_var = 3;
  inputs = 1 ∷ 2 ∷ [];
  outputs = 6 ∷ [];
  gates = record { variable = 3; left = 4; right = 2 }
      ∷ [];
}

abbrev pub implementation : Netlist
implementation = record { max_var = 3; inputs = 1 ∷ 2 ∷ 3 ∷ []; outputs = 6 ∷ []; gates = [] }

abbrev pub design : BlackBox → PartialDesign
design box = record { specification = specification; implementation = implementation; boxes = box ∷ [] }

-- the box reads both inputs
abbrev pub reading_both : BlackBox
reading_both = record { ins = 2 ∷ 4 ∷ []; outs = 6 ∷ [] }

-- the matrix of its design's formula
abbrev pub expected_matrix : List (List Literal)
expected_matrix =
    (negative 6 ∷ positive 2 ∷ []) ∷ (negative 6 ∷ positive 1 ∷ []) ∷ (positive 6 ∷ negative 2 ∷ negative 1 ∷ [])
    ∷ (negative 7 ∷ negative 3 ∷ positive 1 ∷ []) ∷ (negative 7 ∷ positive 3 ∷ negative 1 ∷ [])
    ∷ (positive 7 ∷ positive 3 ∷ positive 1 ∷ []) ∷ (positive 7 ∷ negative 3 ∷ negative 1 ∷ [])
    ∷ (negative 8 ∷ negative 4 ∷ positive 2 ∷ []) ∷ (negative 8 ∷ positive 4 ∷ negative 2 ∷ [])
    ∷ (positive 8 ∷ positive 4 ∷ positive 2 ∷ []) ∷ (positive 8 ∷ negative 4 ∷ negative 2 ∷ [])
    ∷ (negative 9 ∷ negative 6 ∷ positive 5 ∷ []) ∷ (negative 9 ∷ positive 6 ∷ negative 5 ∷ [])
    ∷ (positive 9 ∷ positive 6 ∷ positive 5 ∷ []) ∷ (positive 9 ∷ negative 6 ∷ negative 5 ∷ [])
    ∷ (positive 9 ∷ negative 7 ∷ negative 8 ∷ [])
    ∷ []

-- the box reads what it drives
abbrev pub reading_itself : BlackBox
reading_itself = record { ins = 6 ∷ []; outs = 6 ∷ [] }

abbrev pub negation : BoxFunctions
negation out [] = true
negation out (b ∷ bs) = not b
