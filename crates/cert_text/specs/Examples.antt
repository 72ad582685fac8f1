-- A small formula with two circuits, to hold the negated matrix against; and one with definitions, to
-- hold their grammar against.
use Rattle.std.specs.Prelude.{ℕ, ◌*◌, ◌==◌, true, false, List, [], ◌∷◌, ◌++◌, codes, if◌then◌else◌}
use Rattle.std.specs.List.{flat_map}
use Rattle.dq_lits.specs.Derivation.{ProofStep}
use Rattle.dq_lits.specs.Formula.{Dqbf}
use Rattle.dq_lits.specs.Literal.{Literal, positive, negative}
use Rattle.circuit_plain.specs.Netlist.{Netlist}
use Rattle.cert_text.specs.DefinitionBlocks.{DefinitionBlock, defined, free}

-- p cnf 3 3 / a 1 2 0 / d 3 1 2 0 / -3 1 0 / -3 2 0 / 3 -1 -2 0: 3 is 1 and 2
abbrev pub conjunction : Dqbf
conjunction = record {
  variables = 3;
  universals = 1 ∷ 2 ∷ [];
  existentials = record { variable = 3; sees = 1 ∷ 2 ∷ [] } ∷ [];
  matrix =
      (negative 3 ∷ positive 1 ∷ []) ∷ (negative 3 ∷ positive 2 ∷ [])
      ∷ (positive 3 ∷ negative 1 ∷ negative 2 ∷ []) ∷ [];
}

-- aag 3 2 0 1 1 / 2 / 4 / 6 / 6 2 4
abbrev pub gate_circuit : Netlist
gate_circuit =
    record {
      max_var = 3;
      inputs = 1 ∷ 2 ∷ [];
      outputs = 6 ∷ [];
      gates = record { variable = 3; left = 2; right = 4 } ∷ [];
    }

-- aag 2 2 0 1 0 / 2 / 4 / 0
abbrev pub false_circuit : Netlist
false_circuit = record { max_var = 2; inputs = 1 ∷ 2 ∷ []; outputs = 0 ∷ []; gates = [] }

-- 1 and 2 stand for the inputs, and 3 for the output with this literal
abbrev pub literal_with_output : ℕ → ℕ → ℕ
literal_with_output output v = if v == 3 then output else 2 * v

abbrev step : ℕ → List Literal → List ℕ → ProofStep
step id literals hints = record { id = id; literals = literals; hints = hints }

-- no clause is false where the gate has its value
abbrev pub conjunction_proof : List ProofStep
conjunction_proof =
    step 12 (negative 4 ∷ []) (4 ∷ 5 ∷ 1 ∷ [])
    ∷ step 13 (negative 5 ∷ []) (6 ∷ 7 ∷ 2 ∷ [])
    ∷ step 14 (negative 6 ∷ []) (8 ∷ 9 ∷ 10 ∷ 3 ∷ [])
    ∷ step 15 [] (12 ∷ 13 ∷ 14 ∷ 11 ∷ [])
    ∷ []

-- the same with an existential 4 that sees 1 and is in no clause
abbrev pub conjunction_beside : Dqbf
conjunction_beside = record {
  variables = 4;
  universals = 1 ∷ 2 ∷ [];
  existentials =
      record { variable = 3; sees = 1 ∷ 2 ∷ [] } ∷ record { variable = 4; sees = 1 ∷ [] } ∷ [];
  matrix = conjunction.matrix;
}

-- 3 is a gate of 1 and 2, and 4 can be true and false where 1 and 2 are true
abbrev pub conjunction_definitions : List DefinitionBlock
conjunction_definitions =
    defined (record {
      existential = 3;
      output = 10;
      gates = record { variable = 5; left = 2; right = 4 } ∷ [];
      steps = step 9 (negative 3 ∷ []) (1 ∷ 2 ∷ 6 ∷ 8 ∷ []) ∷ step 10 [] (9 ∷ 7 ∷ 4 ∷ 5 ∷ 3 ∷ []) ∷ [];
    })
    ∷ free (record {
      existential = 4;
      first = record { row = true ∷ true ∷ []; values = true ∷ true ∷ [] };
      second = record { row = true ∷ true ∷ []; values = true ∷ false ∷ [] };
    })
    ∷ []

abbrev pub conjunction_definitions_text : List ℕ
conjunction_definitions_text =
    flat_map (λ line. line ++ 10 ∷ []) (
    codes "p dqd 2"
    ∷ codes "t 3 10 1 2"
    ∷ codes "10 2 4"
    ∷ codes "9 -3 0 1 2 6 8 0"
    ∷ codes "10 0 9 7 4 5 3 0"
    ∷ codes "f 4"
    ∷ codes "u 1 2 0"
    ∷ codes "v 3 4 0"
    ∷ codes "u 1 2 0"
    ∷ codes "v 3 -4 0"
    ∷ []
    )
