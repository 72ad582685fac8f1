-- Formulas with planted functions: each existential is a gate over two universals, which are all
-- that it sees, and the matrix is the gates' clauses (G. S. Tseitin, 1968). What stands where is
-- drawn by a linear congruential generator, with the multiplier and the increment of the example of
-- `rand` in the C standard.
use Rattle.std.specs.Prelude.{ℕ, zero, suc, ◌+◌, ◌*◌, ◌/◌, ◌%◌, ◌==◌, List, [], ◌∷◌, map, if◌then◌else◌}
use Rattle.std.specs.List.{flat_map, range_with_len}
use Rattle.dq_lits.specs.Literal.{Literal, positive, negative}
use Rattle.dq_lits.specs.Formula.{Existential, Dqbf}
use Rattle.dq_formula.specs.Dependencies.{listed_universals}
use Rattle.planted_formulas.specs.declared.gates.PlantedGate.{PlantedGate}

-- the state behind a draw
unfoldable pub next_state : ℕ → ℕ
next_state x = (x * 1103515245 + 12345) % 2147483648

-- the state behind so many draws
abbrev pub state_after : ℕ → ℕ → ℕ
state_after seed zero = seed
state_after seed (suc draws) = next_state (state_after seed draws)

-- what a state gives, below a bound
abbrev pub drawn : ℕ → ℕ → ℕ
drawn state bound = (state / 65536) % bound

-- a universal other than `a` of those from 1 to n: `b`, or where it is the same, the one behind it,
-- and 1 behind the last
abbrev pub other_than : ℕ → ℕ → ℕ → ℕ
other_than n a b = if b == a then a % n + 1 else b

-- the gate of a variable over the universals from 1 to n, by the states behind three draws
abbrev pub gate_by : ℕ → ℕ → ℕ → ℕ → ℕ → PlantedGate
gate_by n output first second third = record {
  output = output;
  left = 1 + drawn first n;
  right = other_than n (1 + drawn first n) (1 + drawn second n);
  is_xor = drawn third 2 == 1;
}

-- the gate that is drawn next
abbrev pub next_gate : ℕ → ℕ → ℕ → PlantedGate
next_gate n output state =
    gate_by n output (next_state state) (next_state (next_state state))
    (next_state (next_state (next_state state)))

-- the gate at a place, counted from 0, behind three draws for each gate before it: its variable is
-- behind the universals'
abbrev pub planted_gate : ℕ → ℕ → ℕ → PlantedGate
planted_gate seed n place = next_gate n (n + 1 + place) (state_after seed (3 * place))

abbrev pub planted_gates : ℕ → ℕ → ℕ → List PlantedGate
planted_gates seed n count = map (planted_gate seed n) (range_with_len 0 count)

abbrev pub and_clauses : ℕ → ℕ → ℕ → List (List Literal)
and_clauses y a b =
    (negative y ∷ positive a ∷ []) ∷ (negative y ∷ positive b ∷ [])
    ∷ (positive y ∷ negative a ∷ negative b ∷ []) ∷ []

abbrev pub xor_clauses : ℕ → ℕ → ℕ → List (List Literal)
xor_clauses y a b =
    (negative y ∷ positive a ∷ positive b ∷ []) ∷ (negative y ∷ negative a ∷ negative b ∷ [])
    ∷ (positive y ∷ negative a ∷ positive b ∷ []) ∷ (positive y ∷ positive a ∷ negative b ∷ []) ∷ []

-- that the gate's variable has its value
abbrev pub gate_clauses : PlantedGate → List (List Literal)
gate_clauses g =
    if g.is_xor then xor_clauses g.output g.left g.right else and_clauses g.output g.left g.right

-- it sees the two universals of its gate
abbrev pub gate_existential : List ℕ → PlantedGate → Existential
gate_existential universals g =
    record { variable = g.output; sees = listed_universals universals (g.left ∷ g.right ∷ []) }

-- universals 1 to n, and gates over them
abbrev pub formula_of_gates : ℕ → ℕ → List PlantedGate → Dqbf
formula_of_gates variables n gates = record {
  variables = variables;
  universals = range_with_len 1 n;
  existentials = map (gate_existential (range_with_len 1 n)) gates;
  matrix = flat_map gate_clauses gates;
}

-- as many gates as are asked for, over one universal more
abbrev pub planted_formula : ℕ → ℕ → Dqbf
planted_formula seed size =
    formula_of_gates (size + 1 + size) (size + 1) (planted_gates seed (size + 1) size)
