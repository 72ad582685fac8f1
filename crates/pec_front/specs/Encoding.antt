-- The formula of a partial design: it is true exactly where some functions fit (K. Gitina, S.
-- Reimer, M. Sauer, R. Wimmer, C. Scholl, B. Becker, "Equivalence checking of partial designs using
-- dependency quantified Boolean formulae", ICCD 2013).
use Rattle.std.specs.Prelude.{ℕ, zero, suc, ◌+◌, ◌-◌, ◌*◌, ◌%◌, ◌==◌, nat_lt, List, [], ◌∷◌, ◌++◌, map, length, slice_index, if◌then◌else◌}
use Rattle.std.specs.List.{list_any, filter_map, flat_map, position_or_len, range_with_len}
use Rattle.std.specs.Option.{option_map}
use Rattle.dq_lits.specs.Formula.{Existential, Dqbf}
use Rattle.circuit_plain.specs.Netlist.{Netlist, literal_variable}
use Rattle.circuit_plain.specs.declared.circuits.Gate.{Gate}
use Rattle.cert_text.specs.NegatedMatrix.{opposite_of, gate_clauses, without_constants}
use Rattle.dqdimacs_reader.specs.Building.{distinct}
use Rattle.pec_front.specs.Boxes.{BlackBox, PartialDesign, signals, inputs_of}

-- how many signals and driven inputs there are
abbrev pub signals_of : PartialDesign → ℕ
signals_of d = length (signals d.boxes)

abbrev pub driven_of : PartialDesign → ℕ
driven_of d = length d.implementation.inputs - inputs_of d

-- Variables are numbered so: the inputs from 1 on, and from these numbers on a copy of each signal,
-- the driven inputs, the gates of the specification, those of the implementation, for each signal
-- whether its copy has its value, and for each pair of outputs whether they agree.
abbrev pub first_copy : PartialDesign → ℕ
first_copy d = 1 + inputs_of d

abbrev pub first_driven : PartialDesign → ℕ
first_driven d = first_copy d + signals_of d

abbrev pub first_specified : PartialDesign → ℕ
first_specified d = first_driven d + driven_of d

abbrev pub first_implemented : PartialDesign → ℕ
first_implemented d = first_specified d + length d.specification.gates

abbrev pub first_same : PartialDesign → ℕ
first_same d = first_implemented d + length d.implementation.gates

abbrev pub first_agree : PartialDesign → ℕ
first_agree d = first_same d + signals_of d

abbrev pub end_of : PartialDesign → ℕ
end_of d = first_agree d + length d.specification.outputs

-- a circuit's variable by a place: an input's, or one behind all inputs by a gate's place
abbrev pub numbered_variable : Netlist → (ℕ → ℕ) → ℕ → ℕ → ℕ
numbered_variable net input first_gate zero = 0
numbered_variable net input first_gate (suc v) =
    if list_any (λ x. x == suc v) net.inputs
    then input (position_or_len (λ x. x == suc v) net.inputs)
    else first_gate + position_or_len (λ g. g.variable == suc v) net.gates

abbrev pub specified_variable : PartialDesign → ℕ → ℕ
specified_variable d = numbered_variable d.specification (λ i. 1 + i) (first_specified d)

abbrev pub implemented_input : PartialDesign → ℕ → ℕ
implemented_input d i =
    if nat_lt i (inputs_of d) then 1 + i else first_driven d + (i - inputs_of d)

abbrev pub implemented_variable : PartialDesign → ℕ → ℕ
implemented_variable d =
    numbered_variable d.implementation (implemented_input d) (first_implemented d)

-- a circuit's literal over the formula's variables
abbrev pub on_number : (ℕ → ℕ) → ℕ → ℕ
on_number number l = 2 * number (literal_variable l) + l % 2

abbrev pub numbered_gate : (ℕ → ℕ) → Gate → Gate
numbered_gate number g = record {
  variable = number g.variable;
  left = on_number number g.left;
  right = on_number number g.right;
}

-- where a variable is true exactly where two literals agree
abbrev pub agreement_clauses : ℕ → ℕ → ℕ → List (List ℕ)
agreement_clauses flag a b =
    (opposite_of (2 * flag) ∷ opposite_of a ∷ b ∷ [])
    ∷ (opposite_of (2 * flag) ∷ a ∷ opposite_of b ∷ [])
    ∷ (2 * flag ∷ a ∷ b ∷ [])
    ∷ (2 * flag ∷ opposite_of a ∷ opposite_of b ∷ [])
    ∷ []

-- each copy with its signal, by number
abbrev pub all_copies : PartialDesign → ℕ → List ℕ → List (List ℕ)
all_copies d i [] = []
all_copies d i (signal ∷ rest) =
    agreement_clauses (first_same d + i) (2 * (first_copy d + i))
    (on_number (implemented_variable d) signal)
    ++ all_copies d (suc i) rest

-- each output of the specification with the implementation's at its place
abbrev pub all_outputs : PartialDesign → ℕ → List ℕ → List (List ℕ)
all_outputs d o [] = []
all_outputs d o (out ∷ rest) =
    agreement_clauses (first_agree d + o) (on_number (specified_variable d) out)
    (on_number (implemented_variable d) (slice_index d.implementation.outputs o))
    ++ all_outputs d (suc o) rest

-- where all copies have their signals' values, this pair of outputs agrees
abbrev pub demand : PartialDesign → ℕ → List ℕ
demand d o =
    2 * (first_agree d + o)
    ∷ map (λ i. opposite_of (2 * (first_same d + i))) (range_with_len 0 (signals_of d))

-- the clauses, over literals as in AIGER
abbrev pub raw_clauses : PartialDesign → List (List ℕ)
raw_clauses d =
    flat_map (λ g. gate_clauses (numbered_gate (specified_variable d) g)) d.specification.gates
    ++ (flat_map (λ g. gate_clauses (numbered_gate (implemented_variable d) g))
    d.implementation.gates
    ++ (all_copies d 0 (signals d.boxes)
    ++ (all_outputs d 0 d.specification.outputs
    ++ map (demand d) (range_with_len 0 (length d.specification.outputs)))))

-- the copies of what the box reads that drives a literal, where copies are numbered from `next` on
abbrev pub copies_for : ℕ → List BlackBox → ℕ → List ℕ
copies_for next [] out = []
copies_for next (box ∷ boxes) out =
    if list_any (λ o. o == out) box.outs then range_with_len next (length box.ins)
    else copies_for (next + length box.ins) boxes out

-- the existential of the driven input at a place of the implementation's inputs
abbrev pub driven_existential : PartialDesign → ℕ → Existential
driven_existential d i = record {
  variable = implemented_input d i;
  sees = copies_for (first_copy d) d.boxes (2 * slice_index d.implementation.inputs i);
}

abbrev pub design_universals : PartialDesign → List ℕ
design_universals d = range_with_len 1 (inputs_of d + signals_of d)

-- the variable sees all
abbrev pub seeing_all : PartialDesign → ℕ → Existential
seeing_all d v = record { variable = v; sees = design_universals d }

abbrev pub design_formula : PartialDesign → Dqbf
design_formula d = record {
  variables = end_of d - 1;
  universals = design_universals d;
  existentials =
      map (driven_existential d) (range_with_len (inputs_of d) (driven_of d))
      ++ map (seeing_all d)
      (range_with_len (first_specified d) (end_of d - first_specified d));
  matrix = filter_map (λ clause. option_map distinct (without_constants clause)) (raw_clauses d);
}
