-- A line of a comment that states a box: `K L in1 .. inK out1 .. outL`, in AIGER's literals.
use Rattle.std.specs.Prelude.{ℕ, ◌+◌, ◌%◌, ◌^◌, ◌==◌, nat_lt, Bool, ◌&&◌, List, [], ◌∷◌, ◌++◌, length, take, drop, slice_index, Option, None, Some, if◌then◌else◌}
use Rattle.std.specs.List.{list_all}
use Rattle.std.specs.Option.{option_map, option_and_then}
use Rattle.circuit_plain.specs.Netlist.{Netlist, gate_variables, literal_variable}
use Rattle.dq_text.specs.Number.{natural_of}
use Rattle.number_tables.specs.Numbers.{has_number}
use Rattle.pec_front.specs.Boxes.{BlackBox}
use Rattle.pec_front.specs.declared.wires.Wires.{Wires}

-- a token as a natural number below 10^18
abbrev pub small_number : List ℕ → Option ℕ
small_number token =
    option_and_then (λ n. if nat_lt n (10 ^ 18) then Some n else None) (natural_of token)

-- the numbers of tokens, if all are such
abbrev pub small_numbers : List (List ℕ) → Option (List ℕ)
small_numbers [] = Some []
small_numbers (token ∷ tokens) =
    option_and_then (λ n. option_map (λ ns. n ∷ ns) (small_numbers tokens)) (small_number token)

-- how many literals the box reads, how many it drives, and these literals
abbrev pub counts_fit : List ℕ → Bool
counts_fit ns = length ns == 2 + (slice_index ns 0 + slice_index ns 1)

abbrev pub box_of : List ℕ → Option BlackBox
box_of ns =
    if counts_fit ns
    then Some (record {
      ins = take (slice_index ns 0) (drop 2 ns);
      outs = drop (slice_index ns 0) (drop 2 ns);
    })
    else None

-- a circuit's inputs, and behind them its gates
abbrev pub variables_of : Netlist → List ℕ
variables_of net = net.inputs ++ gate_variables net

-- a literal of an input or of a gate
abbrev pub is_signal : Wires → ℕ → Bool
is_signal wires l = has_number wires.variables (literal_variable l)

-- the positive literal of an input that the specification doesn't have
abbrev pub is_further : Wires → ℕ → Bool
is_further wires l = (l % 2 == 0) && has_number wires.further (literal_variable l)

abbrev pub is_box : Wires → BlackBox → Bool
is_box wires box = list_all (is_signal wires) box.ins && list_all (is_further wires) box.outs

abbrev pub admitted : Wires → Option BlackBox → Option BlackBox
admitted wires found =
    option_and_then (λ box. if is_box wires box then Some box else None) found

-- the box of a line's tokens
abbrev pub box_line : Wires → List (List ℕ) → Option BlackBox
box_line wires tokens = admitted wires (option_and_then box_of (small_numbers tokens))
