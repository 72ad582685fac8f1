-- Words of private contracts: a netlist with other numbers for its variables. Without gaps they are
-- numbered as in the binary format of AIGER (A. Biere, "The AIGER And-Inverter Graph (AIG) Format",
-- 2007): the constant, then the inputs, then the gates, here in the order of the file.
use Rattle.std.specs.Prelude.{ℕ, ◌+◌, ◌*◌, ◌%◌, ◌==◌, List, ◌∷◌, ◌++◌, length, map, take, Option, Some, None}
use Rattle.std.specs.List.{position_or_len}
use Rattle.circuit_plain.specs.declared.circuits.Gate.{Gate}
use Rattle.circuit_plain.specs.Netlist.{Netlist, literal_variable, gate_variables}

-- the literal of the renamed variable, with its sign
abbrev pub renamed_literal : (ℕ → ℕ) → ℕ → ℕ
renamed_literal name l = 2 * name (literal_variable l) + l % 2

abbrev pub renamed_gate : (ℕ → ℕ) → Gate → Gate
renamed_gate name g = record {
  variable = name g.variable;
  left = renamed_literal name g.left;
  right = renamed_literal name g.right;
}

-- the netlist with each variable renamed
abbrev pub renamed : (ℕ → ℕ) → ℕ → Netlist → Netlist
renamed name max_var net = record {
  max_var = max_var;
  inputs = map name net.inputs;
  outputs = map (renamed_literal name) net.outputs;
  gates = map (renamed_gate name) net.gates;
}

-- the constant, the inputs and the gates
abbrev pub known_variables : Netlist → List ℕ
known_variables net = 0 ∷ (net.inputs ++ gate_variables net)

-- the place of a variable among them
abbrev pub number_in : List ℕ → ℕ → ℕ
number_in known v = position_or_len (λ u. u == v) known

abbrev pub dense_number : Netlist → ℕ → ℕ
dense_number net v = number_in (known_variables net) v

-- a netlist's first inputs, gates and outputs, renumbered
abbrev pub renumbered_first : Netlist → ℕ → ℕ → ℕ → Netlist
renumbered_first net inputs gates outputs =
    renamed (dense_number net) (length net.inputs + length net.gates)
    (record net {
      inputs = take inputs net.inputs;
      gates = take gates net.gates;
      outputs = take outputs net.outputs;
    })

-- the netlist with the least numbers
abbrev pub renumbered : Netlist → Netlist
renumbered net = renamed (dense_number net) (length net.inputs + length net.gates) net

-- the copy of a netlist, or where there is none itself
abbrev pub copy_or : Option Netlist → Netlist → Netlist
copy_or (Some copy) _ = copy
copy_or None net = net
