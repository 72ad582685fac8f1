-- The canonical text of a circuit file: one space between tokens, and LF at the end of each line
-- but for the comment's.
use Rattle.std.specs.Prelude.{ℕ, ◌*◌, List, [], ◌∷◌, ◌++◌, length, Option, None, Some, codes}
use Rattle.std.specs.List.{flat_map}
use Rattle.circuit_plain.specs.Netlist.{Netlist}
use Rattle.circuit_plain.specs.declared.circuits.Gate.{Gate}
use Rattle.dq_text.specs.Written.{number_text, number_line}
use Rattle.aiger_text.specs.declared.files.AagFile.{AagFile}

-- `M I 0 O A`
abbrev pub counts_text : Netlist → List ℕ
counts_text net =
    number_text net.max_var ++ (number_text (length net.inputs)
    ++ (codes "0 " ++ (number_text (length net.outputs) ++ number_line (length net.gates))))

-- `aag M I 0 O A`
abbrev pub header_text : Netlist → List ℕ
header_text net = codes "aag " ++ counts_text net

-- variable v is written as its positive literal 2v
abbrev pub input_text : ℕ → List ℕ
input_text v = number_line (2 * v)

abbrev pub gate_text : Gate → List ℕ
gate_text g = number_text (2 * g.variable) ++ (number_text g.left ++ number_line g.right)

-- `i` or `o`, the place, and the name
abbrev pub symbol_text : ℕ → ℕ × List ℕ → List ℕ
symbol_text letter symbol = letter ∷ (number_text symbol.0 ++ (symbol.1 ++ 10 ∷ []))

-- `c` on its line, and the comment as it stands
abbrev pub comment_text : Option (List ℕ) → List ℕ
comment_text None = []
comment_text (Some comment) = 99 ∷ 10 ∷ comment

abbrev pub netlist_text : Netlist → List ℕ
netlist_text net =
    flat_map input_text net.inputs
    ++ (flat_map number_line net.outputs ++ flat_map gate_text net.gates)

-- a line for each symbol of an input and then of an output, in the file's order, and the comment
abbrev pub ending_text : AagFile → List ℕ
ending_text file =
    flat_map (symbol_text 105) file.symbols.inputs
    ++ (flat_map (symbol_text 111) file.symbols.outputs ++ comment_text file.comment)

-- the header, a line for each input, output and gate, and the ending
abbrev pub canonical_circuit : AagFile → List ℕ
canonical_circuit file =
    header_text file.circuit ++ (netlist_text file.circuit ++ ending_text file)
