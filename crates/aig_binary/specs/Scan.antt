-- The first fault of a circuit file in binary AIGER, or the file and the line on which its comment
-- begins. The binary part counts as one line, whatever bytes it has.
use Rattle.std.specs.Prelude.{ℕ, zero, suc, ◌+◌, ◌==◌, List, [], ◌∷◌, Option, None, Some, Result, Ok, Err, codes, if◌then◌else◌}
use Rattle.std.specs.List.{range_with_len}
use Rattle.circuit_plain.specs.Netlist.{Netlist}
use Rattle.dq_text.specs.BlankLine.{is_blank_line}
use Rattle.dq_text.specs.Line.{TextLine, line_tokens, lines_from}
use Rattle.aiger_text.specs.Lines.{header_behind, numbers_of, output_line, symbol_of, symbol_line, begins_comment}
use Rattle.aiger_text.specs.Scan.{LineFault}
use Rattle.aiger_text.specs.Symbol.{SymbolTable}
use Rattle.aiger_text.specs.declared.faults.AagFault.{AagFault}
use Rattle.aiger_text.specs.declared.faults.AagFault.TheVariants.{BadHeader, Truncated}
use Rattle.aiger_text.specs.declared.files.ReadCircuit.{ReadCircuit}
use Rattle.aiger_text.specs.declared.headers.Header.{Header}
use Rattle.aig_binary.specs.Deltas.{and_then}
use Rattle.aig_binary.specs.Gates.{read_gates}

-- what a line with this number gives
abbrev pub on_line : {A B : Type 0} → ℕ → Result A AagFault → (A → Result B LineFault)
    → Result B LineFault
on_line line (Ok value) next = next value
on_line line (Err name) next = Err (record { line = line; name = name })

-- each variable is an input or a gate
abbrev pub all_defined : Header → Result Header AagFault
all_defined h = if h.max_var == h.inputs + h.gates then Ok h else Err BadHeader

-- the header of the binary form begins with `aig`
abbrev pub binary_header : List (List ℕ) → Result Header AagFault
binary_header tokens = and_then (header_behind (codes "aig") tokens) all_defined

abbrev pub first_output : ℕ → Netlist → List TextLine
    → (Netlist → List ℕ → Result (Netlist × List ℕ) LineFault) → Result (Netlist × List ℕ) LineFault
first_output number net [] next = Err (record { line = number; name = Truncated })
first_output number net (line ∷ _) next =
    on_line number (output_line net (numbers_of (line_tokens line.text)))
    (λ made. next made line.behind)

-- a netlist with so many more outputs, a line for each from this number on, and what stands behind
-- these lines
abbrev pub read_outputs : ℕ → Netlist → ℕ → List ℕ → Result (Netlist × List ℕ) LineFault
read_outputs zero net number bytes = Ok (net, bytes)
read_outputs (suc more) net number bytes =
    first_output number net (lines_from number bytes)
    (λ made behind. read_outputs more made (number + 1) behind)

-- the symbols, the comment, and the line on which it begins
pub record Ending : Type 0 where
  pub symbols : SymbolTable
  pub comment : Option (List ℕ)
  pub comment_line : Option ℕ

-- the lines behind the gates, where these symbols were read
abbrev pub read_symbols : Header → SymbolTable → List TextLine → Result Ending LineFault
read_symbols h table [] =
    Ok (record { symbols = table; comment = None; comment_line = None })
read_symbols h table (line ∷ lines) =
    if is_blank_line line.text then read_symbols h table lines else
    if begins_comment line.text
    then Ok (record {
      symbols = table;
      comment = Some line.behind;
      comment_line = Some (line.number + 1);
    })
    else on_line line.number (symbol_line h table (symbol_of line.text))
    (λ more. read_symbols h more lines)

-- the variables from 1 on
abbrev pub first_variables : ℕ → List ℕ
first_variables n = range_with_len 1 n

abbrev pub no_gates : Header → Netlist
no_gates h = record { max_var = h.max_var; inputs = []; outputs = []; gates = [] }

abbrev pub no_symbols : SymbolTable
no_symbols = record { inputs = []; outputs = [] }

-- the inputs are the first variables
abbrev pub file_with : Header → Netlist → Ending → ReadCircuit
file_with h net ending =
    record {
      file = record {
        circuit = record net { inputs = first_variables h.inputs };
        symbols = ending.symbols;
        comment = ending.comment;
      };
      comment_line = ending.comment_line;
    }

-- the line that the binary part counts as
abbrev pub binary_line : ℕ → Header → ℕ
binary_line first h = first + 1 + h.outputs

abbrev pub behind_gates : ℕ → Header → Netlist × List ℕ → Result ReadCircuit LineFault
behind_gates first h gates =
    and_then (read_symbols h no_symbols (lines_from (binary_line first h + 1) gates.1))
    (λ ending. Ok (file_with h gates.0 ending))

abbrev pub behind_outputs : ℕ → Header → Netlist × List ℕ → Result ReadCircuit LineFault
behind_outputs first h outputs =
    on_line (binary_line first h) (read_gates h.gates (h.inputs + 1) outputs.0 outputs.1)
    (behind_gates first h)

abbrev pub behind_header : ℕ → List ℕ → Header → Result ReadCircuit LineFault
behind_header first bytes h =
    and_then (read_outputs h.outputs (no_gates h) (first + 1) bytes) (behind_outputs first h)

abbrev pub scan_lines : ℕ → List TextLine → Result ReadCircuit LineFault
scan_lines first [] = Err (record { line = first; name = BadHeader })
scan_lines first (line ∷ _) =
    on_line first (binary_header (line_tokens line.text)) (behind_header first line.behind)

-- the file, or its first fault, where the first line has this number
abbrev pub scan_binary : List ℕ → ℕ → Result ReadCircuit LineFault
scan_binary bytes first = scan_lines first (lines_from first bytes)
