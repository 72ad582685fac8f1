-- The grammar: which circuit file a text spells in AIGER's binary form (A. Biere, "The AIGER
-- And-Inverter Graph (AIG) Format", 2007). Header, outputs, symbols and comment are spelled as in the
-- ASCII form; the inputs are the first variables, and gates follow in order.
use Rattle.std.specs.Prelude.{◌≡◌, ℕ, ◌+◌, List, [], ◌∷◌, ◌++◌, length, All, Option, None, Some, codes}
use Rattle.circuit_plain.specs.Netlist.{IsLiteral}
use Rattle.dq_text.specs.Line.{TextLine, lines_from}
use Rattle.aiger_text.specs.Grammar.{line_numbers, output_numbers, SpellsHeader, counts_in, table_of, AreNames, SpellSymbols, IsComment}
use Rattle.aiger_text.specs.Lines.{SymbolLine}
use Rattle.aiger_text.specs.declared.files.ReadCircuit.{ReadCircuit}
use Rattle.aig_binary.specs.Gates.{SpellsGates}
use Rattle.aig_binary.specs.Scan.{first_variables}

-- the bytes begin with a line that spells this output
pub record SpellsOutput (number : ℕ) (bytes : List ℕ) (output : ℕ) : Type 0 where
  pub line : TextLine
  pub others : List TextLine
  pub lines : lines_from number bytes ≡ line ∷ others
  pub spelled : line_numbers line ≡ output_numbers output

-- a line for each output, and then these bytes
abbrev pub SpellsOutputs : ℕ → List ℕ → List ℕ → List ℕ → Type 0
SpellsOutputs number bytes [] behind = bytes ≡ behind
SpellsOutputs number bytes (output ∷ outputs) behind =
    (first : SpellsOutput number bytes output)
    × SpellsOutputs (number + 1) first.line.behind outputs behind

-- nothing more, or the line `c`, the comment, and the number of the line that begins it
abbrev pub EndsOn : List TextLine → Option (List ℕ) → Option ℕ → Type 0
EndsOn [] None None = Unit {0}
EndsOn (line ∷ _) (Some comment) (Some number) =
    IsComment line comment × (number ≡ line.number + 1)
EndsOn _ _ _ = ⊥

-- The first line, of this number, is the header; a line for each output follows, then the gates'
-- bytes, and then lines again. Each variable is an input or a gate.
pub record SpellsBinary (text : List ℕ) (first : ℕ) (read : ReadCircuit) : Type 0 where
  pub header_line : TextLine
  pub other_lines : List TextLine
  pub binary : List ℕ
  pub code : List ℕ
  pub behind : List ℕ
  pub symbol_lines : List TextLine
  pub comment_lines : List TextLine
  pub symbols : List SymbolLine
  pub lines : lines_from first text ≡ header_line ∷ other_lines
  pub header : SpellsHeader (codes "aig") header_line.text (counts_in read.file.circuit)
  pub all_defined : read.file.circuit.max_var
      ≡ length read.file.circuit.inputs + length read.file.circuit.gates
  pub inputs : read.file.circuit.inputs ≡ first_variables (length read.file.circuit.inputs)
  pub outputs : SpellsOutputs (first + 1) header_line.behind read.file.circuit.outputs binary
  pub in_range : All (IsLiteral read.file.circuit.max_var) read.file.circuit.outputs
  pub parted : binary ≡ code ++ behind
  pub gates : SpellsGates (length read.file.circuit.inputs + 1) code read.file.circuit.gates
  pub lines_behind : lines_from (first + 1 + length read.file.circuit.outputs + 1) behind
      ≡ symbol_lines ++ comment_lines
  pub symbols_spelled : SpellSymbols symbol_lines symbols
  pub comment : EndsOn comment_lines read.file.comment read.comment_line
  pub table : read.file.symbols ≡ table_of symbols
  pub input_names : AreNames (length read.file.circuit.inputs) read.file.symbols.inputs
  pub output_names : AreNames (length read.file.circuit.outputs) read.file.symbols.outputs
