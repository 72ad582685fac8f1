-- The grammar: which circuit file a text spells, in the combinational part of ASCII AIGER (A.
-- Biere, K. Heljanko, S. Wieringa, "AIGER 1.9 And Beyond", FMV report 11/2, 2011). Numbers may
-- stand between any spaces, tabs and CRs, and blank lines among the symbols.
use Rattle.std.specs.Prelude.{◌≡◌, ◌≢◌, ℕ, ◌+◌, ◌*◌, ◌<◌, ◌≤◌, ◌⊎◌, Bool, true, false, not, pos, List, [], ◌∷◌, ◌++◌, map, filter, replicate, length, All, AllPairs, Option, None, Some, codes}
use Rattle.std.specs.Char.{is_ascii_digit}
use Rattle.std.specs.List.{AllZip, list_all}
use Rattle.circuit_plain.specs.Netlist.{Netlist, IsNetlist, IsDefined, literal_variable}
use Rattle.circuit_plain.specs.declared.circuits.Gate.{Gate}
use Rattle.dq_text.specs.Line.{TextLine, line_tokens, lines_from}
use Rattle.dq_text.specs.Number.{number_of}
use Rattle.dq_text.specs.declared.numbers.Number.{Number}
use Rattle.dq_text.specs.declared.numbers.Number.TheVariants.{Int}
use Rattle.dq_text.specs.BlankLine.{is_blank_line}
use Rattle.aiger_text.specs.Lines.{SymbolLine, max_count, without_end_crs}
use Rattle.aiger_text.specs.Scan.{AllGrounded}
use Rattle.aiger_text.specs.Symbol.{SymbolTable}
use Rattle.aiger_text.specs.declared.files.AagFile.{AagFile}
use Rattle.aiger_text.specs.declared.headers.Header.{Header}

-- these natural numbers
abbrev pub naturals : List ℕ → List Number
naturals ns = map (λ n. Int (pos n)) ns

-- what the tokens of a line are as numbers
abbrev pub line_numbers : TextLine → List Number
line_numbers line = map number_of (line_tokens line.text)

-- variable v is written as its positive literal 2v
abbrev pub input_numbers : ℕ → List Number
input_numbers v = naturals (2 * v ∷ [])

abbrev pub output_numbers : ℕ → List Number
output_numbers l = naturals (l ∷ [])

abbrev pub gate_numbers : Gate → List Number
gate_numbers g = naturals (2 * g.variable ∷ g.left ∷ g.right ∷ [])

-- a line for each input, then for each output, then for each gate
abbrev pub netlist_numbers : Netlist → List (List Number)
netlist_numbers net =
    map input_numbers net.inputs ++ (map output_numbers net.outputs ++ map gate_numbers net.gates)

-- `aag M I L O A` with no latch, and at most four zeros for the sections B C J F of AIGER 1.9, where
-- `aag` is the word of the form. No count passes the limit: the inputs and the gates are variables,
-- of which there are M.
pub record SpellsHeader (form text : List ℕ) (h : Header) : Type 0 where
  pub zeros : ℕ
  pub tokens : List (List ℕ)
  pub word : line_tokens text ≡ form ∷ tokens
  pub numbers : map number_of tokens
      ≡ naturals (h.max_var ∷ h.inputs ∷ 0 ∷ h.outputs ∷ h.gates ∷ replicate zeros 0)
  pub few_sections : zeros ≤ 4
  pub enough : h.inputs + h.gates ≤ h.max_var
  pub few_variables : h.max_var ≤ max_count
  pub few_outputs : h.outputs ≤ max_count

abbrev pub counts_in : Netlist → Header
counts_in net =
    record {
      max_var = net.max_var;
      inputs = length net.inputs;
      outputs = length net.outputs;
      gates = length net.gates;
    }

-- a literal of the constant, of an input or of a gate
abbrev pub HasMeaning : Netlist → ℕ → Type 0
HasMeaning net l = (literal_variable l ≡ 0) ⊎ IsDefined net (literal_variable l)

-- the names of the inputs or those of the outputs, in order
abbrev pub names : (SymbolLine → Bool) → List SymbolLine → List (ℕ × List ℕ)
names of_kind symbols = map (λ s. (s.place, s.name)) (filter of_kind symbols)

abbrev pub table_of : List SymbolLine → SymbolTable
table_of symbols =
    record {
      inputs = names (λ s. s.of_input) symbols;
      outputs = names (λ s. not s.of_input) symbols;
    }

-- each name at a place below the count, and no place twice
pub record AreNames (count : ℕ) (symbols : List (ℕ × List ℕ)) : Type 0 where
  pub placed : All (λ symbol. symbol.0 < count) symbols
  pub once : AllPairs (λ a b. a.0 ≢ b.0) symbols

abbrev pub letter_of : Bool → ℕ
letter_of true = 105
letter_of false = 111

-- `i` or `o`, a place in digits, a space or a tab, and a name, which ends before any CRs at the
-- line's end
pub record SpellsSymbol (text : List ℕ) (s : SymbolLine) : Type 0 where
  pub digits : List ℕ
  pub separator : ℕ
  pub rest : List ℕ
  pub spelling : text ≡ letter_of s.of_input ∷ (digits ++ (separator ∷ rest))
  pub are_digits : list_all is_ascii_digit digits ≡ true
  pub place : number_of digits ≡ Int (pos s.place)
  pub separated : (separator ≡ 32) ⊎ (separator ≡ 9)
  pub name : s.name ≡ without_end_crs rest
  pub named : 1 ≤ length s.name

-- the lines that aren't blank are these symbols, in order
abbrev pub SpellSymbols : List TextLine → List SymbolLine → Type 0
SpellSymbols lines symbols =
    AllZip (λ line s. SpellsSymbol line.text s)
    (filter (λ line. not (is_blank_line line.text)) lines) symbols

-- a line that is `c` and blanks; the comment is what stands behind it
pub record IsComment (line : TextLine) (comment : List ℕ) : Type 0 where
  pub blanks : List ℕ
  pub mark : line.text ≡ 99 ∷ blanks
  pub blank : is_blank_line blanks ≡ true
  pub behind : comment ≡ line.behind

abbrev pub EndsWith : List TextLine → Option (List ℕ) → Type 0
EndsWith [] None = Unit {0}
EndsWith [] (Some comment) = ⊥
EndsWith (line ∷ _) None = ⊥
EndsWith (line ∷ _) (Some comment) = IsComment line comment

-- The lines are the header, those of the netlist, then symbols and blank lines, then nothing more
-- or the comment. Numbers are in range, no variable is an input or a gate twice, every literal that
-- an output or a gate reads has a meaning, and no gate depends on itself. The names are those of
-- the symbols.
pub record SpellsCircuit (text : List ℕ) (file : AagFile) : Type 0 where
  pub header_line : TextLine
  pub netlist_lines : List TextLine
  pub symbol_lines : List TextLine
  pub comment_lines : List TextLine
  pub symbols : List SymbolLine
  pub lines : lines_from 1 text ≡ header_line ∷ (netlist_lines ++ (symbol_lines ++ comment_lines))
  pub header : SpellsHeader (codes "aag") header_line.text (counts_in file.circuit)
  pub netlist : map line_numbers netlist_lines ≡ netlist_numbers file.circuit
  pub symbols_spelled : SpellSymbols symbol_lines symbols
  pub comment : EndsWith comment_lines file.comment
  pub lawful : IsNetlist file.circuit
  pub outputs_mean : All (HasMeaning file.circuit) file.circuit.outputs
  pub gates_mean : All (λ g. HasMeaning file.circuit g.left × HasMeaning file.circuit g.right)
      file.circuit.gates
  pub acyclic : AllGrounded file.circuit
  pub table : file.symbols ≡ table_of symbols
  pub input_names : AreNames (length file.circuit.inputs) file.symbols.inputs
  pub output_names : AreNames (length file.circuit.outputs) file.symbols.outputs
