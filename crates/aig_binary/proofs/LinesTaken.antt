-- What lines and bytes do to the reading of a circuit file in the binary form.
use Rattle.std.proofs.Common.{◌≡◌, ◌≢◌, ℕ, suc, ◌+◌, ◌-◌, ◌<◌, Bool, true, false, inl, inr, List, [], ◌∷◌, ◌++◌, length, Option, None, Some, Result, Ok, Err, refl, sym, ◌∙◌, ap, arith, subst, length-append}
use Rattle.std.specs.List.{All}
use Rattle.circuit_plain.specs.Netlist.{Netlist}
use Rattle.dq_text.specs.BlankLine.{is_blank_line}
use Rattle.dq_text.specs.Line.{TextLine, line_tokens, lines_from, IsFirstLine}
use Rattle.aig_binary.proofs.CutLines.{first_of_lines}
use Rattle.aiger_text.specs.Lines.{begins_comment, numbers_of, output_line, symbol_line, symbol_of}
use Rattle.aiger_text.specs.Scan.{LineFault}
use Rattle.aiger_text.specs.ReaderState.{IsNetlistOf, IsTableOf}
use Rattle.aiger_text.specs.Steps.{line_of, StopsAt}
use Rattle.aiger_text.specs.Symbol.{SymbolTable}
use Rattle.aiger_text.specs.declared.faults.AagFault.{AagFault}
use Rattle.aiger_text.specs.declared.faults.AagStop.{AagStop}
use Rattle.aiger_text.specs.declared.faults.AagStop.TheVariants.{Refused, Memory}
use Rattle.aiger_text.specs.declared.faults.LineStop.{LineStop}
use Rattle.aiger_text.specs.declared.faults.LineStop.TheVariants.{Fault, Memory as NoLine}
use Rattle.aiger_text.specs.declared.files.ReadCircuit.{ReadCircuit}
use Rattle.aiger_text.specs.declared.headers.Header.{Header}
use Rattle.aig_binary.specs.Deltas.{and_then}
use Rattle.aig_binary.specs.FilesByLine.{binary_gives, comment_from, gives_at, IsLine, TakesBinary, TakesBytes, TakesText}
use Rattle.aig_binary.specs.MoreGates.{gates_behind, AreTaken}
use Rattle.aig_binary.specs.Scan.{Ending, behind_gates, behind_outputs, binary_line, file_with, first_output, no_symbols, on_line, read_outputs, read_symbols}
use Rattle.aig_binary.specs.declared.files_by_line.AigLines.{AigLines}
use Rattle.aig_binary.specs.declared.files_by_line.Place.TheVariants.{Outputs, Gates, Symbols, Comment}
use Rattle.aig_binary.proofs.SpelledSymbols.{on_blank, on_mark, on_name}
use Rattle.aig_binary.proofs.Steps.{one_output, output_added}

abbrev NoFeed : ℕ → Type 0
NoFeed byte = byte ≢ 10

pub some_behind : (text behind : List ℕ) → text ++ (10 ∷ behind) ≢ []
some_behind [] behind = λ none. cc
some_behind (byte ∷ text) behind = λ none. cc

first_line : (ended : Bool) (text bytes behind : List ℕ) → IsLine text ended bytes behind →
    IsFirstLine bytes text behind
first_line true text bytes behind line = record { parts = inl (line.fed refl); one_line = line.one_line }
first_line false text bytes behind line =
    let last = line.last refl in record { parts = inr (last.1, last.2); one_line = line.one_line }

some_bytes : (ended : Bool) (text bytes behind : List ℕ) → IsLine text ended bytes behind → bytes ≢ []
some_bytes true text bytes behind line = λ none. some_behind text behind (sym (line.fed refl) ∙ none)
some_bytes false text bytes behind line = search arith

pub text_taken : (old new : AigLines) (text : List ℕ) (ended : Bool) (r : Result (Unit {0}) AagStop) →
    All NoFeed text → TakesText old text r new → TakesBinary old text ended r new
text_taken old new text ended (Ok _) free takes = record {
  line = λ bytes behind line.
      takes bytes behind (first_line ended text bytes behind line) (some_bytes ended text bytes behind line);
  end = 10 ∷ [];
  any = λ behind. takes (text ++ (10 ∷ behind)) behind (record { parts = inl refl; one_line = free })
      (some_behind text behind);
}
text_taken old new text ended (Err (Refused line name)) free takes = λ bytes behind line.
    takes bytes behind (first_line ended text bytes behind line) (some_bytes ended text bytes behind line)
text_taken old new text ended (Err Memory) free takes = tt

-- a symbol's line, or another one behind the gates
module _ (h : Header) (net : Netlist) (table : SymbolTable) (number : ℕ) (text bytes behind : List ℕ)
    (first : IsFirstLine bytes text behind) (some : bytes ≢ []) where
  abbrev line : TextLine
  line = line_of text number behind

  abbrev lines : List TextLine
  lines = lines_from (number + 1) behind

  abbrev whole : Ending → Result ReadCircuit LineFault
  whole ending = Ok (file_with h net ending)

  read : read_symbols h table (lines_from number bytes) ≡ read_symbols h table (line ∷ lines)
  read = ap (read_symbols h table) (first_of_lines number bytes text behind first some)

  pub blank_taken : is_blank_line text ≡ true →
      and_then (read_symbols h table (lines_from number bytes)) whole
      ≡ and_then (read_symbols h table lines) whole
  blank_taken blank = ap (λ r. and_then r whole) (read ∙ on_blank h table line lines blank)

  pub mark_taken : is_blank_line text ≡ false → begins_comment text ≡ true →
      and_then (read_symbols h table (lines_from number bytes)) whole
      ≡ Ok (file_with h net (comment_from table behind (number + 1)))
  mark_taken other mark = ap (λ r. and_then r whole) (read ∙ on_mark h table line lines other mark)

  pub name_taken : (made : SymbolTable) → is_blank_line text ≡ false → begins_comment text ≡ false →
      symbol_line h table (symbol_of text) ≡ Ok made →
      and_then (read_symbols h table (lines_from number bytes)) whole
      ≡ and_then (read_symbols h made lines) whole
  name_taken made other symbol is =
      ap (λ r. and_then r whole) (read ∙ on_name h table line lines other symbol
      ∙ ap (λ r. on_line number r (λ more. read_symbols h more lines)) is)

  pub name_refused : (name : AagFault) → is_blank_line text ≡ false → begins_comment text ≡ false →
      symbol_line h table (symbol_of text) ≡ Err name →
      and_then (read_symbols h table (lines_from number bytes)) whole
      ≡ Err (record { line = number; name = name })
  name_refused name other symbol is =
      ap (λ r. and_then r whole) (read ∙ on_name h table line lines other symbol
      ∙ ap (λ r. on_line number r (λ more. read_symbols h more lines)) is)

-- an output's line
module _ (more number : ℕ) (net : Netlist) (text bytes behind : List ℕ) (first : IsFirstLine bytes text behind)
    (some : bytes ≢ []) where
  pub output_taken : (made : Netlist) → output_line net (numbers_of (line_tokens text)) ≡ Ok made →
      read_outputs (suc more) net number bytes ≡ read_outputs more made (number + 1) behind
  output_taken made is =
      one_output more number net made bytes (line_of text number behind) (lines_from (number + 1) behind)
      (first_of_lines number bytes text behind first some) is

  pub output_refused : (name : AagFault) → output_line net (numbers_of (line_tokens text)) ≡ Err name →
      read_outputs (suc more) net number bytes ≡ Err (record { line = number; name = name })
  output_refused name is =
      ap (λ ls. first_output number net ls (λ made rest. read_outputs more made (number + 1) rest))
      (first_of_lines number bytes text behind first some)
      ∙ ap (λ r. on_line number r (λ made. read_outputs more made (number + 1) behind)) is

-- an output's line
module _ (old new : AigLines) (text : List ℕ) (place : old.place ≡ Outputs)
    (below : length old.reader.circuit.outputs < old.reader.header.outputs) where
  abbrev h : Header
  h = old.reader.header

  abbrev net : Netlist
  net = old.reader.circuit

  abbrev from : ℕ → ℕ → Netlist → List ℕ → Result ReadCircuit LineFault
  from more number made bytes =
      and_then (read_outputs more made number bytes) (behind_outputs old.reader.header_line h)

  left_is : h.outputs - length net.outputs ≡ suc (h.outputs - (length net.outputs + 1))
  left_is = omega (arith, below)

  given : (bytes : List ℕ) → binary_gives old bytes
      ≡ from (suc (h.outputs - (length net.outputs + 1))) old.number net bytes
  given bytes = ap (λ p. gives_at p old bytes) place ∙ ap (λ k. from k old.number net bytes) left_is

  pub output_read : new.place ≡ Outputs → new.reader.header ≡ h → new.reader.header_line ≡ old.reader.header_line →
      new.number ≡ old.number + 1 → output_line net (numbers_of (line_tokens text)) ≡ Ok new.reader.circuit →
      TakesText old text (Ok tt) new
  output_read new_place header header_line number read bytes behind first some =
      let made = new.reader.circuit in
      let added = output_added net made (numbers_of (line_tokens text)) read in
      let counted : length made.outputs ≡ length net.outputs + 1 =
      ap (λ (n : Netlist). length n.outputs) added.1 ∙ length-append net.outputs (added.0 ∷ []) in
      let fewer : h.outputs - (length net.outputs + 1) ≡ h.outputs - length made.outputs = omega (arith, counted) in
      given bytes
      ∙ ap (λ r. and_then r (behind_outputs old.reader.header_line h))
      (output_taken (h.outputs - (length net.outputs + 1)) old.number net text bytes behind first some made read)
      ∙ ap (λ k. from k (old.number + 1) made behind) fewer
      ∙ ap (λ n. from (h.outputs - length made.outputs) n made behind) (sym number)
      ∙ ap (λ (g : Header). and_then (read_outputs (g.outputs - length made.outputs) made new.number behind)
      (behind_outputs old.reader.header_line g)) (sym header)
      ∙ ap (λ n. and_then (read_outputs (new.reader.header.outputs - length made.outputs) made new.number behind)
      (behind_outputs n new.reader.header)) (sym header_line)
      ∙ ap (λ p. gives_at p new behind) (sym new_place)

  pub output_stops : (made : Netlist) (stop : LineStop) (answer : AagStop) →
      IsNetlistOf (output_line net (numbers_of (line_tokens text))) (Err stop) made →
      StopsAt old.number stop answer → TakesText old text (Err answer) new
  output_stops made (Fault name) answer read is =
      subst (λ a. TakesText old text (Err a) new) (sym is) (λ bytes behind first some.
      given bytes
      ∙ ap (λ r. and_then r (behind_outputs old.reader.header_line h))
      (output_refused (h.outputs - (length net.outputs + 1)) old.number net text bytes behind first some name read))
  output_stops made NoLine answer read is = subst (λ a. TakesText old text (Err a) new) (sym is) tt

-- a line behind the gates
module _ (old new : AigLines) (text : List ℕ) (place : old.place ≡ Symbols) where
  abbrev behind_all : Header → Netlist → SymbolTable → ℕ → List ℕ → Result ReadCircuit LineFault
  behind_all g made table number bytes =
      and_then (read_symbols g table (lines_from number bytes)) (λ ending. Ok (file_with g made ending))

  there : (bytes : List ℕ) → binary_gives old bytes
      ≡ behind_all old.reader.header old.circuit old.reader.symbols old.number bytes
  there bytes = ap (λ p. gives_at p old bytes) place

  module _ (header : new.reader.header ≡ old.reader.header) (same : new.circuit ≡ old.circuit)
      (number : new.number ≡ old.number + 1) where
    then : new.place ≡ Symbols → (bytes : List ℕ) →
        behind_all old.reader.header old.circuit new.reader.symbols (old.number + 1) bytes ≡ binary_gives new bytes
    then new_place bytes =
        ap (λ n. behind_all old.reader.header old.circuit new.reader.symbols n bytes) (sym number)
        ∙ ap (λ n. behind_all old.reader.header n new.reader.symbols new.number bytes) (sym same)
        ∙ ap (λ g. behind_all g new.circuit new.reader.symbols new.number bytes) (sym header)
        ∙ ap (λ p. gives_at p new bytes) (sym new_place)

    pub blank_read : new.place ≡ Symbols → new.reader.symbols ≡ old.reader.symbols → is_blank_line text ≡ true →
        TakesText old text (Ok tt) new
    blank_read new_place table blank bytes behind first some =
        there bytes
        ∙ blank_taken old.reader.header old.circuit old.reader.symbols old.number text bytes behind first some blank
        ∙ ap (λ t. behind_all old.reader.header old.circuit t (old.number + 1) behind) (sym table)
        ∙ then new_place behind

    pub mark_read : new.place ≡ Comment → new.reader.symbols ≡ old.reader.symbols → is_blank_line text ≡ false →
        begins_comment text ≡ true → TakesText old text (Ok tt) new
    mark_read new_place table other mark bytes behind first some =
        there bytes
        ∙ mark_taken old.reader.header old.circuit old.reader.symbols old.number text bytes behind first some other mark
        ∙ ap (λ n. Ok (file_with old.reader.header old.circuit (comment_from old.reader.symbols behind n))) (sym number)
        ∙ ap (λ t. Ok (file_with old.reader.header old.circuit (comment_from t behind new.number))) (sym table)
        ∙ ap (λ n. Ok (file_with old.reader.header n (comment_from new.reader.symbols behind new.number))) (sym same)
        ∙ ap (λ g. Ok (file_with g new.circuit (comment_from new.reader.symbols behind new.number))) (sym header)
        ∙ ap (λ p. gives_at p new behind) (sym new_place)

    pub name_read : new.place ≡ Symbols → is_blank_line text ≡ false → begins_comment text ≡ false →
        symbol_line old.reader.header old.reader.symbols (symbol_of text) ≡ Ok new.reader.symbols →
        TakesText old text (Ok tt) new
    name_read new_place other symbol read bytes behind first some =
        there bytes
        ∙ name_taken old.reader.header old.circuit old.reader.symbols old.number text bytes behind first some
        new.reader.symbols other symbol read
        ∙ then new_place behind

  pub symbol_stops : (table : SymbolTable) (stop : LineStop) (answer : AagStop) → is_blank_line text ≡ false →
      begins_comment text ≡ false →
      IsTableOf (symbol_line old.reader.header old.reader.symbols (symbol_of text)) (Err stop) table →
      StopsAt old.number stop answer → TakesText old text (Err answer) new
  symbol_stops table (Fault name) answer other symbol read is =
      subst (λ a. TakesText old text (Err a) new) (sym is) (λ bytes behind first some.
      there bytes
      ∙ name_refused old.reader.header old.circuit old.reader.symbols old.number text bytes behind first some name
      other symbol read)
  symbol_stops table NoLine answer other symbol read is = subst (λ a. TakesText old text (Err a) new) (sym is) tt

-- bytes of gates
module _ (old new : AigLines) (bytes : List ℕ) (place : old.place ≡ Gates) (left : Option ℕ) (kept : List ℕ)
    (taken : AreTaken old.reader.header old.circuit old.pending.items bytes (Ok left) new.circuit kept) where
  abbrev by_gates : Header → ℕ → Result (Netlist × List ℕ) AagFault → Result ReadCircuit LineFault
  by_gates g line gates = on_line (binary_line line g) gates (behind_gates line g)

  abbrev waiting_gates : List ℕ → Result (Netlist × List ℕ) AagFault
  waiting_gates behind = gates_behind old.reader.header old.circuit (old.pending.items ++ (bytes ++ behind))

  before : (behind : List ℕ) → binary_gives old (bytes ++ behind)
      ≡ by_gates old.reader.header old.reader.header_line (waiting_gates behind)
  before behind = ap (λ p. gives_at p old (bytes ++ behind)) place

  module _ (header : new.reader.header ≡ old.reader.header)
      (header_line : new.reader.header_line ≡ old.reader.header_line) where
    -- a gate waits for more
    pub some_bytes_read : left ≡ None → new.place ≡ Gates → new.pending.items ≡ kept → TakesBytes old bytes (Ok None) new
    some_bytes_read none new_place pending behind = search arith

    -- all gates came
    pub all_bytes_read : (count : ℕ) → left ≡ Some count → new.place ≡ Symbols →
        new.number ≡ binary_line old.reader.header_line old.reader.header + 1 → new.reader.symbols ≡ no_symbols →
        TakesBytes old bytes (Ok (Some count)) new
    all_bytes_read count some new_place number table = search arith
