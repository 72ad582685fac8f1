-- The canonical text of a circuit file that some text can spell spells it.
use Rattle.std.proofs.Common.{◌≡◌, ℕ, List, ◌∷◌, ◌++◌, map, ◌∙◌, ap, append_assoc, arith}
use Rattle.dq_text.specs.Line.{TextLine, lines_from}
use Rattle.aiger_text.specs.Canonical.{comment_text, canonical_circuit}
use Rattle.aiger_text.specs.Grammar.{SpellsCircuit}
use Rattle.aiger_text.specs.Spellable.{IsSpellable}
use Rattle.aiger_text.specs.declared.files.AagFile.{AagFile}
use Rattle.aiger_text.proofs.WrittenLines.{joined_lines, lines_before, number_after, one_line, joined_are, numbers_of_lines}
use Rattle.aiger_text.proofs.WrittenNetlist.{header_words, header_is_line, header_no_feed, header_spells, netlist_texts, netlist_joined, netlist_read, netlist_no_feed}
use Rattle.aiger_text.proofs.WrittenSymbols.{symbols_at, symbol_line_text, symbols_joined, symbols_spell, symbols_no_feed, symbols_writable, table_is, comment_ends}

-- the texts of the lines behind the header
abbrev symbol_texts : AagFile → List (List ℕ)
symbol_texts file = map symbol_line_text (symbols_at file.symbols.inputs file.symbols.outputs)

abbrev behind_netlist : AagFile → List ℕ
behind_netlist file = joined_lines (symbol_texts file) ++ comment_text file.comment

abbrev behind_header : AagFile → List ℕ
behind_header file = joined_lines (netlist_texts file.circuit) ++ behind_netlist file

canonical_is : (file : AagFile) → canonical_circuit file ≡ header_words file.circuit ++ 10 ∷ behind_header file
canonical_is file = search (arith, header_is_line, netlist_joined, symbols_joined, append_assoc)

lines_are : (file : AagFile) (is : IsSpellable file) →
    let after = number_after 2 (netlist_texts file.circuit) in
    let end = number_after after (symbol_texts file) in
    lines_from 1 (canonical_circuit file)
    ≡ record { text = header_words file.circuit; number = 1; behind = behind_header file }
    ∷ (lines_before 2 (netlist_texts file.circuit) (behind_netlist file)
    ++ (lines_before after (symbol_texts file) (comment_text file.comment) ++ lines_from end
    (comment_text file.comment)))
lines_are file is =
    let after = number_after 2 (netlist_texts file.circuit) in
    let header : TextLine = record { text = header_words file.circuit; number = 1; behind = behind_header file } in
    ap (lines_from 1) (canonical_is file)
    ∙ one_line 1 (header_words file.circuit) (behind_header file) (header_no_feed file is)
    ∙ ap (λ lines. header ∷ lines) (joined_are 2 (netlist_texts file.circuit) (behind_netlist file)
    (netlist_no_feed file.circuit is.lawful is.few_variables)
    ∙ ap (λ lines. lines_before 2 (netlist_texts file.circuit) (behind_netlist file) ++ lines)
    (joined_are after (symbol_texts file) (comment_text file.comment)
    (symbols_no_feed (symbols_at file.symbols.inputs file.symbols.outputs) (symbols_writable file is))))

pub canonical_spells : (file : AagFile) → IsSpellable file → SpellsCircuit (canonical_circuit file) file
canonical_spells file is =
    let after = number_after 2 (netlist_texts file.circuit) in
    let symbols = symbols_at file.symbols.inputs file.symbols.outputs in
    record {
      header_line = record { text = header_words file.circuit; number = 1; behind = behind_header file };
      netlist_lines = lines_before 2 (netlist_texts file.circuit) (behind_netlist file);
      symbol_lines = lines_before after (symbol_texts file) (comment_text file.comment);
      comment_lines = lines_from (number_after after (symbol_texts file)) (comment_text file.comment);
      symbols = symbols;
      lines = lines_are file is;
      header = header_spells file is;
      netlist = numbers_of_lines 2 (netlist_texts file.circuit) (behind_netlist file)
          ∙ netlist_read file.circuit is.lawful is.few_variables;
      symbols_spelled = symbols_spell after symbols (comment_text file.comment) (symbols_writable file is);
      comment = comment_ends (number_after after (symbol_texts file)) file.comment;
      lawful = is.lawful;
      outputs_mean = is.outputs_mean;
      gates_mean = is.gates_mean;
      acyclic = is.acyclic;
      table = table_is file.symbols;
      input_names = is.input_names;
      output_names = is.output_names;
    }
