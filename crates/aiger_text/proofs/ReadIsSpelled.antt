-- What the walk over the lines reads, the grammar spells.
use Rattle.std.proofs.Common.{◌≡◌, ℕ, ◌+◌, ◌≤◌, List, [], ◌∷◌, ◌++◌, Result, Ok, Err, refl, sym, ◌∙◌, ap, arith, subst, append_assoc, codes}
use Rattle.std.proofs.lemmas.List.{map-append}
use Rattle.circuit_plain.specs.Netlist.{Netlist, IsNetlist}
use Rattle.dq_text.specs.Line.{TextLine, line_tokens, lines_from}
use Rattle.aiger_text.specs.Grammar.{SpellsHeader, counts_in, AreNames, SpellsCircuit}
use Rattle.aiger_text.specs.Lines.{max_count, header_of}
use Rattle.aiger_text.specs.Scan.{Body, LineFault, start, behind_header, read_lines, read_body, scan, AllGrounded}
use Rattle.aiger_text.specs.declared.headers.Header.{Header}
use Rattle.aiger_text.specs.declared.files.AagFile.{AagFile}
use Rattle.aiger_text.specs.declared.faults.AagFault.{AagFault}
use Rattle.aiger_text.proofs.FinishedFiles.{finish_is}
use Rattle.aiger_text.proofs.SpelledHeaders.{header_is}
use Rattle.aiger_text.proofs.ReadNetlist.{inputs_spelled, outputs_spelled, gates_spelled}
use Rattle.aiger_text.proofs.ReadSymbols.{symbols_spelled}
use Rattle.aiger_text.proofs.SpelledNetlist.{no_symbols, body_with}

no_netlist : (h : Header) → h.max_var ≤ max_count → IsNetlist
    (record { max_var = h.max_var; inputs = []; outputs = []; gates = [] })
no_netlist h few = search arith

pub no_names : (count : ℕ) → AreNames count []
no_names count = search arith

header_goes_on : (line : ℕ) (r : Result Header AagFault) (next : Body → Result AagFile LineFault) (file : AagFile) →
    behind_header line r next ≡ Ok file →
    (h : Header) × (r ≡ Ok h) × (next (start line h) ≡ Ok file)
header_goes_on line (Ok h) next file read = (h, refl, read)
header_goes_on line (Err name) next file read = cc

body_is_spelled : (text : List ℕ) (line : TextLine) (lines : List TextLine) (h : Header) (number : ℕ) (file : AagFile) →
    lines_from 1 text ≡ line ∷ lines → SpellsHeader (codes "aag") line.text h →
    read_body (start line.number h) lines number ≡ Ok file → AllGrounded file.circuit → SpellsCircuit text file
body_is_spelled text line lines h number file are header read acyclic =
    let inputs = inputs_spelled line.number h file lines number (no_netlist h header.few_variables) read in
    let is = inputs.all in
    let outputs = outputs_spelled line.number h file is inputs.counted inputs.rest inputs.number inputs.kept
    inputs.read in
    let os = outputs.all in
    let gates = gates_spelled line.number h file is inputs.counted os outputs.counted outputs.rest outputs.number
    outputs.kept outputs.read in
    let gs = gates.all in
    let few_inputs : h.inputs ≤ max_count = omega (arith, header.enough, header.few_variables) in
    let symbols = symbols_spelled line.number h is os gs inputs.counted outputs.counted gates.counted few_inputs
    header.few_outputs file gates.rest no_symbols gates.number
    (no_names h.inputs) (no_names h.outputs) gates.read in
    let net : Netlist = record { max_var = h.max_var; inputs = is; outputs = os; gates = gs } in
    let body = body_with line.number h symbols.table is os gs in
    let done = finish_is body symbols.comment file symbols.finished in
    let counts : h ≡ counts_in net = search arith in
    subst (SpellsCircuit text) (sym done.file_is) (record {
      header_line = line;
      netlist_lines = inputs.own ++ (outputs.own ++ gates.own);
      symbol_lines = symbols.own;
      comment_lines = symbols.rest;
      symbols = symbols.symbols;
      lines = are ∙ ap (λ ls. line ∷ ls) (parted inputs.own outputs.own gates.own
          (symbols.own ++ symbols.rest) lines inputs.rest outputs.rest gates.rest inputs.parted outputs.parted
          gates.parted symbols.parted);
      header = subst (SpellsHeader (codes "aag") line.text) counts header;
      netlist = search (arith, map-append);
      symbols_spelled = symbols.spelled;
      comment = symbols.ends;
      lawful = gates.kept;
      outputs_mean = done.outputs_mean;
      gates_mean = done.gates_mean;
      acyclic = subst (λ (f : AagFile). AllGrounded f.circuit) done.file_is acyclic;
      table = sym symbols.whole;
      input_names = subst (λ n. AreNames n symbols.table.inputs) (sym inputs.counted) symbols.inputs;
      output_names = subst (λ n. AreNames n symbols.table.outputs) (sym outputs.counted) symbols.outputs;
    })
  where
    parted : (a b c d lines after_a after_b after_c : List TextLine) → lines ≡ a ++ after_a → after_a ≡ b ++ after_b →
        after_b ≡ c ++ after_c → after_c ≡ d →
        lines ≡ (a ++ (b ++ c)) ++ d
    parted a b c d lines after_a after_b after_c one two three four =
        one ∙ ap (λ ls. a ++ ls) (two ∙ ap (λ ls. b ++ ls) (three ∙ ap (λ ls. c ++ ls) four) ∙ sym (append_assoc b c d))
        ∙ sym (append_assoc a (b ++ c) d)

lines_are_spelled : (text : List ℕ) (lines : List TextLine) (file : AagFile) → lines_from 1 text ≡ lines →
    read_lines lines 1 ≡ Ok file → AllGrounded file.circuit → SpellsCircuit text file
lines_are_spelled text [] file are read acyclic = cc
lines_are_spelled text (line ∷ lines) file are read acyclic =
    let on = header_goes_on line.number (header_of (line_tokens line.text))
    (λ b. read_body b lines (line.number + 1)) file read in
    body_is_spelled text line lines on.0 (line.number + 1) file are
    (header_is (codes "aag") line.text on.0 on.1) on.2 acyclic

pub read_is_spelled : (text : List ℕ) (file : AagFile) → scan text 1 ≡ Ok file → AllGrounded file.circuit →
    SpellsCircuit text file
read_is_spelled text file read acyclic = lines_are_spelled text (lines_from 1 text) file refl read acyclic
