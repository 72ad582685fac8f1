-- What the grammar spells, the walk over the lines reads.
use Rattle.std.proofs.Common.{◌≡◌, ℕ, ◌+◌, List, ◌++◌, Result, Ok, codes, refl, sym, ◌∙◌, ap}
use Rattle.aiger_text.specs.Grammar.{SpellsCircuit, counts_in}
use Rattle.aiger_text.specs.Scan.{Body, LineFault, behind_header, read_lines, read_body, scan}
use Rattle.aiger_text.specs.declared.files.AagFile.{AagFile}
use Rattle.aiger_text.proofs.FinishedFiles.{finish_from}
use Rattle.aiger_text.proofs.SpelledHeaders.{header_from}
use Rattle.aiger_text.proofs.SpelledNetlist.{body_with, no_symbols, netlist_read}
use Rattle.aiger_text.proofs.SpelledSymbols.{symbols_read, comment_read}

pub spelled_is_read : (text : List ℕ) (file : AagFile) → SpellsCircuit text file → scan text 1 ≡ Ok file
spelled_is_read text file spells =
    let net = file.circuit in
    let h = counts_in net in
    let line = spells.header_line in
    let own = spells.netlist_lines ++ (spells.symbol_lines ++ spells.comment_lines) in
    let next : Body → Result AagFile LineFault = λ b. read_body b own (line.number + 1) in
    let finished = finish_from (body_with line.number h file.symbols net.inputs net.outputs net.gates) file.comment
    spells.outputs_mean spells.gates_mean in
    ap (λ ls. read_lines ls 1) spells.lines
    ∙ ap (λ r. behind_header line.number r next) (header_from (codes "aag") line.text h spells.header)
    ∙ netlist_read net spells.lawful spells.header.few_variables line.number file spells.netlist_lines
    (spells.symbol_lines ++ spells.comment_lines) spells.netlist
    (λ number. symbols_read line.number h net.inputs net.outputs net.gates refl refl refl file file.symbols
    spells.comment_lines spells.input_names spells.output_names
    (λ last. comment_read line.number h net.inputs net.outputs net.gates refl refl refl file file.symbols
    spells.comment_lines file.comment last spells.comment finished)
    spells.symbol_lines spells.symbols no_symbols number (sym spells.table) spells.symbols_spelled)
    (line.number + 1)
