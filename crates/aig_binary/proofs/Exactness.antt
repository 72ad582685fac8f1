-- What the grammar spells is what is scanned.
use Rattle.std.proofs.Common.{◌≡◌, ℕ, ◌+◌, ◌≤◌, ◌==◌, cond, Bool, true, false, List, [], ◌∷◌, ◌++◌, length, Ok, Err, codes, refl, sym, ◌∙◌, ap, arith, subst}
use Rattle.std.proofs.lemmas.Bool.{cond-true, eq-eqb, eqb-true}
use Rattle.std.proofs.lemmas.List.FromFn.{length-range_with_len}
use Rattle.std.proofs.lemmas.List.Elements.{recursion_from_All, All-from_recursion}
use Rattle.circuit_plain.specs.Netlist.{Netlist, IsLiteral}
use Rattle.dq_text.specs.Line.{TextLine, line_tokens, lines_from}
use Rattle.aiger_text.specs.Grammar.{SpellsHeader, counts_in, AreNames}
use Rattle.aiger_text.specs.Lines.{max_count, header_behind}
use Rattle.aiger_text.specs.declared.faults.AagFault.TheVariants.{BadHeader}
use Rattle.aiger_text.specs.declared.files.ReadCircuit.{ReadCircuit}
use Rattle.aiger_text.specs.declared.headers.Header.{Header}
use Rattle.aiger_text.proofs.SpelledHeaders.{header_from, header_is}
use Rattle.aiger_text.proofs.ReadIsSpelled.{no_names}
use Rattle.aig_binary.specs.Deltas.{and_then}
use Rattle.aig_binary.specs.Gates.{read_gates, SpellsGates}
use Rattle.aig_binary.specs.Grammar.{SpellsBinary}
use Rattle.aig_binary.specs.Scan.{Ending, all_defined, binary_header, on_line, read_outputs, read_symbols, first_variables, no_gates, no_symbols, file_with, binary_line, behind_gates, behind_outputs, behind_header, scan_lines, scan_binary}
use Rattle.aig_binary.proofs.SpelledDeltas.{goes_on}
use Rattle.aig_binary.proofs.SpelledGates.{gates_from, gates_are}
use Rattle.aig_binary.proofs.SpelledOutputs.{outputs_from, outputs_are, on_line_goes}
use Rattle.aig_binary.proofs.SpelledSymbols.{symbols_from, ending_from, symbols_are}

pub variables_count : (n : ℕ) → length (first_variables n) ≡ n
variables_count n = length-range_with_len 1 n

header_reads : (text : List ℕ) (h : Header) → SpellsHeader (codes "aig") text h → h.max_var ≡ h.inputs + h.gates →
    binary_header (line_tokens text) ≡ Ok h
header_reads text h spells all =
    ap (λ r. and_then r all_defined) (header_from (codes "aig") text h spells)
    ∙ cond-true (h.max_var == h.inputs + h.gates) (Ok h) (Err BadHeader) (eq-eqb h.max_var (h.inputs + h.gates) all)

-- what the grammar spells is scanned
pub spelled_is_scanned : (text : List ℕ) (first : ℕ) (read : ReadCircuit) → SpellsBinary text first read →
    scan_binary text first ≡ Ok read
spelled_is_scanned text first read s =
    let net = read.file.circuit in
    let h = counts_in net in
    let bytes = s.header_line.behind in
    let ending : Ending = record {
      symbols = read.file.symbols;
      comment = read.file.comment;
      comment_line = read.comment_line;
    } in
    let bare : Netlist = record net { inputs = [] } in
    let behind = lines_from (binary_line first h + 1) s.behind in
    let symbols = symbols_from h ending read.file.symbols s.comment_lines s.input_names s.output_names
    (ending_from h read.file.symbols s.comment_lines read.file.comment read.comment_line s.comment)
    s.symbol_lines s.symbols no_symbols (sym s.table) s.symbols_spelled in
    ap (scan_lines first) s.lines
    ∙ ap (λ r. on_line first r (behind_header first bytes)) (header_reads s.header_line.text h s.header s.all_defined)
    ∙ ap (λ r. and_then r (behind_outputs first h)) (outputs_from net.outputs (no_gates h) (first + 1) bytes s.binary
    s.header.few_variables (recursion_from_All (IsLiteral net.max_var) net.outputs s.in_range) s.outputs)
    ∙ ap (λ bs. on_line (binary_line first h) (read_gates h.gates (h.inputs + 1)
    (record (no_gates h) { outputs = net.outputs }) bs) (behind_gates first h)) s.parted
    ∙ ap (λ r. on_line (binary_line first h) r (behind_gates first h))
    (gates_from net.gates (h.inputs + 1) (record (no_gates h) { outputs = net.outputs }) s.code s.behind s.gates)
    ∙ ap (λ r. and_then r (λ e. Ok (file_with h bare e)))
    (ap (read_symbols h no_symbols) s.lines_behind ∙ symbols)
    ∙ ap (λ is. Ok (record read { file = record read.file { circuit = record net { inputs = is } } })) (sym s.inputs)

header_read_is : (text : List ℕ) (h : Header) → binary_header (line_tokens text) ≡ Ok h →
    SpellsHeader (codes "aig") text h × (h.max_var ≡ h.inputs + h.gates)
header_read_is text h read =
    let on = goes_on (header_behind (codes "aig") (line_tokens text)) all_defined h read in
    let parts = if_ok (on.0.max_var == on.0.inputs + on.0.gates) on.0 h on.2 in (
      subst (SpellsHeader (codes "aig") text) parts.1 (header_is (codes "aig") text on.0 on.1),
      subst (λ (x : Header). x.max_var ≡ x.inputs + x.gates) parts.1
          (eqb-true on.0.max_var (on.0.inputs + on.0.gates) parts.0),
    )
  where
    if_ok : (b : Bool) (x y : Header) → cond b (Ok x) (Err BadHeader) ≡ Ok y → (b ≡ true) × (x ≡ y)
    if_ok true x y h = let same : x ≡ y = cc in (refl, same)
    if_ok false x y h = cc

body_is_spelled : (text : List ℕ) (first : ℕ) (line : TextLine) (others : List TextLine) (h : Header)
    (read : ReadCircuit) → lines_from first text ≡ line ∷ others → SpellsHeader (codes "aig") line.text h →
    h.max_var ≡ h.inputs + h.gates → behind_header first line.behind h ≡ Ok read → SpellsBinary text first read
body_is_spelled text first line others h read lines header all goes =
    let outputs_on = goes_on (read_outputs h.outputs (no_gates h) (first + 1) line.behind) (behind_outputs first h) read
    goes in
    let os = outputs_are h.outputs (first + 1) (no_gates h) outputs_on.0.0 line.behind outputs_on.0.1 outputs_on.1 in
    let bytes = outputs_on.0.1 in
    let gates_on = on_line_goes (binary_line first h) (read_gates h.gates (h.inputs + 1) outputs_on.0.0 bytes)
    (behind_gates first h) read outputs_on.2 in
    let gs = gates_are h.gates (h.inputs + 1) outputs_on.0.0 gates_on.0.0 bytes gates_on.0.1 gates_on.1 in
    let behind = lines_from (binary_line first h + 1) gates_on.0.1 in
    let symbols_on = goes_on (read_symbols h no_symbols behind)
    (λ e. Ok (file_with h gates_on.0.0 e)) read gates_on.2 in
    let ending = symbols_on.0 in
    let few_inputs : h.inputs ≤ max_count = omega (arith, header.enough, header.few_variables) in
    let ss = symbols_are h few_inputs header.few_outputs ending behind no_symbols (no_names h.inputs)
    (no_names h.outputs) symbols_on.1 in
    let net : Netlist = record {
      max_var = h.max_var;
      inputs = first_variables h.inputs;
      outputs = os.outputs;
      gates = gs.gates;
    } in
    let made : gates_on.0.0 ≡ record net { inputs = [] } =
    gs.made_is ∙ ap (λ (n : Netlist). record n { gates = n.gates ++ gs.gates }) os.made_is in
    let made_read : ReadCircuit = record {
      file = record { circuit = net; symbols = ending.symbols; comment = ending.comment };
      comment_line = ending.comment_line;
    } in
    let done : file_with h gates_on.0.0 ending ≡ read = cc in
    let read_is : made_read ≡ read =
    ap (λ (n : Netlist). file_with h n ending) (sym made) ∙ done in
    let inputs_count = variables_count h.inputs in
    let counts : h ≡ counts_in net = sym
    (ap (λ n. record { max_var = h.max_var; inputs = n; outputs = length os.outputs; gates = length gs.gates })
    inputs_count
    ∙ ap (λ n. record { max_var = h.max_var; inputs = h.inputs; outputs = n; gates = length gs.gates }) os.counted
    ∙ ap (λ n. record { max_var = h.max_var; inputs = h.inputs; outputs = h.outputs; gates = n }) gs.counted) in
    subst (SpellsBinary text first) read_is (record {
      header_line = line;
      other_lines = others;
      binary = bytes;
      code = gs.code;
      behind = gates_on.0.1;
      symbol_lines = ss.own;
      comment_lines = ss.rest;
      symbols = ss.symbols;
      lines = lines;
      header = subst (SpellsHeader (codes "aig") line.text) counts header;
      all_defined = subst (λ (x : Header). x.max_var ≡ x.inputs + x.gates) counts all;
      inputs = ap first_variables (sym inputs_count);
      outputs = os.spelled;
      in_range = All-from_recursion (IsLiteral h.max_var) os.outputs os.in_range;
      parted = gs.parted;
      gates = subst (λ k. SpellsGates (k + 1) gs.code gs.gates) (sym inputs_count) gs.spelled;
      lines_behind = ap (λ k. lines_from (first + 1 + k + 1) gates_on.0.1) os.counted ∙ ss.parted;
      symbols_spelled = ss.spelled;
      comment = ss.ends;
      table = sym ss.whole;
      input_names = subst (λ k. AreNames k ending.symbols.inputs) (sym inputs_count) ss.inputs;
      output_names = subst (λ k. AreNames k ending.symbols.outputs) (sym os.counted) ss.outputs;
    })

lines_are_spelled : (text : List ℕ) (first : ℕ) (lines : List TextLine) (read : ReadCircuit) →
    lines_from first text ≡ lines → scan_lines first lines ≡ Ok read → SpellsBinary text first read
lines_are_spelled text first [] read are scanned = cc
lines_are_spelled text first (line ∷ others) read are scanned =
    let on = on_line_goes first (binary_header (line_tokens line.text))
    (behind_header first line.behind) read scanned in
    let header = header_read_is line.text on.0 on.1 in
    body_is_spelled text first line others on.0 read are header.0 header.1 on.2

-- what is scanned the grammar spells
pub scanned_is_spelled : (text : List ℕ) (first : ℕ) (read : ReadCircuit) → scan_binary text first ≡ Ok read →
    SpellsBinary text first read
scanned_is_spelled text first read scanned = lines_are_spelled text first (lines_from first text) read refl scanned
