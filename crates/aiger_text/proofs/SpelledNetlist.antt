-- The lines of inputs, outputs and gates that the grammar spells are read.
use Rattle.std.proofs.Common.{◌≡◌, ◌≢◌, ℕ, ◌+◌, ◌*◌, ◌/◌, ◌^◌, ◌<◌, ◌≤◌, ◌==◌, nat_lt, nat_le, get_or, true, false, ◌&&◌, List, [], ◌∷◌, ◌++◌, length, map, Contains, Result, Ok, refl, sym, ◌∙◌, ap, arith, append-nil, length-append}
use Rattle.std.specs.List.{list_any, AllPairs}
use Rattle.std.proofs.lemmas.Bool.{and_from, or_from, lt-ltb, le-ltb, le-leb, lt-leb, eq-eqb, ne_eqb, cond-true, cond-false}
use Rattle.std.proofs.lemmas.List.{get_or_at, get_or_append_left}
use Rattle.std.proofs.lemmas.List.Folds.{list_any_none}
use Rattle.std.proofs.lemmas.List.Elements.{All-contains}
use Rattle.circuit_plain.specs.Netlist.{Netlist, IsNetlist, IsVariable, IsLiteral, IsGate}
use Rattle.circuit_plain.specs.declared.circuits.Gate.{Gate}
use Rattle.dq_text.specs.Line.{TextLine, line_tokens}
use Rattle.aiger_text.specs.Grammar.{line_numbers, input_numbers, output_numbers, gate_numbers, netlist_numbers, counts_in}
use Rattle.aiger_text.specs.Lines.{max_count, is_too_big, is_positive, is_literal, is_defined, with_input, with_output, with_gate, output_of, input_line, output_line, gate_line}
use Rattle.aiger_text.specs.Scan.{Body, LineFault, next_part, go_on, read_line, read_body}
use Rattle.aiger_text.specs.Symbol.{SymbolTable}
use Rattle.aiger_text.specs.declared.headers.Header.{Header}
use Rattle.aiger_text.specs.declared.numbers.GateNumbers.{GateNumbers}
use Rattle.aiger_text.specs.declared.files.AagFile.{AagFile}
use Rattle.aiger_text.specs.declared.body.NextLine.{NextLine}
use Rattle.aiger_text.specs.declared.body.NextLine.TheVariants.{InputLine, OutputLine, GateLine, SymbolLine}
use Rattle.aiger_text.proofs.NaturalTokens.{numbers_from}
use Rattle.aiger_text.proofs.Stages.{stage_read}
use Rattle.aiger_text.specs.ReaderState.{gate_in_range}
use Rattle.aiger_text.proofs.Variables.{input_passes, gate_passes}

abbrev pub no_symbols : SymbolTable
no_symbols = record { inputs = []; outputs = [] }

-- the bodies of a reading that goes through the inputs, the outputs and the gates
abbrev pub body_with : ℕ → Header → SymbolTable → List ℕ → List ℕ → List Gate → Body
body_with line h table inputs outputs gates = record {
  header_line = line;
  header = h;
  netlist = record { max_var = h.max_var; inputs = inputs; outputs = outputs; gates = gates };
  symbols = table;
}

pub at_input : (line : ℕ) (h : Header) (table : SymbolTable) (is : List ℕ) (os : List ℕ) (gs : List Gate) →
    length is < h.inputs →
    next_part (body_with line h table is os gs) ≡ InputLine
at_input line h table is os gs below = search (arith, cond-true, nat_lt, lt-ltb)

pub at_output : (line : ℕ) (h : Header) (table : SymbolTable) (is : List ℕ) (os : List ℕ) (gs : List Gate) →
    length is ≡ h.inputs → length os < h.outputs →
    next_part (body_with line h table is os gs) ≡ OutputLine
at_output line h table is os gs full below = search (arith, cond-false, nat_lt, le-ltb, cond-true, lt-ltb)

pub at_gate : (line : ℕ) (h : Header) (table : SymbolTable) (is : List ℕ) (os : List ℕ) (gs : List Gate) →
    length is ≡ h.inputs → length os ≡ h.outputs → length gs < h.gates →
    next_part (body_with line h table is os gs) ≡ GateLine
at_gate line h table is os gs full full_outputs below = search (arith, cond-false, nat_lt, le-ltb, cond-true, lt-ltb)

pub at_symbol : (line : ℕ) (h : Header) (table : SymbolTable) (is : List ℕ) (os : List ℕ) (gs : List Gate) →
    length is ≡ h.inputs → length os ≡ h.outputs → length gs ≡ h.gates →
    next_part (body_with line h table is os gs) ≡ SymbolLine
at_symbol line h table is os gs full full_outputs full_gates = search (arith, cond-false, nat_lt, le-ltb)

-- the line is of this part
pub on_part : (part : NextLine) (b : Body) (line : TextLine) (lines : List TextLine) (number : ℕ) → next_part b ≡ part →
    read_body b (line ∷ lines) number ≡ read_line part b line (λ c. read_body c lines (line.number + 1))
on_part part b line lines number h = ap (λ p. read_line p b line (λ c. read_body c lines (line.number + 1))) h

pub small_literal : (max_var l : ℕ) → max_var ≤ max_count → IsLiteral max_var l → is_too_big l ≡ false
small_literal max_var l few range = lt-leb (10 ^ 18) l (omega arith)

positive_variable : (max_var v : ℕ) → IsVariable max_var v → is_positive max_var (2 * v) ≡ true
positive_variable max_var v range = search (arith, and_from, nat_le, eq-eqb, le-leb)

half : (v : ℕ) → (2 * v) / 2 ≡ v
half v = omega arith

pub behind_done : {X : Type 0} (all done todo : List X) (x : X) → done ++ (x ∷ todo) ≡ all → length done < length all
behind_done all done todo x whole = omega (arith, ap length whole, length-append done (x ∷ todo))

pub stands_behind : {X : Type 0} (all done todo : List X) (x : X) → done ++ (x ∷ todo) ≡ all → (d : X) →
    get_or all (length done) d ≡ x
stands_behind all done todo x whole d = search (arith, get_or_at)

pub is_member : {X : Type 0} (all done todo : List X) (x : X) → done ++ (x ∷ todo) ≡ all → Contains all x
is_member all done todo x whole = (
  length done,
  behind_done all done todo x whole,
  stands_behind all done todo x whole x,
)

-- in a list without repetition an element isn't among those before it
pub not_before : {X : Type 0} (key : X → ℕ) (all done todo : List X) (x : X) → done ++ (x ∷ todo) ≡ all →
    AllPairs (λ a b. key a ≢ key b) all →
    list_any (λ y. key y == key x) done ≡ false
not_before key all done todo x whole once =
    list_any_none (λ y. key y == key x) done (λ k d below. ne_eqb (key (get_or done k d)) (key x) (λ same.
    once k (length done) d below (behind_done all done todo x whole)
    (ap (λ xs. key (get_or xs k d)) (sym whole) ∙ ap key (get_or_append_left done (x ∷ todo) d k below)
    ∙ same ∙ ap key (sym (stands_behind all done todo x whole d)))))

pub output_passes : (net : Netlist) (l : ℕ) → is_too_big l ≡ false → is_literal net.max_var l ≡ true →
    output_of net l ≡ Ok (with_output net l)
output_passes net l small range = search (arith, cond-false)

-- the numbers of a gate, as its line spells it
abbrev spelled_gate : Gate → GateNumbers
spelled_gate g = record { lhs = 2 * g.variable; left = g.left; right = g.right }

module _ (net : Netlist) (lawful : IsNetlist net) (few : net.max_var ≤ max_count) (header_line : ℕ)
    (file : AagFile) where
  abbrev with_inputs : List ℕ → Body
  with_inputs is = body_with header_line (counts_in net) no_symbols is [] []

  abbrev with_outputs : List ℕ → Body
  with_outputs os = body_with header_line (counts_in net) no_symbols net.inputs os []

  abbrev with_gates : List Gate → Body
  with_gates gs = body_with header_line (counts_in net) no_symbols net.inputs net.outputs gs

  input_step : (done : List ℕ) (v : ℕ) (todo : List ℕ) (line : TextLine) (lines : List TextLine) (number : ℕ) →
      done ++ (v ∷ todo) ≡ net.inputs → line_numbers line ≡ input_numbers v →
      read_body (with_inputs (done ++ v ∷ [])) lines (line.number + 1) ≡ Ok file →
      read_body (with_inputs done) (line ∷ lines) number ≡ Ok file
  input_step done v todo line lines number whole spelled goes =
      let b = with_inputs done in
      let next : Body → Result AagFile LineFault = λ c. read_body c lines (line.number + 1) in
      let range : IsVariable net.max_var v = All-contains (IsVariable net.max_var) net.inputs v lawful.inputs_fit
      (is_member net.inputs done todo v whole) in
      let small = lt-leb (10 ^ 18) (2 * v) (omega (arith, range.1)) in
      let fresh = ap (is_defined b.netlist) (half v) ∙ or_from (list_any (λ x. x == v) done) false
      (not_before (λ x. x) net.inputs done todo v whole lawful.inputs_once) refl in
      on_part InputLine b line lines number (at_input header_line (counts_in net) no_symbols done [] []
      (behind_done net.inputs done todo v whole))
      ∙ ap (λ ns. go_on line.number b (input_line b.netlist ns) next)
      (numbers_from (line_tokens line.text) (2 * v ∷ []) spelled)
      ∙ ap (λ r. go_on line.number b r next) (input_passes b.netlist (2 * v) small
      (positive_variable net.max_var v range) fresh ∙ ap (λ w. Ok (with_input b.netlist w)) (half v))
      ∙ goes

  output_step : (done : List ℕ) (l : ℕ) (todo : List ℕ) (line : TextLine) (lines : List TextLine) (number : ℕ) →
      done ++ (l ∷ todo) ≡ net.outputs → line_numbers line ≡ output_numbers l →
      read_body (with_outputs (done ++ l ∷ [])) lines (line.number + 1) ≡ Ok file →
      read_body (with_outputs done) (line ∷ lines) number ≡ Ok file
  output_step done l todo line lines number whole spelled goes =
      let b = with_outputs done in
      let next : Body → Result AagFile LineFault = λ c. read_body c lines (line.number + 1) in
      let range : IsLiteral net.max_var l = All-contains (IsLiteral net.max_var) net.outputs l lawful.outputs_fit
      (is_member net.outputs done todo l whole) in
      on_part OutputLine b line lines number (at_output header_line (counts_in net) no_symbols net.inputs done [] refl
      (behind_done net.outputs done todo l whole))
      ∙ ap (λ ns. go_on line.number b (output_line b.netlist ns) next)
      (numbers_from (line_tokens line.text) (l ∷ []) spelled)
      ∙ ap (λ r. go_on line.number b r next) (output_passes b.netlist l (small_literal net.max_var l few range)
      (le-leb l (2 * net.max_var + 1) range))
      ∙ goes

  gate_step : (done : List Gate) (g : Gate) (todo : List Gate) (line : TextLine) (lines : List TextLine) (number : ℕ) →
      done ++ (g ∷ todo) ≡ net.gates → line_numbers line ≡ gate_numbers g →
      read_body (with_gates (done ++ g ∷ [])) lines (line.number + 1) ≡ Ok file →
      read_body (with_gates done) (line ∷ lines) number ≡ Ok file
  gate_step done g todo line lines number whole spelled goes =
      let b = with_gates done in
      let v = g.variable in
      let next : Body → Result AagFile LineFault = λ c. read_body c lines (line.number + 1) in
      let member = is_member net.gates done todo g whole in
      let fits : IsGate net.max_var g = All-contains (IsGate net.max_var) net.gates g lawful.gates_fit member in
      let small = lt-leb (10 ^ 18) (2 * v) (omega (arith, fits.variable.1)) in
      let sides = and_from (is_literal net.max_var g.left) (is_literal net.max_var g.right)
      (le-leb g.left (2 * net.max_var + 1) fits.left) (le-leb g.right (2 * net.max_var + 1) fits.right) in
      let in_range : gate_in_range net.max_var (spelled_gate g) ≡ true =
      and_from (is_positive net.max_var (2 * v)) (is_literal net.max_var g.left && is_literal net.max_var g.right)
      (positive_variable net.max_var v fits.variable) sides in
      let no_input = list_any_none (λ x. x == v) net.inputs (λ k d below. ne_eqb (get_or net.inputs k d) v
      (All-contains (λ h. get_or net.inputs k d ≢ h.variable) net.gates g (lawful.apart k d below) member)) in
      let fresh = ap (is_defined b.netlist) (half v)
      ∙ or_from (list_any (λ x. x == v) net.inputs) (list_any (λ h. h.variable == v) done) no_input
      (not_before (λ (h : Gate). h.variable) net.gates done todo g whole lawful.gates_once) in
      on_part GateLine b line lines number (at_gate header_line
      (counts_in net) no_symbols net.inputs net.outputs done refl refl (behind_done net.gates done todo g whole))
      ∙ ap (λ ns. go_on line.number b (gate_line b.netlist ns) next)
      (numbers_from (line_tokens line.text) (2 * v ∷ g.left ∷ g.right ∷ []) spelled)
      ∙ ap (λ r. go_on line.number b r next)
      (gate_passes b.netlist (spelled_gate g) small (small_literal net.max_var g.left few fits.left)
      (small_literal net.max_var g.right few fits.right) in_range fresh
      ∙ ap (λ w. Ok (with_gate b.netlist (record { variable = w; left = g.left; right = g.right }))) (half v))
      ∙ goes

  -- behind the lines of the netlist all of it is read
  pub netlist_read : (lines behind : List TextLine) → map line_numbers lines ≡ netlist_numbers net →
      ((number : ℕ) → read_body (with_gates net.gates) behind number ≡ Ok file) → (number : ℕ) →
      read_body (with_inputs []) (lines ++ behind) number ≡ Ok file
  netlist_read lines behind spelled next number =
      stage_read ℕ input_numbers with_inputs file net.inputs input_step net.inputs [] lines behind
      (map output_numbers net.outputs ++ map gate_numbers net.gates) refl spelled
      (λ others n others_spelled. stage_read ℕ output_numbers with_outputs file net.outputs output_step net.outputs []
      others behind (map gate_numbers net.gates) refl others_spelled
      (λ last m last_spelled. stage_read Gate gate_numbers with_gates file net.gates gate_step net.gates [] last
      behind [] refl
      (last_spelled ∙ sym (append-nil (map gate_numbers net.gates)))
      (λ none k none_spelled. none_left none behind k none_spelled next) m) n) number
    where
      none_left : (none behind : List TextLine) (k : ℕ) → map line_numbers none ≡ [] →
          ((number : ℕ) → read_body (with_gates net.gates) behind number ≡ Ok file) →
          read_body (with_gates net.gates) (none ++ behind) k ≡ Ok file
      none_left [] behind k spelled next = next k
      none_left (l ∷ ls) behind k spelled next = cc
