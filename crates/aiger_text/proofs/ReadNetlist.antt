-- The lines of inputs, outputs and gates that are read are those that the grammar spells.
use Rattle.std.proofs.Common.{◌≡◌, ℕ, ◌+◌, ◌*◌, ◌/◌, ◌%◌, ◌^◌, ◌<◌, ◌==◌, nat_le, Bool, true, false, not, cond, ◌&&◌, ◌||◌, List, [], ◌∷◌, length, Option, Some, None, Result, Ok, Err, refl, sym, ◌∙◌, ap, arith}
use Rattle.std.proofs.lemmas.Bool.{and_parts, or_parts, not-false, leb-true, leb-false, eqb-true}
use Rattle.circuit_plain.proofs.NetlistLaws.{keeps_input, keeps_output, keeps_gate}
use Rattle.circuit_plain.specs.Netlist.{Netlist, IsNetlist, IsLiteral, IsGate}
use Rattle.circuit_plain.specs.declared.circuits.Gate.{Gate}
use Rattle.dq_text.specs.Line.{TextLine, line_tokens}
use Rattle.aiger_text.specs.Grammar.{naturals, input_numbers, output_numbers, gate_numbers}
use Rattle.aiger_text.specs.Lines.{is_too_big, is_positive, is_literal, is_defined, numbers_of, with_input, with_output, with_gate, input_of, output_of, gate_of, input_line, output_line, gate_line}
use Rattle.aiger_text.specs.ReaderState.{IsNewVariable, gate_in_range}
use Rattle.aiger_text.specs.Scan.{Body, LineFault, go_on, read_body}
use Rattle.aiger_text.specs.declared.headers.Header.{Header}
use Rattle.aiger_text.specs.declared.numbers.GateNumbers.{GateNumbers}
use Rattle.aiger_text.specs.declared.files.AagFile.{AagFile}
use Rattle.aiger_text.specs.declared.faults.AagFault.{AagFault}
use Rattle.aiger_text.specs.declared.faults.AagFault.TheVariants.{TooBig, Range, DefinedTwice}
use Rattle.aiger_text.specs.declared.body.NextLine.TheVariants.{InputLine, OutputLine, GateLine}
use Rattle.aiger_text.proofs.NaturalTokens.{numbers_are}
use Rattle.aiger_text.proofs.SpelledNetlist.{no_symbols, body_with, at_input, at_output, at_gate, on_part}
use Rattle.aiger_text.proofs.Stages.{AddsItem, CompletesStage, stage_spelled}
use Rattle.aiger_text.proofs.Variables.{is_new, is_gate_of}

unless_error : (b : Bool) (name : AagFault) (r : Result Netlist AagFault) (net : Netlist) →
    cond b (Err name) r ≡ Ok net → (b ≡ false) × (r ≡ Ok net)
unless_error true name r net same = cc
unless_error false name r net same = (refl, same)

-- what a line of the netlist that is read leaves
record GoesOn (b : Body) (r : Result Netlist AagFault) (next : Body → Result AagFile LineFault)
    (file : AagFile) : Type 0 where
  net : Netlist
  line_is : r ≡ Ok net
  goes : next (record b { netlist = net }) ≡ Ok file

goes_on : (line : ℕ) (b : Body) (r : Result Netlist AagFault) (next : Body → Result AagFile LineFault) (file : AagFile)
    → go_on line b r next ≡ Ok file → GoesOn b r next file
goes_on line b (Ok net) next file h = record { net = net; line_is = refl; goes = h }
goes_on line b (Err name) next file h = cc

moved : (b : Body) (next : Body → Result AagFile LineFault) (made net : Netlist) (file : AagFile) → made ≡ net →
    next (record b { netlist = net }) ≡ Ok file →
    next (record b { netlist = made }) ≡ Ok file
moved b next made net file same goes = ap (λ n. next (record b { netlist = n })) same ∙ goes

input_number : (net made : Netlist) (found : Option (List ℕ)) → input_line net found ≡ Ok made →
    (l : ℕ) × (found ≡ Some (l ∷ [])) × (input_of net l ≡ Ok made)
input_number net made None h = cc
input_number net made (Some []) h = cc
input_number net made (Some (l ∷ [])) h = (l, refl, h)
input_number net made (Some (l ∷ m ∷ ns)) h = cc

pub output_number : (net made : Netlist) (found : Option (List ℕ)) → output_line net found ≡ Ok made →
    (l : ℕ) × (found ≡ Some (l ∷ [])) × (output_of net l ≡ Ok made)
output_number net made None h = cc
output_number net made (Some []) h = cc
output_number net made (Some (l ∷ [])) h = (l, refl, h)
output_number net made (Some (l ∷ m ∷ ns)) h = cc

gate_number : (net made : Netlist) (found : Option (List ℕ)) → gate_line net found ≡ Ok made →
    (l a b : ℕ) × (found ≡ Some (l ∷ a ∷ b ∷ [])) × (gate_of net l a b ≡ Ok made)
gate_number net made None h = cc
gate_number net made (Some []) h = cc
gate_number net made (Some (l ∷ [])) h = cc
gate_number net made (Some (l ∷ a ∷ [])) h = cc
gate_number net made (Some (l ∷ a ∷ b ∷ [])) h = (l, a, b, refl, h)
gate_number net made (Some (l ∷ a ∷ b ∷ c ∷ ns)) h = cc

record ReadsInput (net made : Netlist) (l : ℕ) : Type 0 where
  small : l < 10 ^ 18
  positive : is_positive net.max_var l ≡ true
  fresh : is_defined net (l / 2) ≡ false
  made_is : with_input net (l / 2) ≡ made

reads_input : (net made : Netlist) (l : ℕ) → input_of net l ≡ Ok made → ReadsInput net made l
reads_input net made l h =
    let small = unless_error (is_too_big l) TooBig _ made h in
    let range = unless_error (not (is_positive net.max_var l)) Range _ made small.1 in
    let fresh = unless_error (is_defined net (l / 2)) DefinedTwice (Ok (with_input net (l / 2))) made range.1 in
    let same : with_input net (l / 2) ≡ made = cc in
    record {
      small = leb-false (10 ^ 18) l small.0;
      positive = not-false (is_positive net.max_var l) range.0;
      fresh =
          fresh.0;
      made_is = same;
    }

pub record ReadsOutput (net made : Netlist) (l : ℕ) : Type 0 where
  pub small : l < 10 ^ 18
  pub range : IsLiteral net.max_var l
  pub made_is : with_output net l ≡ made

pub reads_output : (net made : Netlist) (l : ℕ) → output_of net l ≡ Ok made → ReadsOutput net made l
reads_output net made l h =
    let small = unless_error (is_too_big l) TooBig _ made h in
    let range = unless_error (not (is_literal net.max_var l)) Range (Ok (with_output net l)) made small.1 in
    let same : with_output net l ≡ made = cc in
    record {
      small = leb-false (10 ^ 18) l small.0;
      range = leb-true l (2 * net.max_var + 1)
          (not-false (is_literal net.max_var l) range.0);
      made_is = same;
    }

record ReadsGate (net made : Netlist) (g : GateNumbers) : Type 0 where
  small : (g.lhs < 10 ^ 18) × (g.left < 10 ^ 18) × (g.right < 10 ^ 18)
  in_range : gate_in_range net.max_var g ≡ true
  fresh : is_defined net (g.lhs / 2) ≡ false
  made_is : with_gate net (record { variable = g.lhs / 2; left = g.left; right = g.right }) ≡ made

reads_gate : (net made : Netlist) (g : GateNumbers) → gate_of net g.lhs g.left g.right ≡ Ok made → ReadsGate net made g
reads_gate net made g h =
    let small = unless_error (is_too_big g.lhs || (is_too_big g.left || is_too_big g.right)) TooBig _ made h in
    let range = unless_error (not (gate_in_range net.max_var g)) Range _ made small.1 in
    let added = with_gate net (record { variable = g.lhs / 2; left = g.left; right = g.right }) in
    let fresh = unless_error (is_defined net (g.lhs / 2)) DefinedTwice (Ok added) made range.1 in
    let first = or_parts (is_too_big g.lhs) (is_too_big g.left || is_too_big g.right) small.0 in
    let sides = or_parts (is_too_big g.left) (is_too_big g.right) first.1 in
    let same : added ≡ made = cc in
    record {
      small = search (arith, leb-false);
      in_range = not-false (gate_in_range net.max_var g) range.0;
      fresh = fresh.0;
      made_is = same;
    }

twice : (max_var l : ℕ) → is_positive max_var l ≡ true → l ≡ 2 * (l / 2)
twice max_var l h =
    let even = eqb-true (l % 2) 0 (and_parts (l % 2 == 0) (nat_le 2 l && nat_le l (2 * max_var)) h).0 in
    omega arith

module _ (header_line : ℕ) (h : Header) (file : AagFile) where
  abbrev netlist_with : List ℕ → List ℕ → List Gate → Netlist
  netlist_with is os gs = record { max_var = h.max_var; inputs = is; outputs = os; gates = gs }

  abbrev with_inputs : List ℕ → Body
  with_inputs is = body_with header_line h no_symbols is [] []

  abbrev pub ReadInputs : List TextLine → Type 0
  ReadInputs lines = CompletesStage ℕ input_numbers with_inputs h.inputs
      (λ is. IsNetlist (netlist_with is [] [])) file [] lines

  input_adds : (done : List ℕ) (line : TextLine) (lines : List TextLine) (number : ℕ) → length done < h.inputs →
      IsNetlist (netlist_with done [] []) →
      read_body (with_inputs done) (line ∷ lines) number ≡ Ok file →
      AddsItem ℕ input_numbers with_inputs (λ is. IsNetlist (netlist_with is [] [])) file done line lines
  input_adds done line lines number below kept read =
      let b = with_inputs done in
      let next : Body → Result AagFile LineFault = λ c. read_body c lines (line.number + 1) in
      let tokens = line_tokens line.text in
      let on = goes_on line.number b (input_line b.netlist (numbers_of tokens)) next file
      (sym (on_part InputLine b line lines number (at_input header_line h no_symbols done [] [] below)) ∙ read) in
      let found = input_number b.netlist on.net (numbers_of tokens) on.line_is in
      let l = found.0 in
      let reads = reads_input b.netlist on.net l found.2 in
      let new : IsNewVariable b.netlist (l / 2) = is_new b.netlist l reads.positive reads.fresh in
      record {
        item = l / 2;
        spelled = numbers_are tokens (l ∷ []) found.1 (reads.small, tt) ∙ ap (λ n. naturals (n ∷ []))
            (twice h.max_var l reads.positive);
        kept = keeps_input b.netlist (l / 2) kept new.in_range new.undefined;
        read = moved b next (with_input b.netlist (l / 2)) on.net file reads.made_is on.goes;
      }

  input_ends : (done : List ℕ) (number : ℕ) → length done < h.inputs →
      read_body (with_inputs done) [] number ≡ Ok file → ⊥
  input_ends done number below read = search (arith, at_input)

  pub inputs_spelled : (lines : List TextLine) (number : ℕ) → IsNetlist (netlist_with [] [] []) →
      read_body (with_inputs []) lines number ≡ Ok file → ReadInputs lines
  inputs_spelled lines number kept read =
      stage_spelled ℕ input_numbers with_inputs file h.inputs
      (λ is. IsNetlist (netlist_with is [] [])) input_adds input_ends h.inputs [] lines number
      (omega arith) kept read

  module _ (is : List ℕ) (all_inputs : length is ≡ h.inputs) where
    abbrev with_outputs : List ℕ → Body
    with_outputs os = body_with header_line h no_symbols is os []

    abbrev pub ReadOutputs : List TextLine → Type 0
    ReadOutputs lines = CompletesStage ℕ output_numbers with_outputs h.outputs
        (λ os. IsNetlist (netlist_with is os [])) file [] lines

    output_adds : (done : List ℕ) (line : TextLine) (lines : List TextLine) (number : ℕ) → length done < h.outputs →
        IsNetlist (netlist_with is done []) →
        read_body (with_outputs done) (line ∷ lines) number ≡ Ok file →
        AddsItem ℕ output_numbers with_outputs (λ os. IsNetlist (netlist_with is os [])) file done line lines
    output_adds done line lines number below kept read =
        let b = with_outputs done in
        let next : Body → Result AagFile LineFault = λ c. read_body c lines (line.number + 1) in
        let tokens = line_tokens line.text in
        let on = goes_on line.number b (output_line b.netlist (numbers_of tokens)) next file
        (sym (on_part OutputLine b line lines number (at_output header_line h no_symbols is done [] all_inputs below))
        ∙ read) in
        let found = output_number b.netlist on.net (numbers_of tokens) on.line_is in
        let l = found.0 in
        let reads = reads_output b.netlist on.net l found.2 in
        record {
          item = l;
          spelled = numbers_are tokens (l ∷ []) found.1 (reads.small, tt);
          kept = keeps_output b.netlist l kept reads.range;
          read = moved b next (with_output b.netlist l) on.net file reads.made_is on.goes;
        }

    output_ends : (done : List ℕ) (number : ℕ) → length done < h.outputs →
        read_body (with_outputs done) [] number ≡ Ok file → ⊥
    output_ends done number below read = search (arith, at_output)

    pub outputs_spelled : (lines : List TextLine) (number : ℕ) → IsNetlist (netlist_with is [] []) →
        read_body (with_outputs []) lines number ≡ Ok file → ReadOutputs lines
    outputs_spelled lines number kept read =
        stage_spelled ℕ output_numbers with_outputs file h.outputs
        (λ os. IsNetlist (netlist_with is os [])) output_adds output_ends h.outputs [] lines number
        (omega arith) kept read

    module _ (os : List ℕ) (all_outputs : length os ≡ h.outputs) where
      abbrev with_gates : List Gate → Body
      with_gates gs = body_with header_line h no_symbols is os gs

      abbrev pub ReadGates : List TextLine → Type 0
      ReadGates lines = CompletesStage Gate gate_numbers with_gates h.gates
          (λ gs. IsNetlist (netlist_with is os gs)) file [] lines

      gate_adds : (done : List Gate) (line : TextLine) (lines : List TextLine) (number : ℕ) → length done < h.gates →
          IsNetlist (netlist_with is os done) →
          read_body (with_gates done) (line ∷ lines) number ≡ Ok file →
          AddsItem Gate gate_numbers with_gates (λ gs. IsNetlist (netlist_with is os gs)) file done line lines
      gate_adds done line lines number below kept read =
          let b = with_gates done in
          let next : Body → Result AagFile LineFault = λ c. read_body c lines (line.number + 1) in
          let tokens = line_tokens line.text in
          let on = goes_on line.number b (gate_line b.netlist (numbers_of tokens)) next file
          (sym (on_part GateLine b line lines number (at_gate header_line h no_symbols is os done all_inputs all_outputs
          below)) ∙ read) in
          let found = gate_number b.netlist on.net (numbers_of tokens) on.line_is in
          let written : GateNumbers = record { lhs = found.0; left = found.1; right = found.2 } in
          let v = found.0 / 2 in
          let reads = reads_gate b.netlist on.net written found.4 in
          let own = is_gate_of b.netlist written reads.in_range in
          let positive = (and_parts (is_positive h.max_var found.0)
          (is_literal h.max_var found.1 && is_literal h.max_var found.2) reads.in_range).0 in
          let new : IsNewVariable b.netlist v = is_new b.netlist found.0 positive reads.fresh in
          let fits : IsGate h.max_var (record { variable = v; left = found.1; right = found.2 }) =
          record { variable = new.in_range; left = own.left; right = own.right } in
          record {
            item = record { variable = v; left = found.1; right = found.2 };
            spelled = numbers_are tokens (found.0 ∷ found.1 ∷ found.2 ∷ []) found.3
                (reads.small.0, (reads.small.1, (reads.small.2, tt)))
                ∙ ap (λ n. naturals (n ∷ found.1 ∷ found.2 ∷ [])) (twice h.max_var found.0 positive);
            kept = keeps_gate b.netlist (record { variable = v; left = found.1; right = found.2 }) kept fits
                new.undefined;
            read = moved b next (with_gate b.netlist (record { variable = v; left = found.1; right = found.2 })) on.net
                file reads.made_is on.goes;
          }

      gate_ends : (done : List Gate) (number : ℕ) → length done < h.gates →
          read_body (with_gates done) [] number ≡ Ok file → ⊥
      gate_ends done number below read = search (arith, at_gate)

      pub gates_spelled : (lines : List TextLine) (number : ℕ) → IsNetlist (netlist_with is os []) →
          read_body (with_gates []) lines number ≡ Ok file → ReadGates lines
      gates_spelled lines number kept read =
          stage_spelled Gate gate_numbers with_gates file h.gates
          (λ gs. IsNetlist (netlist_with is os gs)) gate_adds gate_ends h.gates [] lines number
          (omega arith) kept read
