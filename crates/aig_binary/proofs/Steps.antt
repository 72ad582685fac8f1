-- One item of a reading.
use Rattle.std.proofs.Common.{◌≡◌, ℕ, suc, ◌+◌, ◌-◌, ◌*◌, ◌/◌, ◌<◌, List, [], ◌∷◌, ◌++◌, length, Option, sym, ◌∙◌, ap, arith, subst, length-append}
use Rattle.std.specs.Prelude.{Result, Ok, Err}
use Rattle.circuit_plain.specs.Netlist.{Netlist}
use Rattle.circuit_plain.specs.declared.circuits.Gate.{Gate}
use Rattle.dq_text.specs.Line.{TextLine, line_tokens, lines_from}
use Rattle.aiger_text.specs.Lines.{numbers_of, with_output, with_gate, output_line}
use Rattle.aiger_text.specs.Scan.{LineFault}
use Rattle.aiger_text.specs.declared.faults.AagFault.{AagFault}
use Rattle.aiger_text.proofs.ReadNetlist.{output_number, reads_output}
use Rattle.aig_binary.specs.BareReading.{AreNumbered}
use Rattle.aig_binary.specs.Deltas.{and_then}
use Rattle.aig_binary.specs.Gates.{read_gate, read_gates}
use Rattle.aig_binary.specs.Scan.{read_outputs}
use Rattle.aig_binary.proofs.Numbered.{numbered_push}

abbrev gates_on : ℕ → ℕ → Netlist → Gate × List ℕ → Result (Netlist × List ℕ) AagFault
gates_on more v net read = read_gates more (v + 1) (with_gate net read.0) read.1

pub one_gate : (more v : ℕ) (net : Netlist) (bytes rest : List ℕ) (g : Gate) → read_gate v bytes ≡ Ok (g, rest) →
    read_gates (suc more) v net bytes ≡ read_gates more (v + 1) (with_gate net g) rest
one_gate more v net bytes rest g read = ap (λ r. and_then r (gates_on more v net)) read

pub gate_stops : (more v : ℕ) (net : Netlist) (bytes : List ℕ) (name : AagFault) → read_gate v bytes ≡ Err name →
    read_gates (suc more) v net bytes ≡ Err name
gate_stops more v net bytes name read = ap (λ r. and_then r (gates_on more v net)) read

abbrev outputs_on : ℕ → ℕ → Netlist → List ℕ → Result (Netlist × List ℕ) LineFault
outputs_on more number made behind = read_outputs more made (number + 1) behind

pub one_output : (more number : ℕ) (net made : Netlist) (bytes : List ℕ) (line : TextLine) (others : List TextLine) →
    lines_from number bytes ≡ line ∷ others → output_line net (numbers_of (line_tokens line.text)) ≡ Ok made →
    read_outputs (suc more) net number bytes ≡ read_outputs more made (number + 1) line.behind
one_output more number net made bytes line others lines read = search arith

-- an output's line that is read adds one
pub output_added : (net made : Netlist) (found : Option (List ℕ)) → output_line net found ≡ Ok made →
    (l : ℕ) × (made ≡ with_output net l)
output_added net made found read = search (arith, output_number, reads_output)

-- what is left to read, with so many gates read
pub record GatesGoOn (h_gates first i : ℕ) (start net made : Netlist) (bytes behind : List ℕ) : Type 0 where
  pub max_var : made.max_var ≡ start.max_var
  pub no_inputs : made.inputs ≡ []
  pub numbered : AreNumbered first made.gates
  pub counted : length made.gates ≡ i + 1
  pub same : read_gates h_gates first start bytes ≡ read_gates (h_gates - (i + 1)) (first + (i + 1)) made behind

pub gates_go_on : (gates first i : ℕ) (start net made : Netlist) (g : Gate) (bytes rest behind : List ℕ) → i < gates →
    net.max_var ≡ start.max_var → net.inputs ≡ [] → AreNumbered first net.gates → length net.gates ≡ i →
    read_gates gates first start bytes ≡ read_gates (gates - i) (first + i) net rest →
    read_gate (first + i) rest ≡ Ok (g, behind) → g.variable ≡ first + i →
    made ≡ record net {
      gates = net.gates ++ record { variable = (2 * g.variable) / 2; left = g.left; right = g.right } ∷ [];
    } → GatesGoOn gates first i start net made bytes behind
gates_go_on gates first i start net made g bytes rest behind below max_var none numbered counted same read variable is =
    let half : (2 * g.variable) / 2 ≡ g.variable = omega arith in
    let made_is : made ≡ with_gate net g =
    is ∙ ap (λ v. record net {
      gates = net.gates ++ record {
        variable = v;
        left = g.left;
        right =
            g.right;
      } ∷ [];
    }) half in
    let left : gates - i ≡ suc (gates - (i + 1)) = omega arith in
    let next : first + i + 1 ≡ first + (i + 1) = omega arith in
    let number : g.variable ≡ first + length net.gates = omega (arith, variable, counted) in
    let gates_are = ap (λ (n : Netlist). n.gates) made_is in
    record {
      max_var = ap (λ (n : Netlist). n.max_var) made_is ∙ max_var;
      no_inputs = ap (λ (n : Netlist). n.inputs) made_is ∙ none;
      numbered = subst (AreNumbered first) (sym gates_are) (numbered_push net.gates first g numbered number);
      counted = ap length gates_are ∙ length-append net.gates (g ∷ [])
          ∙ ap (λ k. k + 1) counted;
      same = same
          ∙ ap (λ k. read_gates k (first + i) net rest) left
          ∙ one_gate (gates - (i + 1)) (first + i) net rest behind g read
          ∙ ap (λ v. read_gates (gates - (i + 1)) v (with_gate net g) behind) next
          ∙ ap (λ n. read_gates (gates - (i + 1)) (first + (i + 1)) n behind) (sym made_is);
    }

pub gates_stop : (gates first i : ℕ) (start net : Netlist) (bytes rest : List ℕ) (name : AagFault) → i < gates →
    read_gates gates first start bytes ≡ read_gates (gates - i) (first + i) net rest →
    read_gate (first + i) rest ≡ Err name → read_gates gates first start bytes ≡ Err name
gates_stop gates first i start net bytes rest name below same read =
    let left : gates - i ≡ suc (gates - (i + 1)) = omega arith in
    same ∙ ap (λ k. read_gates k (first + i) net rest) left
    ∙ gate_stops (gates - (i + 1)) (first + i) net rest name read

-- the same of the outputs' lines
pub record OutputsGoOn (outputs i first next : ℕ) (start made : Netlist) (bytes behind : List ℕ) : Type 0 where
  pub no_inputs : made.inputs ≡ []
  pub no_gates : made.gates ≡ []
  pub counted : length made.outputs ≡ i + 1
  pub same : read_outputs outputs start first bytes ≡ read_outputs (outputs - (i + 1)) made next behind

pub outputs_go_on : (outputs i first number next : ℕ) (start net made : Netlist) (bytes rest : List ℕ) (line : TextLine)
    (others : List TextLine) → i < outputs → net.inputs ≡ [] → net.gates ≡ [] → length net.outputs ≡ i →
    read_outputs outputs start first bytes ≡ read_outputs (outputs - i) net number rest →
    lines_from number rest ≡ line ∷ others → next ≡ number + 1 →
    output_line net (numbers_of (line_tokens line.text)) ≡ Ok made →
    OutputsGoOn outputs i first next start made bytes line.behind
outputs_go_on outputs i first number next start net made bytes rest line others below none no_gates counted same lines
    following read =
    let added = output_added net made (numbers_of (line_tokens line.text)) read in
    let left : outputs - i ≡ suc (outputs - (i + 1)) = omega arith in
    record {
      no_inputs = ap (λ (n : Netlist). n.inputs) added.1 ∙ none;
      no_gates = ap (λ (n : Netlist). n.gates) added.1 ∙ no_gates;
      counted = ap (λ (n : Netlist). length n.outputs) added.1 ∙ length-append net.outputs (added.0 ∷ [])
          ∙ ap (λ k. k + 1) counted;
      same = search (arith, one_output);
    }
