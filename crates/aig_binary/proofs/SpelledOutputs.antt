-- The outputs' lines, as their reader takes them and as the grammar spells them.
use Rattle.std.proofs.Common.{◌≡◌, ℕ, zero, suc, ◌+◌, ◌*◌, ◌≤◌, List, [], ◌∷◌, ◌++◌, length, refl, sym, ◌∙◌, ap, append_assoc, append-nil}
use Rattle.std.specs.Prelude.{Result, Ok, Err}
use Rattle.std.specs.List.{AllByRecursion}
use Rattle.std.proofs.lemmas.Bool.{le-leb}
use Rattle.circuit_plain.specs.Netlist.{Netlist, IsLiteral}
use Rattle.dq_text.specs.Line.{TextLine, line_tokens, lines_from}
use Rattle.aiger_text.specs.Lines.{max_count, numbers_of, with_output, output_line}
use Rattle.aiger_text.specs.Scan.{LineFault}
use Rattle.aiger_text.specs.declared.faults.AagFault.{AagFault}
use Rattle.aiger_text.proofs.NaturalTokens.{numbers_are, numbers_from}
use Rattle.aiger_text.proofs.ReadNetlist.{output_number, reads_output}
use Rattle.aiger_text.proofs.SpelledNetlist.{output_passes, small_literal}
use Rattle.aig_binary.specs.Grammar.{SpellsOutput, SpellsOutputs}
use Rattle.aig_binary.specs.Scan.{on_line, first_output, read_outputs}
use Rattle.aig_binary.proofs.SpelledDeltas.{ok_is}

-- a netlist with more outputs
abbrev pub with_outputs : Netlist → List ℕ → Netlist
with_outputs net os = record net { outputs = net.outputs ++ os }

outputs_behind : (net : Netlist) (o : ℕ) (os : List ℕ) → with_outputs (with_output net o) os ≡ with_outputs net (o ∷ os)
outputs_behind net o os = ap (λ all. record net { outputs = all }) (append_assoc net.outputs (o ∷ []) os)

no_more : (net : Netlist) → net ≡ with_outputs net []
no_more net = ap (λ all. record net { outputs = all }) (sym (append-nil net.outputs))

abbrev outputs_on : ℕ → ℕ → Netlist → List ℕ → Result (Netlist × List ℕ) LineFault
outputs_on more number made behind = read_outputs more made (number + 1) behind

pub outputs_from : (os : List ℕ) (net : Netlist) (number : ℕ) (bytes rest : List ℕ) → net.max_var ≤ max_count →
    AllByRecursion (IsLiteral net.max_var) os → SpellsOutputs number bytes os rest →
    read_outputs (length os) net number bytes ≡ Ok (with_outputs net os, rest)
outputs_from [] net number bytes rest few range none =
    ap (λ bs. Ok (net, bs)) none ∙ ap (λ n. Ok (n, rest)) (no_more net)
outputs_from (o ∷ os) net number bytes rest few range (first, more) =
    let line = first.line in
    let next = outputs_on (length os) number in
    ap (λ ls. first_output number net ls next) first.lines
    ∙ ap (λ ns. on_line number (output_line net ns) (λ made. next made line.behind))
    (numbers_from (line_tokens line.text) (o ∷ []) first.spelled)
    ∙ ap (λ r. on_line number r (λ made. next made line.behind))
    (output_passes net o (small_literal net.max_var o few range.0) (le-leb o (2 * net.max_var + 1) range.0))
    ∙ outputs_from os (with_output net o) (number + 1) line.behind rest few range.1 more
    ∙ ap (λ n. Ok (n, rest)) (outputs_behind net o os)

pub on_line_goes : {A B : Type 0} (line : ℕ) (r : Result A AagFault) (next : A → Result B LineFault) (v : B) →
    on_line line r next ≡ Ok v → (a : A) × (r ≡ Ok a) × (next a ≡ Ok v)
on_line_goes line (Ok a) next v h = (a, refl, h)
on_line_goes line (Err name) next v h = cc

-- so many outputs, and the lines that spell them
pub record AreOutputsRead (n number : ℕ) (net made : Netlist) (bytes rest : List ℕ) : Type 0 where
  pub outputs : List ℕ
  pub counted : length outputs ≡ n
  pub in_range : AllByRecursion (IsLiteral net.max_var) outputs
  pub spelled : SpellsOutputs number bytes outputs rest
  pub made_is : made ≡ with_outputs net outputs

-- the first output, and what is read behind it
record IsOutputRead (number : ℕ) (net : Netlist) (bytes : List ℕ)
    (next : Netlist → List ℕ → Result (Netlist × List ℕ) LineFault) (v : Netlist × List ℕ) : Type 0 where
  output : ℕ
  spelled : SpellsOutput number bytes output
  in_range : IsLiteral net.max_var output
  goes : next (with_output net output) spelled.line.behind ≡ Ok v

output_is : (number : ℕ) (net : Netlist) (bytes : List ℕ) (lines : List TextLine)
    (next : Netlist → List ℕ → Result (Netlist × List ℕ) LineFault) (v : Netlist × List ℕ) →
    lines_from number bytes ≡ lines → first_output number net lines next ≡ Ok v → IsOutputRead number net bytes next v
output_is number net bytes [] next v are read = cc
output_is number net bytes (line ∷ others) next v are read =
    let tokens = line_tokens line.text in
    let on = on_line_goes number (output_line net (numbers_of tokens)) (λ made. next made line.behind) v read in
    let found = output_number net on.0 (numbers_of tokens) on.1 in
    let reads = reads_output net on.0 found.0 found.2 in
    record {
      output = found.0;
      spelled = record {
        line = line;
        others = others;
        lines = are;
        spelled = numbers_are tokens (found.0 ∷ []) found.1 (reads.small, tt);
      };
      in_range = reads.range;
      goes = ap (λ made. next made line.behind) reads.made_is ∙ on.2;
    }

pub outputs_are : (n number : ℕ) (net made : Netlist) (bytes rest : List ℕ) →
    read_outputs n net number bytes ≡ Ok (made, rest) → AreOutputsRead n number net made bytes rest
outputs_are zero number net made bytes rest read =
    let both = ok_is (read_outputs zero net number bytes) (net, bytes) (made, rest) refl read in
    let net_is : net ≡ made = ap (λ (p : Netlist × List ℕ). p.0) both in
    let rest_is : bytes ≡ rest = ap (λ (p : Netlist × List ℕ). p.1) both in
    record {
      outputs = [];
      counted = refl;
      in_range = tt;
      spelled = rest_is;
      made_is = sym net_is ∙ no_more net;
    }
outputs_are (suc n) number net made bytes rest read =
    let first = output_is number net bytes (lines_from number bytes) (outputs_on n number) (made, rest) refl read in
    let o = first.output in
    let c = outputs_are n (number + 1) (with_output net o) made first.spelled.line.behind rest first.goes in
    record {
      outputs = o ∷ c.outputs;
      counted = ap suc c.counted;
      in_range = (first.in_range, c.in_range);
      spelled = (first.spelled, c.spelled);
      made_is = c.made_is ∙ outputs_behind net o c.outputs;
    }
