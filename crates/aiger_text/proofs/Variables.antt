-- Variables that a line may define.
use Rattle.std.proofs.Common.{◌≡◌, ℕ, ◌+◌, ◌*◌, ◌/◌, ◌%◌, ◌<◌, ◌==◌, nat_le, Bool, true, false, cond, ◌&&◌, inl, inr, length, get_or, Ok, refl, sym, ◌∙◌, arith}
use Rattle.std.specs.List.{list_any}
use Rattle.std.proofs.lemmas.Bool.{and_parts, or_left, or_right, or_from, leb-true, eqb-true, eq-eqb, true≢false}
use Rattle.std.proofs.lemmas.List.{get_or-map, length-map}
use Rattle.std.proofs.lemmas.List.Folds.{list_any_at}
use Rattle.circuit_plain.specs.Netlist.{Netlist, IsVariable, IsLiteral, IsDefined, variable_of_gate}
use Rattle.circuit_plain.specs.declared.circuits.Gate.{Gate}
use Rattle.aiger_text.specs.Lines.{is_too_big, is_positive, is_literal, is_defined, with_input, with_gate, input_of, gate_of}
use Rattle.aiger_text.specs.ReaderState.{IsNewVariable, gate_in_range}
use Rattle.aiger_text.specs.declared.numbers.GateNumbers.{GateNumbers}

no_gate : Gate
no_gate = record { variable = 0; left = 0; right = 0 }

pub defined_is : (net : Netlist) (v : ℕ) → IsDefined net v → is_defined net v ≡ true
defined_is net v (inl (k, below, is)) = search (arith, or_left, list_any_at, eq-eqb)
defined_is net v (inr (k, below, is)) =
    let inside : k < length net.gates = rw (length-map net.gates variable_of_gate) at below in
    let same : (get_or net.gates k no_gate).variable ≡ v = sym
    (get_or-map variable_of_gate net.gates k no_gate v inside) ∙ is in
    or_right (list_any (λ x. x == v) net.inputs) (list_any (λ g. g.variable == v) net.gates)
    (list_any_at (λ g. g.variable == v) net.gates k no_gate inside
    (eq-eqb (get_or net.gates k no_gate).variable v same))

positive_range : (max_var l : ℕ) → is_positive max_var l ≡ true → IsVariable max_var (l / 2)
positive_range max_var l h = search (arith, and_parts, nat_le, leb-true, eqb-true)

pub is_new : (net : Netlist) (l : ℕ) → is_positive net.max_var l ≡ true → is_defined net (l / 2) ≡ false →
    IsNewVariable net (l / 2)
is_new net l positive undefined = record {
  in_range = positive_range net.max_var l positive;
  undefined = λ defined. true≢false (sym (defined_is net (l / 2) defined) ∙ undefined);
}

second : {T : Type 0} (b : Bool) (x y : T) → b ≡ false → cond b x y ≡ y
second true x y h = cc
second false x y h = refl

pub input_passes : (net : Netlist) (l : ℕ) → is_too_big l ≡ false → is_positive net.max_var l ≡ true →
    is_defined net (l / 2) ≡ false →
    input_of net l ≡ Ok (with_input net (l / 2))
input_passes net l small positive undefined = search arith

pub gate_passes : (net : Netlist) (g : GateNumbers) → is_too_big g.lhs ≡ false → is_too_big g.left ≡ false →
    is_too_big g.right ≡ false →
    gate_in_range net.max_var g ≡ true → is_defined net (g.lhs / 2) ≡ false →
    gate_of net g.lhs g.left g.right ≡ Ok (with_gate net (record
    { variable = g.lhs / 2; left = g.left; right = g.right }))
gate_passes net g lhs left right range undefined = search (arith, or_from)

-- a gate's numbers in range
pub record IsGateOf (net : Netlist) (g : GateNumbers) : Type 0 where
  pub even : g.lhs % 2 ≡ 0
  pub variable : IsVariable net.max_var (g.lhs / 2)
  pub left : IsLiteral net.max_var g.left
  pub right : IsLiteral net.max_var g.right

pub is_gate_of : (net : Netlist) (g : GateNumbers) → gate_in_range net.max_var g ≡ true → IsGateOf net g
is_gate_of net g range =
    let parts = and_parts (is_positive net.max_var g.lhs) (is_literal net.max_var g.left && is_literal net.max_var
    g.right) range in
    let sides = and_parts (is_literal net.max_var g.left) (is_literal net.max_var g.right) parts.1 in
    let even = and_parts (g.lhs % 2 == 0) (nat_le 2 g.lhs && nat_le g.lhs (2 * net.max_var)) parts.0 in
    record {
      even = eqb-true (g.lhs % 2) 0 even.0;
      variable = positive_range net.max_var g.lhs parts.0;
      left = leb-true g.left (2 * net.max_var + 1) sides.0;
      right = leb-true g.right (2 * net.max_var + 1) sides.1;
    }
