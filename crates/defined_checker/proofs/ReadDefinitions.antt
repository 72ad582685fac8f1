-- A definition's value depends only on what is in its cone.
use Rattle.std.proofs.Common.{◌≡◌, ℕ, zero, suc, ◌+◌, ◌≤◌, ◌<◌, ◌==◌, nat_le, Bool, true, false, inl, inr, List, [], ◌∷◌, length, refl, sym, ap, ◌∙◌, arith}
use Rattle.std.specs.List.{Contains}
use Rattle.std.proofs.lemmas.Bool.{cases_Bool, eqb-true, leb-true, and_parts, cond-true, cond-false, eq-eqb}
use Rattle.dq_lits.specs.Literal.{Assignment}
use Rattle.dq_lits.specs.Formula.{Existential, Dqbf}
use Rattle.circuit_plain.specs.Netlist.{Netlist, gate_value, left_variable, right_variable, literal_variable, signed_bit}
use Rattle.circuit_plain.specs.Reach.{Reaches, itself, left, right}
use Rattle.circuit_plain.specs.declared.circuits.Gate.{Gate}
use Rattle.cert_text.specs.AllowedDefinitions.{AreGatesFrom, IsDefinitionOf, is_readable}
use Rattle.cert_text.specs.DefinitionBlocks.{Definition}
use Rattle.defined_checker.specs.DefinitionReads.{definition_netlist}
use Rattle.defined_checker.specs.Forced.{definition_value, with_bit, with_gates}
use Rattle.defined_checker.specs.FreePairs.{AreAlike}
use Rattle.defined_checker.specs.Judging.{ReadsItsOwn}

-- a gate that is reached reaches its sides
pub left_reached : (net : Netlist) (v : ℕ) (g : Gate) → Contains net.gates g → Reaches net v g.variable →
    Reaches net v (left_variable g)
left_reached net v g in_net itself = left g in_net itself
left_reached net v g in_net (left h here r) = left h here (left_reached net (left_variable h) g in_net r)
left_reached net v g in_net (right h here r) = right h here (left_reached net (right_variable h) g in_net r)

pub right_reached : (net : Netlist) (v : ℕ) (g : Gate) → Contains net.gates g → Reaches net v g.variable →
    Reaches net v (right_variable g)
right_reached net v g in_net itself = right g in_net itself
right_reached net v g in_net (left h here r) = left h here (right_reached net (left_variable h) g in_net r)
right_reached net v g in_net (right h here r) = right h here (right_reached net (right_variable h) g in_net r)

module _ (f : Dqbf) (net : Netlist) (out : ℕ) where
  -- two assignments agree on what is reached below a variable
  abbrev Agree : ℕ → Assignment → Assignment → Type 0
  Agree at m n = (v : ℕ) → v < at → Reaches net out v → m v ≡ n v

  one_gate : (m n : Assignment) (at : ℕ) (g : Gate) → g.variable ≡ at → left_variable g < at → right_variable g < at →
      Contains net.gates g → Agree at m n →
      Agree (at + 1) (with_bit m g.variable (gate_value g (m (left_variable g)) (m (right_variable g))))
      (with_bit n g.variable (gate_value g (n (left_variable g)) (n (right_variable g))))
  one_gate m n at g is low_left low_right in_net agree v below reached =
      search (arith, cases_Bool, eqb-true, left_reached, right_reached, cond-true, cond-false, eq-eqb)

  all_gates : (gates : List Gate) (m n : Assignment) (at : ℕ) → AreGatesFrom f at gates →
      ((g : Gate) → Contains gates g → Contains net.gates g) → Agree at m n →
      Agree (at + length gates) (with_gates m gates) (with_gates n gates)
  all_gates [] m n at are within agree v below reached = agree v (omega (arith, below)) reached
  all_gates (g ∷ gates) m n at are within agree v below reached =
      all_gates gates (with_bit m g.variable (gate_value g (m (left_variable g)) (m (right_variable g))))
      (with_bit n g.variable (gate_value g (n (left_variable g)) (n (right_variable g)))) (at + 1) are.1 (λ h here. within h (there g gates h here))
      (one_gate m n at g are.0.numbered are.0.left_before are.0.right_before (within g (first g gates)) agree) v
      (omega (arith, below)) reached
    where
      first : (g : Gate) (gates : List Gate) → Contains (g ∷ gates) g
      first g gates = (0, omega arith, refl)

      there : (g : Gate) (gates : List Gate) (h : Gate) → Contains gates h → Contains (g ∷ gates) h
      there g gates h here = (suc here.0, omega (arith, here.1), here.2)

-- what holds of bits that aren't different is equal
stable : (a b : Bool) → ((a ≡ b → ⊥) → ⊥) → a ≡ b
stable true true h = refl
stable false false h = refl
stable true false h = absurd (h (λ e. apart e))
  where
    apart : true ≡ false → ⊥
    apart e = cc
stable false true h = absurd (h (λ e. apart e))
  where
    apart : false ≡ true → ⊥
    apart e = cc

pub depends : (f : Dqbf) (d : Definition) (y : Existential) → IsDefinitionOf f d → ReadsItsOwn f y d →
    (m n : Assignment) → AreAlike f y m n → definition_value d m ≡ definition_value d n
depends f d y lawful own m n alike =
    let out = literal_variable d.output in
    let parts = and_parts (is_readable f d.output) (nat_le out (f.variables + length d.gates)) lawful.output in
    let low : out < f.variables + 1 + length d.gates =
    omega (arith, leb-true out (f.variables + length d.gates) parts.1) in
    ap (signed_bit d.output)
    (all_gates f (definition_netlist f d) out d.gates (with_bit m 0 false) (with_bit n 0 false) (f.variables + 1)
    lawful.gates (λ g here. here) start out low itself)
  where
    positive : (v : ℕ) → (v == 0) ≡ false → 1 ≤ v
    positive zero h = cc
    positive (suc v) h = omega arith

    start : (v : ℕ) → v < f.variables + 1 → Reaches (definition_netlist f d) (literal_variable d.output) v →
        with_bit m 0 false v ≡ with_bit n 0 false v
    start v below reached =
        elim (cases_Bool (v == 0)) [
          | inl none ↦ cond-true (v == 0) false (m v) none ∙ sym (cond-true (v == 0) false (n v) none)
          | inr other ↦
              let some : 1 ≤ v = positive v other in
              cond-false (v == 0) false (m v) other
              ∙ stable (m v) (n v) (λ differ. own v (record {
                read = record { from_one = some; of_formula = omega (arith, below); reached = reached };
                foreign = λ may. differ (alike v may);
              }))
              ∙ sym (cond-false (v == 0) false (n v) other)
        ]
