-- Numbered gates: what their clauses say makes a valuation of the circuit.
use Rattle.std.proofs.Common.{◌≡◌, ℕ, ◌*◌, ◌/◌, ◌%◌, ◌<◌, ◌==◌, Bool, true, false, not, cond, ◌&&◌, ◌||◌, [], ◌∷◌, length, get_or, sym, ◌∙◌, ap, arith}
use Rattle.std.specs.List.{All}
use Rattle.list_laws.proofs.Truths.{gate_bit}
use Rattle.dq_lits.specs.Literal.{Assignment}
use Rattle.circuit_plain.specs.Netlist.{Netlist, literal_bit}
use Rattle.circuit_plain.specs.declared.circuits.Gate.{Gate}
use Rattle.circuit_plain.specs.Ground.{IsGrounded}
use Rattle.circuit_plain.specs.Value.{IsValuation, GroundedHaveValues, ValuationsAgree}
use Rattle.cert_text.specs.NegatedMatrix.{opposite_of, gate_clauses}
use Rattle.pec_front.specs.Encoding.{on_number, numbered_gate}
use Rattle.pec_front.proofs.Clauses.{with_constant, raw_true, opposite-bit}

-- the circuit's variables as the formula's assignment has them
abbrev pub seen_by : (ℕ → ℕ) → Assignment → ℕ → Bool
seen_by number m v = with_constant m (number v)

pub on_number-bit : (number : ℕ → ℕ) (m : Assignment) (l : ℕ) → literal_bit (with_constant m) (on_number number l)
    ≡ literal_bit (seen_by number m) l
on_number-bit number m l = search arith

pub even-bit : (m : ℕ → Bool) (v : ℕ) → literal_bit m (2 * v) ≡ m v
even-bit m v = search arith

-- a gate's clauses make its equation
pub gate-holds : (number : ℕ → ℕ) (m : Assignment) (g : Gate)
    → All (λ c. raw_true m c ≡ true) (gate_clauses (numbered_gate number g)) →
    seen_by number m g.variable ≡ (literal_bit (seen_by number m) g.left && literal_bit (seen_by number m) g.right)
gate-holds number m g all =
    let n = with_constant m in
    let out = 2 * number g.variable in
    let a = on_number number g.left in
    let b = on_number number g.right in
    let bit-out : literal_bit n out ≡ n (number g.variable) = even-bit n (number g.variable) in
    let not-out : literal_bit n (opposite_of out) ≡ not (n (number g.variable)) = opposite-bit n out ∙ ap not bit-out in
    let bit-a = on_number-bit number m g.left in
    let bit-b = on_number-bit number m g.right in
    let not-a = opposite-bit n a ∙ ap not bit-a in
    let not-b = opposite-bit n b ∙ ap not bit-b in
    let first : raw_true m (opposite_of out ∷ a ∷ []) ≡ true = all 0 [] (omega arith) in
    let second : raw_true m (opposite_of out ∷ b ∷ []) ≡ true = all 1 [] (omega arith) in
    let third : raw_true m (out ∷ opposite_of a ∷ opposite_of b ∷ []) ≡ true = all 2 [] (omega arith) in
    let x = n (number g.variable) in
    let y = literal_bit (seen_by number m) g.left in
    let z = literal_bit (seen_by number m) g.right in
    gate_bit x y z
    (sym (ap (λ p. p || (literal_bit n a || false)) not-out ∙ ap (λ p. not x || (p || false)) bit-a) ∙ first)
    (sym (ap (λ p. p || (literal_bit n b || false)) not-out ∙ ap (λ p. not x || (p || false)) bit-b) ∙ second)
    (sym (ap (λ p. p || (literal_bit n (opposite_of a) || (literal_bit n (opposite_of b) || false))) bit-out
    ∙ ap (λ p. x || (p || (literal_bit n (opposite_of b) || false))) not-a
    ∙ ap (λ p. x || (not y || (p || false))) not-b) ∙ third)

-- where all gates' clauses hold and the inputs have these bits, it is a valuation
pub is-valuation : (net : Netlist) (number : ℕ → ℕ) (bits : ℕ → Bool) (m : Assignment) → number 0 ≡ 0 →
    ((i : ℕ) → i < length net.inputs → seen_by number m (get_or net.inputs i 0) ≡ bits i) →
    All (λ g. All (λ c. raw_true m c ≡ true) (gate_clauses (numbered_gate number g))) net.gates →
    All (λ g. seen_by number m g.variable
    ≡ (literal_bit (seen_by number m) g.left && literal_bit (seen_by number m) g.right)) net.gates
is-valuation net number bits m zero' inputs gates k d below = search (arith, gate-holds)

-- two valuations under the same bits agree on what is grounded
pub same-values : GroundedHaveValues → ValuationsAgree → (net : Netlist) (bits m n : ℕ → Bool)
    → IsValuation net bits m → IsValuation net bits n → (v : ℕ) → IsGrounded net v → m v ≡ n v
same-values grounded agree net bits m n left right v ground =
    let value = grounded net bits v ground in
    agree net bits m v value.0 left value.1 ∙ sym (agree net bits n v value.0 right value.1)

pub same-bits : (m n : ℕ → Bool) (l : ℕ) → m (l / 2) ≡ n (l / 2) → literal_bit m l ≡ literal_bit n l
same-bits m n l h = ap (λ b. cond (l % 2 == 1) (not b) b) h
