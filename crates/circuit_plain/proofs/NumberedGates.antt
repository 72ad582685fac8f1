-- Gates that stand in the order of their variables.
use Rattle.std.proofs.Common.{◌≡◌, ℕ, zero, suc, ◌+◌, ◌<◌, ◌==◌, inl, inr, Bool, true, false, ◌&&◌, ◌||◌, nat_lt, List, [], ◌∷◌, ◌++◌, length, get_or, refl, sym, ap, ◌∙◌, subst, arith, below_more}
use Rattle.std.specs.Prelude.{Contains, slice_index}
use Rattle.std.proofs.lemmas.Bool.{and_parts}
use Rattle.std.proofs.lemmas.Bool.Decides.{nat_tests}
use Rattle.circuit_plain.specs.declared.circuits.Gate.{Gate}
use Rattle.std.proofs.lemmas.List.{get_or_default}
use Rattle.circuit_plain.specs.Ground.{IsGrounded, constant, input, gate}
use Rattle.circuit_plain.specs.Netlist.{Netlist, IsNetlist, AreFirstNumbers, gate_at, literal_variable, variable_of_gate}
use Rattle.circuit_plain.specs.Order.{IsOrder}
use Rattle.circuit_plain.specs.Steps.{IsDraft}
use Rattle.circuit_plain.proofs.EvaluationLaws.{gate_read}
use Rattle.circuit_plain.proofs.SortSteps.{IsLeafBefore, leaves_draft, put_gate, whole_order}

abbrev pub below : ℕ → ℕ → Bool
below n v = nat_lt v n

is_below : (v n : ℕ) → nat_lt v n ≡ true → v < n
is_below v n on = grind (arith, nat_tests)

tests_below : (v n : ℕ) → v < n → nat_lt v n ≡ true
tests_below v n less = grind (arith, nat_tests)

not_below : (n : ℕ) → nat_lt n n ≡ false
not_below n = grind (arith, nat_tests)

adds : (n v : ℕ) → nat_lt v (n + 1) ≡ (nat_lt v n || (n == v))
adds n v = grind (arith, nat_tests)

same_number : (a b : ℕ) → (a == b) ≡ true → a ≡ b
same_number a b on = grind (arith, nat_tests)

-- the gates before a place stand so
pub record NumberedSoFar (net : Netlist) (places : List ℕ) (n : ℕ) : Type 0 where
  pub draft : IsDraft net places (below (length net.inputs + 1 + n))
  pub variables : (p : ℕ) → p < n → (gate_at net p).variable ≡ length net.inputs + 1 + p

module _ (net : Netlist) (first : (k : ℕ) → k < length net.inputs → slice_index net.inputs k ≡ k + 1) where
  leaf : (v : ℕ) → nat_lt v (length net.inputs + 1 + 0) ≡ true → IsLeafBefore net (length net.inputs) v
  leaf zero on = inl refl
  leaf (suc k) on =
      let less = is_below (suc k) _ on in
      let k_in : k < length net.inputs = omega (arith, less) in
      inr (k, k_in, first k k_in ∙ omega arith)

  back : (v : ℕ) → IsLeafBefore net (length net.inputs) v → nat_lt v (length net.inputs + 1 + 0) ≡ true
  back v (inl z) = tests_below v _ (omega (arith, z))
  back v (inr (k, k_in, is)) =
      let same : k + 1 ≡ v = sym (first k k_in) ∙ is in
      tests_below v _ (omega (arith, same, k_in))

  pub none_so_far : NumberedSoFar net [] 0
  none_so_far = record {
    draft = leaves_draft net (below (length net.inputs + 1 + 0)) (length net.inputs) refl (λ v. (leaf v, back v));
    variables = λ p less. absurd (omega (arith, less));
  }

-- one gate more; g is the gate read
pub one_more : (net : Netlist) (gates : List Gate) (places after : List ℕ) (g : Gate) (p n : ℕ) → net.gates ≡ gates →
    p < length net.gates → g ≡ get_or gates p g → n ≡ length net.inputs + 1 + p → NumberedSoFar net places p →
    ((g.variable == n) && (nat_lt (literal_variable g.left) n && nat_lt (literal_variable g.right) n)) ≡ true →
    after ≡ places ++ p ∷ [] → NumberedSoFar net after (p + 1)
one_more net gates places after g p n same p_in read n_is so_far next after_is =
    let parts = and_parts (g.variable == n) _ next in
    let variable : g.variable ≡ n = same_number g.variable n parts.0 in
    let more : length net.inputs + 1 + p + 1 ≡ length net.inputs + 1 + (p + 1) = omega arith in
    let here : IsDraft net places (below n) = subst (λ m. IsDraft net places (below m)) (sym n_is) so_far.draft in
    record {
      draft = subst (λ m. IsDraft net after (below m)) (ap (λ m. m + 1) n_is ∙ more)
          (put_gate net gates places (below n) g p same p_in read here after (below (n + 1))
          (ap (below n) variable ∙ not_below n) parts.1 after_is
          (λ v. adds n v ∙ ap (λ m. nat_lt v n || (m == v)) (sym variable)));
      variables = below_more (λ q. (gate_at net q).variable ≡ length net.inputs + 1 + q) p so_far.variables
          (sym (ap variable_of_gate (gate_read net gates g p same p_in read)) ∙ variable ∙ n_is);
    }

pub all_stand : (net : Netlist) (places : List ℕ) (n : ℕ) → IsNetlist net → n ≡ length net.gates →
    NumberedSoFar net places n → IsOrder net places
all_stand net places n kept whole so_far =
    whole_order net places kept so_far.draft.partial
    (λ p p_in.
    let less : p < n = omega (arith, whole, p_in) in
    (so_far.draft.exact _).0 (tests_below _ _ (subst (λ v. v < length net.inputs + 1 + n) (sym (so_far.variables p less))
    (omega (arith, less)))))

-- the variables before a place, and the gates there, are in the least set
pub record GroundedSoFar (net : Netlist) (n : ℕ) : Type 0 where
  pub below : (v : ℕ) → v < length net.inputs + 1 + n → IsGrounded net v
  pub gates : (p : ℕ) → p < n → IsGrounded net (gate_at net p).variable

pub inputs_grounded : (net : Netlist) → AreFirstNumbers net.inputs → GroundedSoFar net 0
inputs_grounded net first = record { below = leaves; gates = λ p less. absurd (omega (arith, less)) }
  where
    leaves : (v : ℕ) → v < length net.inputs + 1 + 0 → IsGrounded net v
    leaves zero less = constant
    leaves (suc k) less =
        let k_in : k < length net.inputs = omega (arith, less) in
        input (k, k_in, get_or_default net.inputs k (suc k) 0 k_in ∙ first k k_in ∙ omega arith)

-- one gate more; g is the gate read
pub gate_grounded : (net : Netlist) (gates : List Gate) (g : Gate) (p n : ℕ) → net.gates ≡ gates → p < length net.gates →
    g ≡ get_or gates p g → n ≡ length net.inputs + 1 + p → GroundedSoFar net p →
    ((g.variable == n) && (nat_lt (literal_variable g.left) n && nat_lt (literal_variable g.right) n)) ≡ true →
    GroundedSoFar net (p + 1)
gate_grounded net gates g p n same p_in read n_is so_far next =
    let parts = and_parts (g.variable == n) _ next in
    let sides = and_parts (nat_lt (literal_variable g.left) n) (nat_lt (literal_variable g.right) n) parts.1 in
    let variable : g.variable ≡ n = same_number g.variable n parts.0 in
    let stands : g ≡ gate_at net p = gate_read net gates g p same p_in read in
    let left = is_below (literal_variable g.left) n sides.0 in
    let right = is_below (literal_variable g.right) n sides.1 in
    let member : Contains net.gates g = (p, p_in, sym (ap (λ gs. get_or gs p g) (sym same)) ∙ sym read) in
    let grounded : IsGrounded net g.variable =
    gate g member (so_far.below (literal_variable g.left) (omega (arith, left, n_is)))
    (so_far.below (literal_variable g.right) (omega (arith, right, n_is))) in
    record {
      below = λ v less.
          below_more (IsGrounded net) (length net.inputs + 1 + p) so_far.below
          (subst (IsGrounded net) (variable ∙ n_is) grounded) v (omega (arith, less));
      gates = below_more (λ q. IsGrounded net (gate_at net q).variable) p so_far.gates
          (subst (λ h. IsGrounded net h.variable) stands grounded);
    }
