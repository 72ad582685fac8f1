-- The laws of orders.
use Rattle.std.proofs.Common.{◌≡◌, ℕ, zero, suc, ◌+◌, ◌<◌, ◌≤◌, inl, inr, List, [], ◌∷◌, ◌++◌, length, take, refl, sym, ap, ◌∙◌, subst, arith}
use Rattle.std.specs.Prelude.{Contains, slice_index}
use Rattle.std.proofs.lemmas.List.{get_or_default, take_more, take_all}
use Rattle.circuit_plain.specs.declared.circuits.Gate.{Gate}
use Rattle.circuit_plain.specs.Ground.{IsGrounded, constant, input, gate}
use Rattle.circuit_plain.specs.Netlist.{Netlist, gate_at}
use Rattle.circuit_plain.specs.Order.{IsSettled, AreSidesSettled, IsOrder, OrdersGround}
use Rattle.circuit_plain.specs.Steps.{IsPartialOrder, IsClosed}
use Rattle.circuit_plain.proofs.EvaluationLaws.{settled_cases, settled_defined}
use Rattle.circuit_plain.proofs.NetlistLaws.{gate_at_member}

-- an order is its own beginning
pub partial_of_order : (net : Netlist) (order : List ℕ) → IsOrder net order → IsPartialOrder net order
partial_of_order net order ordered = record {
  in_range = ordered.in_range;
  each_once = ordered.each_once;
  follows = ordered.follows;
}

-- what the first places of a partial order settle is in the least set
ground_first : (net : Netlist) (places : List ℕ) → IsPartialOrder net places → (n : ℕ) → n ≤ length places
    → (v : ℕ) → IsSettled net (take n places) v → IsGrounded net v
ground_first net places partial zero below v settled =
    elim settled [
      | inl z ↦ subst (IsGrounded net) (sym z) constant
      | inr (inl i) ↦ input i
      | inr (inr (k, k_in, _)) ↦ absurd (omega arith)
    ]
ground_first net places partial (suc n) below v settled =
    let n_in : n < length places = omega arith in
    let p : ℕ = slice_index places n in
    let one_more : suc n ≡ n + 1 = omega arith in
    let next : take (suc n) places ≡ take n places ++ p ∷ [] =
    ap (λ (i : ℕ). take i places) one_more ∙ take_more places n 0 n_in in
    let ready = partial.follows n n_in in
    let earlier : (w : ℕ) → IsSettled net (take n places) w → IsGrounded net w =
    ground_first net places partial n (omega arith) in
    elim (settled_cases net (take n places) p v (subst (λ (ps : List ℕ). IsSettled net ps v) next settled)) [
      | inl before ↦ earlier v before
      | inr here ↦
          subst (IsGrounded net) here
          (gate (gate_at net p) (gate_at_member net p (partial.in_range n 0 n_in)) (earlier _ ready.0)
          (earlier _ ready.1))
    ]

pub settled_ground : (net : Netlist) (places : List ℕ) → IsPartialOrder net places → (v : ℕ) → IsSettled net places v →
    IsGrounded net v
settled_ground net places partial v settled =
    let whole : take (length places) places ≡ places = take_all (length places) places (omega arith) in
    ground_first net places partial (length places) (omega arith) v
    (subst (λ (ps : List ℕ). IsSettled net ps v) (sym whole) settled)

pub orders_ground : OrdersGround
orders_ground net order v ordered defined =
    settled_ground net order (partial_of_order net order ordered) v (settled_defined net order v ordered defined)

put_since_ready : (net : Netlist) (places : List ℕ) → IsClosed net places → (g : Gate) → Contains net.gates g →
    AreSidesSettled net places g → IsSettled net places g.variable
put_since_ready net places closed g (p, p_in, is) ready =
    let gate_is : gate_at net p ≡ g = get_or_default net.gates p _ g p_in ∙ is in
    elim (closed p p_in) [
      | inl put ↦ subst (λ (h : Gate). IsSettled net places h.variable) gate_is put
      | inr stuck ↦ absurd (stuck (subst (λ (h : Gate). AreSidesSettled net places h) (sym gate_is) ready))
    ]

-- where no further gate can be put, what is in the least set is settled
pub grounded_settled : (net : Netlist) (places : List ℕ) → IsClosed net places → {v : ℕ} → IsGrounded net v →
    IsSettled net places v
grounded_settled net places closed constant = inl refl
grounded_settled net places closed (input i) = inr (inl i)
grounded_settled net places closed (gate g g_in p q) =
    put_since_ready net places closed g g_in (
      grounded_settled net places closed p,
      grounded_settled net places closed q,
    )
