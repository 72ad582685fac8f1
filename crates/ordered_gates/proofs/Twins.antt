-- Netlists whose gates are the same but for the order of their sides give the same values.
use Rattle.std.proofs.Common.{◌≡◌, ◌∙◌, ◌<◌, ◌⊎◌, ℕ, Bool, inl, inr, length, sym, ap, subst}
use Rattle.std.specs.List.{Contains}
use Rattle.std.specs.Prelude.{slice_index}
use Rattle.list_laws.proofs.Truths.{and_turned}
use Rattle.circuit_plain.specs.Ground.{IsGrounded, constant as ground_constant, input as ground_input, gate as ground_gate}
use Rattle.circuit_plain.specs.Netlist.{Netlist, left_variable, right_variable, gate_value, signed_bit}
use Rattle.circuit_plain.specs.Reach.{Reaches, itself, left, right}
use Rattle.circuit_plain.specs.Value.{HasValue, constant, input, gate}
use Rattle.circuit_plain.specs.declared.circuits.Gate.{Gate}

abbrev pub turned : Gate → Gate
turned g = record { variable = g.variable; left = g.right; right = g.left }

-- a gate of the netlist is this one, or this one turned
pub record Twin (net : Netlist) (h : Gate) : Type 0 where
  pub twin : Gate
  pub inside : Contains net.gates twin
  pub is : (h ≡ twin) ⊎ (h ≡ turned twin)

module _ (one other : Netlist) (same : one.inputs ≡ other.inputs)
    (twins : (h : Gate) → Contains one.gates h → Twin other h) where
  ground_by : (h : Gate) (t : Twin other h) → IsGrounded other (left_variable h) → IsGrounded other (right_variable h) →
      IsGrounded other h.variable
  ground_by h t l r = by_side t.is where
    by_side : (h ≡ t.twin) ⊎ (h ≡ turned t.twin) → IsGrounded other h.variable
    by_side (inl e) = subst (λ k. IsGrounded other k.variable) (sym e)
        (ground_gate t.twin t.inside (subst (λ k. IsGrounded other (left_variable k)) e l)
        (subst (λ k. IsGrounded other (right_variable k)) e r))
    by_side (inr e) = subst (λ k. IsGrounded other k.variable) (sym e)
        (ground_gate t.twin t.inside (subst (λ k. IsGrounded other (right_variable k)) e r)
        (subst (λ k. IsGrounded other (left_variable k)) e l))

  pub grounded : {v : ℕ} → IsGrounded one v → IsGrounded other v
  grounded ground_constant = ground_constant
  grounded (ground_input {v} inside) = ground_input (subst (λ xs. Contains xs v) same inside)
  grounded (ground_gate h inside l r) = ground_by h (twins h inside) (grounded l) (grounded r)

  left_by : (h : Gate) (x : ℕ) (t : Twin other h) → Reaches other (left_variable h) x → Reaches other h.variable x
  left_by h x t l = by_side t.is where
    by_side : (h ≡ t.twin) ⊎ (h ≡ turned t.twin) → Reaches other h.variable x
    by_side (inl e) = subst (λ k. Reaches other k.variable x) (sym e)
        (left t.twin t.inside (subst (λ k. Reaches other (left_variable k) x) e l))
    by_side (inr e) = subst (λ k. Reaches other k.variable x) (sym e)
        (right t.twin t.inside (subst (λ k. Reaches other (left_variable k) x) e l))

  right_by : (h : Gate) (x : ℕ) (t : Twin other h) → Reaches other (right_variable h) x → Reaches other h.variable x
  right_by h x t r = by_side t.is where
    by_side : (h ≡ t.twin) ⊎ (h ≡ turned t.twin) → Reaches other h.variable x
    by_side (inl e) = subst (λ k. Reaches other k.variable x) (sym e)
        (right t.twin t.inside (subst (λ k. Reaches other (right_variable k) x) e r))
    by_side (inr e) = subst (λ k. Reaches other k.variable x) (sym e)
        (left t.twin t.inside (subst (λ k. Reaches other (right_variable k) x) e r))

  pub reaches : {v x : ℕ} → Reaches one v x → Reaches other v x
  reaches itself = itself
  reaches (left {x} h inside l) = left_by h x (twins h inside) (reaches l)
  reaches (right {x} h inside r) = right_by h x (twins h inside) (reaches r)

  value_by : (bits : ℕ → Bool) (h : Gate) (a b : Bool) (t : Twin other h) → HasValue other bits (left_variable h) a →
      HasValue other bits (right_variable h) b → HasValue other bits h.variable (gate_value h a b)
  value_by bits h a b t l r = by_side t.is where
    by_side : (h ≡ t.twin) ⊎ (h ≡ turned t.twin) → HasValue other bits h.variable (gate_value h a b)
    by_side (inl e) = subst (λ k. HasValue other bits k.variable (gate_value k a b)) (sym e)
        (gate t.twin t.inside (subst (λ k. HasValue other bits (left_variable k) a) e l)
        (subst (λ k. HasValue other bits (right_variable k) b) e r))
    by_side (inr e) = subst (λ k. HasValue other bits k.variable (gate_value k a b)) (sym e)
        (subst (λ c. HasValue other bits t.twin.variable c)
        (and_turned (signed_bit t.twin.left b) (signed_bit t.twin.right a))
        (gate t.twin t.inside (subst (λ k. HasValue other bits (right_variable k) b) e r)
        (subst (λ k. HasValue other bits (left_variable k) a) e l)))

  pub values : (bits : ℕ → Bool) {v : ℕ} {b : Bool} → HasValue one bits v b → HasValue other bits v b
  values bits constant = constant
  values bits (input i below e) = input i (subst (λ xs. i < length xs) same below)
      (ap (λ xs. slice_index xs i) (sym same) ∙ e)
  values bits (gate {a} {b} h inside l r) = value_by bits h a b (twins h inside) (values bits l) (values bits r)
