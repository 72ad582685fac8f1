-- The steps by which a circuit is copied.
use Rattle.std.proofs.Common.{◌≡◌, ℕ, ◌+◌, ◌*◌, ◌/◌, ◌<◌, List, [], ◌∷◌, ◌++◌, map, take, length, get_or, sym, ap, ◌∙◌, subst, arith}
use Rattle.std.specs.Prelude.{Contains, slice_index}
use Rattle.std.proofs.lemmas.List.{take_more, map_more}
use Rattle.std.proofs.lemmas.List.Elements.{Contains-get_or}
use Rattle.circuit_plain.specs.Netlist.{Netlist, IsNetlist, IsDefined, IsVariable, IsLiteral, literal_variable, gate_at}
use Rattle.circuit_plain.proofs.NetlistLaws.{gate_at_member}
use Rattle.circuit_plain.proofs.NetlistParts.{half}
use Rattle.skolem_checker.specs.Renaming.{renamed_literal, known_variables, number_in, dense_number, renumbered_first}
use Rattle.skolem_checker.specs.SkolemCircuit.{IsComplete}
use Rattle.skolem_checker.proofs.LeastNumbers.{not_before, known_length, input_among, gate_among, known_once, literal_fits, input_is_variable, input_is_new, input_copied, gate_is_variable, gate_is_new}
use Rattle.skolem_checker.proofs.RenamedNetlists.{renamed_variable, known_input, known_gate, grounded_known, sides_grounded}

-- the next input to be known
module _ (net : Netlist) (kept : IsNetlist net) (keys items : List ℕ) (items_are : items ≡ net.inputs) (i : ℕ)
    (below : i < length items) (learnt : keys ≡ take (i + 1) (known_variables net)) where
  within : i < length net.inputs
  within = omega (arith, below, ap length items_are)

  input_is : get_or (known_variables net) (i + 1) 0 ≡ slice_index items i
  input_is = input_among net i 0 within ∙ ap (λ xs. slice_index xs i) (sym items_are)

  pub input_unlearnt : Contains keys (slice_index items i) → ⊥
  input_unlearnt among =
      not_before (known_variables net) (i + 1) 0 (known_once net kept) (omega (arith, known_length net, within))
      (subst (Contains (take (i + 1) (known_variables net))) (sym input_is)
      (subst (λ ks. Contains ks (slice_index items i)) learnt among))

  pub input_learnt : (new : List ℕ) → new ≡ keys ++ slice_index items i ∷ [] →
      new ≡ take (i + 1 + 1) (known_variables net)
  input_learnt new added =
      added ∙ ap (λ ks. ks ++ slice_index items i ∷ []) learnt
      ∙ ap (λ v. take (i + 1) (known_variables net) ++ v ∷ []) (sym input_is)
      ∙ sym (take_more (known_variables net) (i + 1) 0 (omega (arith, known_length net, within)))

-- the next gate to be known
module _ (net : Netlist) (kept : IsNetlist net) (keys : List ℕ) (j : ℕ) (below : j < length net.gates)
    (learnt : keys ≡ take (length net.inputs + j + 1) (known_variables net)) (v : ℕ)
    (is : v ≡ 2 * (gate_at net j).variable) where
  gate_is : get_or (known_variables net) (length net.inputs + j + 1) 0 ≡ v / 2
  gate_is = gate_among net j 0 below ∙ sym (ap (λ l. l / 2) is ∙ half (gate_at net j).variable)

  pub gate_unlearnt : Contains keys (v / 2) → ⊥
  gate_unlearnt among =
      not_before (known_variables net) (length net.inputs + j + 1) 0 (known_once net kept)
      (omega (arith, known_length net))
      (subst (Contains (take (length net.inputs + j + 1) (known_variables net))) (sym gate_is)
      (subst (λ ks. Contains ks (v / 2)) learnt among))

  pub gate_learnt : (new : List ℕ) → new ≡ keys ++ v / 2 ∷ [] →
      new ≡ take (length net.inputs + (j + 1) + 1) (known_variables net)
  gate_learnt new added = search (arith, gate_is, take_more, known_length)

-- the next input to be copied
module _ (net : Netlist) (keys items : List ℕ) (same : keys ≡ known_variables net) (items_are : items ≡ net.inputs)
    (i : ℕ) (below : i < length items) where
  pub next_input_known : Contains keys (slice_index items i)
  next_input_known =
      subst (λ ks. Contains ks (slice_index items i)) (sym same)
      (known_input net (slice_index items i) (subst (λ xs. Contains xs (slice_index items i)) items_are
      (Contains-get_or items i 0 below)))

  module _ (kept : IsNetlist net) (copy : Netlist) (so_far : copy ≡ renumbered_first net i 0 0) (m : ℕ)
      (number : m ≡ number_in keys (slice_index items i)) where
    inside : i < length net.inputs
    inside = omega (arith, below, ap length items_are)

    number_is : m ≡ dense_number net (slice_index net.inputs i)
    number_is = number ∙ ap (λ ks. number_in ks (slice_index items i)) same ∙ ap
        (λ xs. dense_number net (slice_index xs i)) items_are

    pub next_input_in_range : IsVariable copy.max_var m
    next_input_in_range = search (arith, input_is_variable)

    pub next_input_undefined : IsDefined copy m → ⊥
    next_input_undefined defined =
        input_is_new net kept i inside (subst (IsDefined (renumbered_first net i 0 0)) number_is
        (subst (λ c. IsDefined c m) so_far defined))

    pub next_input_copied : (new : Netlist) → new ≡ record copy { inputs = copy.inputs ++ m ∷ [] } →
        new ≡ renumbered_first net (i + 1) 0 0
    next_input_copied new added = search (arith, input_copied)

-- a literal whose variable is known
module _ (net : Netlist) (keys : List ℕ) (same : keys ≡ known_variables net) (l : ℕ)
    (known : Contains (known_variables net) (literal_variable l)) where
  pub literal_known : (read : ℕ) → read ≡ l → Contains keys (literal_variable read)
  literal_known read is = search arith

  pub literal_is : (read renumbered : ℕ) → read ≡ l → renumbered ≡ renamed_literal (number_in keys) read →
      renumbered ≡ renamed_literal (dense_number net) l
  literal_is read renumbered is renamed =
      renamed ∙ ap (renamed_literal (number_in keys)) is ∙ ap (λ ks. renamed_literal (number_in ks) l) same

  pub literal_in_range : (copy : Netlist) (read renumbered : ℕ) → read ≡ l →
      renumbered ≡ renamed_literal (number_in keys) read
      → copy.max_var ≡ length net.inputs + length net.gates → IsLiteral copy.max_var renumbered
  literal_in_range copy read renumbered is renamed most = search (arith, literal_fits)

-- the next gate to be copied
module _ (net : Netlist) (kept : IsNetlist net) (complete : IsComplete net) (j : ℕ) (below : j < length net.gates) where
  pub gate_variable_known : Contains (known_variables net) (literal_variable (2 * (gate_at net j).variable))
  gate_variable_known =
      subst (Contains (known_variables net)) (sym (half (gate_at net j).variable))
      (known_gate net (gate_at net j) (gate_at_member net j below))

  pub gate_sides_known : Contains (known_variables net) (literal_variable (gate_at net j).left) × Contains
      (known_variables net) (literal_variable (gate_at net j).right)
  gate_sides_known =
      let sides = sides_grounded net (gate_at net j) kept complete (gate_at_member net j below) in
      (grounded_known net sides.0, grounded_known net sides.1)

  module _ (copy : Netlist) (so_far : copy ≡ renumbered_first net (length net.inputs) j 0) (v : ℕ)
      (renamed : v ≡ renamed_literal (dense_number net) (2 * (gate_at net j).variable)) where
    gate_number_is : v / 2 ≡ dense_number net (gate_at net j).variable
    gate_number_is = search (arith, renamed_variable)

    pub next_gate_in_range : IsVariable copy.max_var (v / 2)
    next_gate_in_range = search (arith, gate_number_is, gate_is_variable)

    pub next_gate_undefined : IsDefined copy (v / 2) → ⊥
    next_gate_undefined defined =
        gate_is_new net kept j below
        (subst (IsDefined (renumbered_first net (length net.inputs) j 0)) gate_number_is
        (subst (λ c. IsDefined c (v / 2)) so_far defined))

-- the next output to be copied
module _ (net : Netlist) (complete : IsComplete net) (items : List ℕ) (items_are : items ≡ net.outputs) (o : ℕ)
    (below : o < length items) where
  pub output_known : Contains (known_variables net) (literal_variable (slice_index items o))
  output_known = search (arith, grounded_known)

  pub next_output_copied : (copy new : Netlist) (l : ℕ) → copy ≡ renumbered_first net (length net.inputs)
      (length net.gates) o
      → l ≡ renamed_literal (dense_number net) (slice_index items o) →
      new ≡ record copy { outputs = copy.outputs ++ l ∷ [] }
      → new ≡ renumbered_first net (length net.inputs) (length net.gates) (o + 1)
  next_output_copied copy new l so_far is added =
      let inside : o < length net.outputs = omega (arith, below, ap length items_are) in
      added
      ∙ ap (λ (c : Netlist). record c { outputs = c.outputs ++ l ∷ [] }) so_far
      ∙ ap {B = Netlist} (λ (out : ℕ). record (renumbered_first net (length net.inputs) (length net.gates) o) {
        outputs = map (renamed_literal (dense_number net)) (take o net.outputs) ++ out ∷ [];
      }) (is ∙ ap (λ xs. renamed_literal (dense_number net) (slice_index xs o)) items_are)
      ∙ ap {B = Netlist} (λ (outs : List ℕ). record (renumbered_first net (length net.inputs) (length net.gates) o)
      { outputs = outs })
      (sym (map_more (renamed_literal (dense_number net)) net.outputs o 0 inside))
