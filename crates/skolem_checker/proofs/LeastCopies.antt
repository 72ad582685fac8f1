-- A netlist whose variables have the least numbers is its own renumbered copy.
use Rattle.std.proofs.Common.{◌≡◌, ℕ, ◌++◌, map, get_or, sym, ap, ◌∙◌, arith}
use Rattle.std.specs.Prelude.{All, Contains}
use Rattle.std.proofs.lemmas.List.{get_or_default}
use Rattle.std.proofs.lemmas.List.Elements.{All-cons, All-append, All-map, All-contains, Contains-get_or}
use Rattle.std.proofs.lemmas.List.Folds.{map_fixed}
use Rattle.circuit_plain.specs.declared.circuits.Gate.{Gate}
use Rattle.circuit_plain.specs.Netlist.{Netlist, IsNetlist, HasLeastNumbers, literal_variable, gate_variables, variable_of_gate, gate_at}
use Rattle.skolem_checker.specs.Renaming.{renamed_literal, renamed_gate, known_variables, dense_number, renumbered}
use Rattle.skolem_checker.specs.SkolemCircuit.{IsComplete}
use Rattle.skolem_checker.proofs.LeastNumbers.{number_of_input, number_of_gate, dense_renaming}
use Rattle.skolem_checker.proofs.RenamedNetlists.{grounded_known, sides_grounded}

module _ (net : Netlist) (kept : IsNetlist net) (least : HasLeastNumbers net) where
  input_stays : All (λ v. dense_number net v ≡ v) net.inputs
  input_stays k d below =
      let read = get_or_default net.inputs k d 0 below in
      ap (dense_number net) read ∙ number_of_input net kept k below ∙ sym (least.inputs k below) ∙ sym read

  gate_stays : All (λ (g : Gate). dense_number net g.variable ≡ g.variable) net.gates
  gate_stays k d below =
      let none : Gate = record { variable = 0; left = 0; right = 0 } in
      let read : (get_or net.gates k d).variable ≡ (gate_at net k).variable =
      ap variable_of_gate (get_or_default net.gates k d none below) in
      let number = number_of_gate net kept k below in
      let least_number = least.gates k none below in
      ap (dense_number net) read ∙ number ∙ omega (arith, least_number) ∙ sym read

  number_stays : All (λ v. dense_number net v ≡ v) (known_variables net)
  number_stays =
      All-cons (λ v. dense_number net v ≡ v) 0 (net.inputs ++ gate_variables net)
      (dense_renaming net kept).constant_stays
      (All-append (λ v. dense_number net v ≡ v) net.inputs (gate_variables net) input_stays
      (All-map (λ v. dense_number net v ≡ v) variable_of_gate net.gates gate_stays))

  literal_stays : (l : ℕ) → Contains (known_variables net) (literal_variable l)
      → renamed_literal (dense_number net) l ≡ l
  literal_stays l known =
      let same = All-contains (λ v. dense_number net v ≡ v) (known_variables net) (literal_variable l) number_stays
      known in
      omega (arith, same)

  same_gate : (g : Gate) → dense_number net g.variable ≡ g.variable
      → renamed_literal (dense_number net) g.left ≡ g.left
      → renamed_literal (dense_number net) g.right ≡ g.right → renamed_gate (dense_number net) g ≡ g
  same_gate g own left right =
      ap (λ v. record (renamed_gate (dense_number net) g) { variable = v }) own
      ∙ ap (λ l. record (renamed_gate (dense_number net) g) { variable = g.variable; left = l }) left
      ∙ ap (λ r. record g { right = r }) right

  module _ (complete : IsComplete net) where
    outputs_stay : map (renamed_literal (dense_number net)) net.outputs ≡ net.outputs
    outputs_stay = map_fixed (renamed_literal (dense_number net)) net.outputs (λ k d below.
        literal_stays (get_or net.outputs k d) (grounded_known net (complete.outputs k d below)))

    gates_stay : map (renamed_gate (dense_number net)) net.gates ≡ net.gates
    gates_stay = map_fixed (renamed_gate (dense_number net)) net.gates (λ k d below.
        let g = get_or net.gates k d in
        let sides = sides_grounded net g kept complete (Contains-get_or net.gates k d below) in
        same_gate g (gate_stays k d below) (literal_stays g.left (grounded_known net sides.0))
        (literal_stays g.right (grounded_known net sides.1)))

    pub least_numbers_stay : renumbered net ≡ net
    least_numbers_stay =
        ap (λ n. record (renumbered net) { max_var = n }) (sym least.count)
        ∙ ap (λ xs. record (renumbered net) { max_var = net.max_var; inputs = xs })
        (map_fixed (dense_number net) net.inputs input_stays)
        ∙ ap (λ ls. record net { outputs = ls; gates = map (renamed_gate (dense_number net)) net.gates }) outputs_stay
        ∙ ap (λ gs. record net { gates = gs }) gates_stay
