-- Where the variables have the least numbers, each literal in range stands on one that is defined.
use Rattle.std.proofs.Common.{◌≡◌, ℕ, zero, suc, ◌-◌, ◌/◌, ◌<◌, ◌≤◌, ◌==◌, ◌||◌, not, true, inl, inr, length, get_or, None, refl, ap, ◌∙◌, arith}
use Rattle.std.proofs.lemmas.Bool.{and_from, cases_lt, or_right}
use Rattle.std.proofs.lemmas.List.{get_or_default, get_or-map, length-map}
use Rattle.circuit_plain.specs.declared.circuits.Gate.{Gate}
use Rattle.circuit_plain.specs.Netlist.{Netlist, IsNetlist, IsDefined, IsLiteral, HasLeastNumbers, variable_of_gate}
use Rattle.aiger_text.specs.Lines.{is_defined}
use Rattle.aiger_text.specs.Scan.{Body, stands_on_defined, reads_defined, undefined_line}
use Rattle.aiger_text.proofs.Cuts.{position-None}
use Rattle.aiger_text.proofs.Variables.{defined_is}

module _ (net : Netlist) (least : HasLeastNumbers net) where
  no_gate : Gate
  no_gate = record { variable = 0; left = 0; right = 0 }

  is_defined_in_range : (k : ℕ) → k < net.max_var → IsDefined net (suc k)
  is_defined_in_range k last = elim (cases_lt k (length net.inputs)) [
    | inl below ↦ inl (k, below, get_or_default net.inputs k (suc k) 0 below ∙ least.inputs k below ∙ omega arith)
    | inr past ↦
        let j = k - length net.inputs in
        let count = least.count in
        let below : j < length net.gates = omega (arith, past, last, count) in
        let number = least.gates j no_gate below in
        inr (
          j,
          omega (arith, below, length-map net.gates variable_of_gate),
          get_or-map variable_of_gate net.gates j no_gate (suc k) below ∙ omega (arith, number, past),
        )
  ]

  stands_in_range : (v : ℕ) → v ≤ net.max_var → ((v == 0) || is_defined net v) ≡ true
  stands_in_range zero last = refl
  stands_in_range (suc k) last =
      or_right (suc k == 0) (is_defined net (suc k))
      (defined_is net (suc k) (is_defined_in_range k (omega (arith, last))))

  literal_stands : (l : ℕ) → IsLiteral net.max_var l → stands_on_defined net l ≡ true
  literal_stands l fits = stands_in_range (l / 2) (omega (arith, fits))

-- so no line names another variable
pub none_undefined : (b : Body) → IsNetlist b.netlist → HasLeastNumbers b.netlist → undefined_line b ≡ None
none_undefined b kept least =
    let net = b.netlist in
    let none : Gate = record { variable = 0; left = 0; right = 0 } in
    let outputs = position-None (λ l. not (stands_on_defined net l)) net.outputs 0
    (λ k below. ap not (literal_stands net least (get_or net.outputs k 0) (kept.outputs_fit k 0 below))) in
    let gates = position-None (λ g. not (reads_defined net g)) net.gates none
    (λ k below.
    let g = get_or net.gates k none in
    let fits = kept.gates_fit k none below in
    ap not (and_from (stands_on_defined net g.left) (stands_on_defined net g.right)
    (literal_stands net least g.left fits.left) (literal_stands net least g.right fits.right))) in
    cc
