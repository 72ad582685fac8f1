-- Which literals of a circuit stand for variables.
use Rattle.std.proofs.Common.{◌≡◌, ◌≢◌, ℕ, ◌+◌, ◌*◌, ◌<◌, ◌≤◌, ◌==◌, false, cond, inl, inr, List, length, take, get_or, position, None, sym, ◌∙◌, ap, subst, arith}
use Rattle.std.specs.List.{AllPairs, Contains}
use Rattle.std.specs.Prelude.{slice_index}
use Rattle.std.proofs.lemmas.Bool.{cases_Bool, cases_lt}
use Rattle.std.proofs.lemmas.List.{get_or_past}
use Rattle.dq_formula.proofs.Places.{has, place, place-absent}
use Rattle.dq_formula.proofs.Sorted.{place-below}
use Rattle.circuit_plain.specs.Netlist.{IsNetlist}
use Rattle.skolem_checker.specs.SkolemCircuit.{MappedCircuit}
use Rattle.skolem_checker.proofs.LeastNumbers.{not_before}
use Rattle.proof_checker.specs.CircuitProof.{circuit_literal}

pub new_here : (xs keys : List ℕ) (i x : ℕ) → AllPairs (λ v w. v ≢ w) xs → i < length xs → x ≡ get_or xs i x →
    keys ≡ take i xs
    → Contains keys x → ⊥
new_here xs keys i x once lt is same among =
    not_before xs i x once lt (subst (Contains (take i xs)) is (subst (λ ks. Contains ks x) same among))

absent_place : (xs : List ℕ) (v : ℕ) → None ≡ position (λ u. u == v) xs → place xs v ≡ length xs
absent_place xs v none = place-absent (λ u. u == v) xs (sym none)

absent : (xs : List ℕ) (v : ℕ) → None ≡ position (λ u. u == v) xs → has xs v ≡ false
absent xs v none =
    elim (cases_Bool (has xs v)) [
      | inl among ↦ let below = place-below xs v among in absurd (omega (arith, below, absent_place xs v none))
      | inr apart ↦ apart
    ]

-- where nothing stands for a variable
pub no_literal : (c : MappedCircuit) (v n answer : ℕ) → None ≡ position (λ u. u == v) c.mapping.inputs →
    None ≡ position (λ u. u == v) c.mapping.outputs
    → n ≡ length c.mapping.outputs → answer ≡ slice_index c.netlist.outputs n → answer ≡ circuit_literal c v
no_literal c v n answer no_input no_output is answer_is =
    answer_is ∙ ap (slice_index c.netlist.outputs) (is ∙ sym (absent_place c.mapping.outputs v no_output))
    ∙ sym (ap (λ b. cond b (2 * slice_index c.netlist.inputs (place c.mapping.inputs v))
    (slice_index c.netlist.outputs (place c.mapping.outputs v)))
    (absent c.mapping.inputs v no_input))

module _ (c : MappedCircuit) (kept : IsNetlist c.netlist) where
  input_below : (p : ℕ) → slice_index c.netlist.inputs p ≤ c.netlist.max_var
  input_below p = search (arith, cases_lt, get_or_past)

  output_below : (p : ℕ) → slice_index c.netlist.outputs p ≤ 2 * c.netlist.max_var + 1
  output_below p = search (arith, cases_lt, get_or_past)

  pub literal_below : (v : ℕ) → circuit_literal c v ≤ 2 * c.netlist.max_var + 1
  literal_below v = search (arith, input_below, output_below)
