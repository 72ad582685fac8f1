-- A definition's gates by their places, and that their numbers are small.
use Rattle.std.proofs.Common.{◌≡◌, ℕ, zero, suc, ◌+◌, ◌-◌, ◌*◌, ◌/◌, ◌≤◌, ◌<◌, List, [], ◌∷◌, ◌++◌, length, get_or, slice_get, sym, ap, ◌∙◌, subst, arith}
use Rattle.std.specs.List.{flat_map}
use Rattle.list_laws.proofs.Elements.{get-append_left, get-append_right}
use Rattle.dq_lits.specs.Formula.{Dqbf}
use Rattle.circuit_plain.specs.Netlist.{left_variable, right_variable}
use Rattle.circuit_plain.specs.declared.circuits.Gate.{Gate}
use Rattle.cert_text.specs.AllowedDefinitions.{AreGatesFrom, IsDefinitionOf, IsGateAt}
use Rattle.cert_text.specs.DefinitionBlocks.{Definition}
use Rattle.cert_text.specs.NegatedMatrix.{gate_clauses}
use Rattle.cert_text.proofs.NegatedClauses.{gates_counted}
use Rattle.defined_checker.specs.Bases.{IsSmallGate}

pub gate_at : (f : Dqbf) (at : ℕ) (gates : List Gate) → AreGatesFrom f at gates → (k : ℕ) (g d : Gate) →
    k < length gates → g ≡ get_or gates k d → IsGateAt f (at + k) g
gate_at f at [] are k g d below is = absurd (omega (arith, below))
gate_at f at (h ∷ gates) are zero g d below is =
    let first : at ≡ at + 0 = omega arith in
    subst (λ n. IsGateAt f n g) first (subst (IsGateAt f at) (sym is) are.0)
gate_at f at (h ∷ gates) are (suc k) g d below is =
    let next : at + 1 + k ≡ at + suc k = omega arith in
    subst (λ n. IsGateAt f n g) next (gate_at f (at + 1) gates are.1 k g d (omega (arith, below)) is)

pub small_gate : (f : Dqbf) (d : Definition) → IsDefinitionOf f d → f.variables ≤ 1000000 → (k : ℕ) (g e : Gate) →
    k < length d.gates → g ≡ get_or d.gates k e → IsSmallGate g
small_gate f d lawful few k g e below is =
    let at = gate_at f (f.variables + 1) d.gates lawful.gates k g e below is in
    let numbered : g.variable ≡ f.variables + 1 + k = at.numbered in
    let many : length d.gates ≤ 1000000000 = lawful.few in
    let low : left_variable g < f.variables + 1 + k = at.left_before in
    let high : right_variable g < f.variables + 1 + k = at.right_before in
    record {
      variable = omega (arith, numbered, many, below, few);
      left = omega (arith, low, many, below, few);
      right = omega (arith, high, many, below, few);
    }

-- the clauses of the gates stand before the others
pub of_gates : (gates : List Gate) (others : List (List ℕ)) (i : ℕ) → i / 3 < length gates →
    slice_get (flat_map gate_clauses gates ++ others) i ≡ slice_get (flat_map gate_clauses gates) i
of_gates gates others i below =
    let long = gates_counted gates in
    get-append_left (flat_map gate_clauses gates) others i (omega (arith, long, below))

pub behind_gates : (gates : List Gate) (others : List (List ℕ)) (i : ℕ) → length gates ≤ i / 3 →
    slice_get (flat_map gate_clauses gates ++ others) i ≡ slice_get others (i - 3 * length gates)
behind_gates gates others i behind =
    let long = gates_counted gates in
    let at : i ≡ length (flat_map gate_clauses gates) + (i - 3 * length gates) = omega (arith, long, behind) in
    ap (slice_get (flat_map gate_clauses gates ++ others)) at
    ∙ get-append_right (flat_map gate_clauses gates) others (i - 3 * length gates)
