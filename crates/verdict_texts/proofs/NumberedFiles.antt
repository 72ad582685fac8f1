-- A circuit that is exported has its gates sorted.
use Rattle.std.proofs.Common.{◌≡◌, ℕ, suc, zero, ◌+◌, ◌==◌, ◌&&◌, nat_lt, true, List, [], ◌∷◌, map, length, refl, sym, ◌∙◌, ap, arith}
use Rattle.std.specs.List.{All, range_with_len}
use Rattle.std.proofs.lemmas.Bool.{and_from, eq-eqb, lt-ltb}
use Rattle.std.proofs.lemmas.List.Elements.{All-head, All-tail}
use Rattle.std.proofs.lemmas.List.FromFn.{length-range_with_len}
use Rattle.dq_lits.specs.Formula.{Dqbf}
use Rattle.aiger_text.specs.declared.files.AagFile.{AagFile}
use Rattle.circuit_plain.specs.Netlist.{variable_of_gate}
use Rattle.circuit_plain.specs.declared.circuits.Gate.{Gate}
use Rattle.cert_export.specs.ExportedCircuit.{HasSmallerSides, IsNumberedFile}
use Rattle.ordered_gates.specs.Circuits.{are_from, is_sorted_gate, are_sorted as are_sorted_from, is_sorted}

range_from : (a n : ℕ) → are_from a (range_with_len a n) ≡ true
range_from a zero = refl
range_from a (suc n) = search (arith, and_from, eq-eqb, (range_from (a + 1) n))

sorted_gate : (v : ℕ) (g : Gate) → g.variable ≡ v → HasSmallerSides g → is_sorted_gate v g ≡ true
sorted_gate v g is s = search (arith, and_from, nat_lt, eq-eqb, lt-ltb)

gates_sorted : (v : ℕ) (gs : List Gate) → map variable_of_gate gs ≡ range_with_len v (length gs) →
    All HasSmallerSides gs → are_sorted_from v gs ≡ true
gates_sorted v [] are small = refl
gates_sorted v (g ∷ gs) are small =
    let first : g.variable ≡ v = cc in
    let rest : map variable_of_gate gs ≡ range_with_len (v + 1) (length gs) = cc in
    and_from (is_sorted_gate v g) (are_sorted_from (v + 1) gs)
    (sorted_gate v g first (All-head HasSmallerSides g gs small))
    (gates_sorted (v + 1) gs rest (All-tail HasSmallerSides g gs small))

pub are_sorted : (f : Dqbf) (file : AagFile) → IsNumberedFile f file → is_sorted file.circuit ≡ true
are_sorted f file x =
    let net = file.circuit in
    let inputs : length net.inputs ≡ length f.universals =
    ap length x.inputs ∙ length-range_with_len 1 (length f.universals) in
    let max : net.max_var ≡ length net.inputs + length net.gates =
    x.max_var ∙ ap (λ n. n + length net.gates) (sym inputs) in
    let gates : map variable_of_gate net.gates ≡ range_with_len (length net.inputs + 1) (length net.gates) =
    x.gates ∙ ap (λ n. range_with_len (n + 1) (length net.gates)) (sym inputs) in
    and_from (net.max_var == length net.inputs + length net.gates)
    (are_from 1 net.inputs && are_sorted_from (length net.inputs + 1) net.gates)
    (eq-eqb net.max_var (length net.inputs + length net.gates) max)
    (and_from (are_from 1 net.inputs) (are_sorted_from (length net.inputs + 1) net.gates)
    (ap (are_from 1) x.inputs ∙ range_from 1 (length f.universals))
    (gates_sorted (length net.inputs + 1) net.gates gates x.sides))
