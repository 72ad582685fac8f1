-- Gates of consecutive variables: the next one is new, and so are the inputs before them.
use Rattle.std.proofs.Common.{◌≡◌, ℕ, zero, suc, ◌+◌, ◌<◌, inl, inr, get_or, List, [], ◌∷◌, ◌++◌, length, sym, ◌∙◌, ap, arith}
use Rattle.std.proofs.lemmas.List.{get_or-map, length-map}
use Rattle.std.proofs.lemmas.List.FromFn.{length-range_with_len, get_or-range_with_len}
use Rattle.circuit_plain.specs.Netlist.{Netlist, IsDefined, variable_of_gate}
use Rattle.circuit_plain.specs.declared.circuits.Gate.{Gate}
use Rattle.aig_binary.specs.BareReading.{AreNumbered}
use Rattle.aig_binary.specs.Scan.{first_variables}
use Rattle.list_laws.proofs.Numbers.{range_more}

pub numbered_push : (gs : List Gate) (v : ℕ) (g : Gate) → AreNumbered v gs → g.variable ≡ v + length gs →
    AreNumbered v (gs ++ g ∷ [])
numbered_push [] v g are is = (omega (arith, is), tt)
numbered_push (h ∷ gs) v g (here, more) is = (here, numbered_push gs (v + 1) g more (omega (arith, is)))

pub numbered_at : (gs : List Gate) (v k : ℕ) (d : Gate) → AreNumbered v gs → k < length gs →
    (get_or gs k d).variable ≡ v + k
numbered_at [] v k d are below = absurd (omega arith)
numbered_at (g ∷ gs) v zero d (here, more) below = let last : v ≡ v + 0 = omega arith in here ∙ last
numbered_at (g ∷ gs) v (suc k) d (here, more) below = search (arith, (numbered_at gs (v + 1) k d more))

no_gate : Gate
no_gate = record { variable = 0; left = 0; right = 0 }

-- a variable before the gates' or behind them is none of theirs
pub fresh : (net : Netlist) (v w : ℕ) → AreNumbered v net.gates →
    ((k : ℕ) → k < length net.inputs → get_or net.inputs k w ≡ w → ⊥) →
    ((k : ℕ) → k < length net.gates → v + k ≡ w → ⊥) → ¬ IsDefined net w
fresh net v w are no_input none (inl (k, below, is)) = no_input k below is
fresh net v w are no_input none (inr (k, below, is)) =
    let inside : k < length net.gates = rw (length-map net.gates variable_of_gate) at below in
    let same : (get_or net.gates k no_gate).variable ≡ w =
    sym (get_or-map variable_of_gate net.gates k no_gate w inside) ∙ is in
    let at_place = numbered_at net.gates v k no_gate are inside in
    none k inside (omega arith)

pub fresh_gate : (net : Netlist) (v : ℕ) → net.inputs ≡ [] → AreNumbered v net.gates →
    ¬ IsDefined net (v + length net.gates)
fresh_gate net v none are =
    let empty : length net.inputs ≡ 0 = ap length none in
    fresh net v (v + length net.gates) are (λ k below is. omega arith) (λ k below is. omega arith)

pub fresh_input : (net : Netlist) (n i : ℕ) → net.inputs ≡ first_variables i → AreNumbered (n + 1) net.gates → i < n →
    ¬ IsDefined net (i + 1)
fresh_input net n i are_inputs are below =
    let long : length net.inputs ≡ i = ap length are_inputs ∙ length-range_with_len 1 i in
    fresh net (n + 1) (i + 1) are
    (λ k inside is.
    let place = ap (λ xs. get_or xs k (i + 1)) (sym are_inputs) in
    let number = get_or-range_with_len 1 i k (i + 1) (omega arith) in
    omega arith)
    (λ k inside is. omega arith)

pub one_more_input : (net : Netlist) (i : ℕ) →
    record net { inputs = first_variables i ++ (i + 1) ∷ [] } ≡ record net { inputs = first_variables (i + 1) }
one_more_input net i = search (arith, (range_more 1 i))
