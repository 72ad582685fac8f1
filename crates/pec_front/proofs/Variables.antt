-- A circuit's inputs and gates, each once.
use Rattle.std.proofs.Common.{◌≡◌, ℕ, ◌+◌, ◌<◌, inl, inr, List, [], ◌∷◌, ◌++◌, length, get_or, take, sym, ◌∙◌, ap, subst, arith, append_assoc}
use Rattle.std.specs.List.{Contains}
use Rattle.std.proofs.lemmas.List.{take_more, get_or-take, get_or-map, length-take-le, length-map}
use Rattle.std.proofs.lemmas.List.Elements.{Contains-append_cases}
use Rattle.circuit_plain.specs.Netlist.{Netlist, IsNetlist, gate_at, gate_variables, variable_of_gate}
use Rattle.circuit_plain.proofs.NetlistLaws.{input_apart}
use Rattle.pec_front.proofs.RaisedLevels.{no-gate}
use Rattle.list_laws.proofs.Members.{contained_at}

gate-variable-at : (net : Netlist) (i d : ℕ) → i < length net.gates
    → get_or (gate_variables net) i d ≡ (gate_at net i).variable
gate-variable-at net i d below = get_or-map variable_of_gate net.gates i no-gate d below

-- the next gate's variable isn't among those before it
pub next-new : (net : Netlist) → IsNetlist net → (i : ℕ) → i < length net.gates → (keys : List ℕ)
    → keys ≡ net.inputs ++ take i (gate_variables net) → (v : ℕ) → v ≡ (gate_at net i).variable → Contains keys v
    → ⊥
next-new net kept i below keys is v at among =
    elim (Contains-append_cases net.inputs (take i (gate_variables net)) v (subst (λ ks. Contains ks v) is among)) [
      | inl input ↦ input_apart net kept v (gate_at net i) input (contained_at net.gates i no-gate below) at
      | inr earlier ↦ search (arith, length-map, length-take-le, gate-variable-at, get_or-take)
    ]

pub next-pushed : (net : Netlist) (i : ℕ) → i < length net.gates → (keys new : List ℕ)
    → keys ≡ net.inputs ++ take i (gate_variables net) → (v : ℕ) → v ≡ (gate_at net i).variable
    → new ≡ keys ++ v ∷ [] → new ≡ net.inputs ++ take (i + 1) (gate_variables net)
next-pushed net i below keys new is v at pushed =
    let long = length-map net.gates variable_of_gate in
    pushed ∙ ap (λ ks. ks ++ v ∷ []) is
    ∙ append_assoc net.inputs (take i (gate_variables net)) (v ∷ [])
    ∙ ap (λ n. net.inputs ++ (take i (gate_variables net) ++ n ∷ [])) (at ∙ sym (gate-variable-at net i 0 below))
    ∙ ap (λ ks. net.inputs ++ ks) (sym (take_more (gate_variables net) i 0 (omega (arith, below, long))))
