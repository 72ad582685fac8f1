-- A circuit in which each gate has its greater side first, as AIGER's binary form has it (A. Biere,
-- "The AIGER And-Inverter Graph (AIG) Format", 2007), and a proof over it.
use Rattle.std.specs.Prelude.{ℕ, zero, suc, ◌+◌, ◌*◌, ◌==◌, ◌&&◌, nat_lt, Bool, true, List, [], ◌∷◌, map, length, if◌then◌else◌}
use Rattle.circuit_plain.specs.Netlist.{Netlist}
use Rattle.circuit_plain.specs.declared.circuits.Gate.{Gate}
use Rattle.rup_core.specs.Items.{ProofItem, derived, gone}
use Rattle.aiger_text.specs.declared.files.AagFile.{AagFile}
use Rattle.cert_text.specs.declared.circuit_proofs.Dqp.{Dqp}

-- the lesser side stands first
abbrev pub is_turned : Gate → Bool
is_turned g = nat_lt g.left g.right

abbrev pub ordered_gate : Gate → Gate
ordered_gate g =
    if is_turned g then record { variable = g.variable; left = g.right; right = g.left } else g

abbrev pub ordered_netlist : Netlist → Netlist
ordered_netlist net = record net { gates = map ordered_gate net.gates }

abbrev pub ordered_file : AagFile → AagFile
ordered_file file = record file { circuit = ordered_netlist file.circuit }

-- each gate has three clauses: of its first side, of its second side, and of both; a clause of one
-- side goes where that side went
abbrev pub turned_place : List Gate → ℕ → ℕ
turned_place [] place = place
turned_place (g ∷ gs) zero = if is_turned g then 1 else 0
turned_place (g ∷ gs) (suc zero) = if is_turned g then 0 else 1
turned_place (g ∷ gs) (suc (suc zero)) = 2
turned_place (g ∷ gs) (suc (suc (suc place))) = suc (suc (suc (turned_place gs place)))

-- the gates' clauses have the ids from 1 on
abbrev pub turned_id : List Gate → ℕ → ℕ
turned_id gates zero = zero
turned_id gates (suc place) = suc (turned_place gates place)

-- an item of a proof over the ordered circuit: only lines are deleted, and these keep their ids
abbrev pub ordered_item : List Gate → ProofItem → ProofItem
ordered_item gates (derived step) =
    derived (record step { hints = map (turned_id gates) step.hints })
ordered_item gates (gone ids) = gone ids

abbrev pub ordered_proof : Netlist → Dqp → Dqp
ordered_proof net proof = record { items = map (ordered_item net.gates) proof.items }

-- the numbers from n on
abbrev pub are_from : ℕ → List ℕ → Bool
are_from n [] = true
are_from n (v ∷ vs) = v == n && are_from (n + 1) vs

-- the gate of variable v, which reads what comes before it
abbrev pub is_sorted_gate : ℕ → Gate → Bool
is_sorted_gate v g = g.variable == v && (nat_lt g.left (2 * v) && nat_lt g.right (2 * v))

-- of the variables from v on
abbrev pub are_sorted : ℕ → List Gate → Bool
are_sorted v [] = true
are_sorted v (g ∷ gs) = is_sorted_gate v g && are_sorted (v + 1) gs

-- inputs and then gates are numbered from 1 on, each in its order, and each gate reads what comes
-- before it
abbrev pub is_sorted : Netlist → Bool
is_sorted net =
    net.max_var == length net.inputs + length net.gates
    && (are_from 1 net.inputs && are_sorted (length net.inputs + 1) net.gates)
