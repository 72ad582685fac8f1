-- Gates, as their reader takes them and as the grammar spells them.
use Rattle.std.proofs.Common.{◌≡◌, ℕ, zero, suc, ◌+◌, ◌-◌, ◌*◌, ◌<◌, ◌≤◌, true, false, cond, Bool, List, [], ◌∷◌, ◌++◌, length, refl, sym, ◌∙◌, ap, arith, append_assoc, append-nil}
use Rattle.std.specs.Prelude.{Result, Ok, Err}
use Rattle.std.proofs.lemmas.Bool.{cond-false, ltb-false, le-ltb, ne_eqb, eqb-false}
use Rattle.circuit_plain.specs.Netlist.{Netlist}
use Rattle.circuit_plain.specs.declared.circuits.Gate.{Gate}
use Rattle.aiger_text.specs.Lines.{with_gate}
use Rattle.aiger_text.specs.declared.faults.AagFault.{AagFault}
use Rattle.aig_binary.specs.Deltas.{most_groups, and_then, read_delta}
use Rattle.aig_binary.specs.Gates.{lowered, first_side, read_gate, read_gates, SpellsGate, SpellsGates}
use Rattle.aig_binary.proofs.SpelledDeltas.{goes_on, ok_is, delta_from, delta_is}

unless_error : {A : Type 0} (b : Bool) (name : AagFault) (r : Result A AagFault) (v : A) → cond b (Err name) r ≡ Ok v →
    (b ≡ false) × (r ≡ Ok v)
unless_error true name r v h = cc
unless_error false name r v h = (refl, h)

lowered_is : (literal delta side : ℕ) → lowered literal delta ≡ Ok side → (delta ≤ literal) × (side ≡ literal - delta)
lowered_is literal delta side read = search (arith, unless_error, ltb-false)

lowered_from : (literal side : ℕ) → side ≤ literal → lowered literal (literal - side) ≡ Ok side
lowered_from literal side less = search (arith, cond-false, le-ltb)

first_side_is : (literal delta side : ℕ) → first_side literal delta ≡ Ok side →
    (1 ≤ delta) × (delta ≤ literal) × (side ≡ literal - delta)
first_side_is literal delta side read = search (arith, unless_error, lowered_is, eqb-false)

first_side_from : (literal side : ℕ) → side < literal → first_side literal (literal - side) ≡ Ok side
first_side_from literal side less = search (arith, cond-false, ne_eqb, lowered_from)

-- the steps of a gate's reading
abbrev pub gate_with : ℕ → ℕ → List ℕ → ℕ → Result (Gate × List ℕ) AagFault
gate_with v left rest right = Ok (record { variable = v; left = left; right = right }, rest)

abbrev pub behind_second : ℕ → ℕ → ℕ × List ℕ → Result (Gate × List ℕ) AagFault
behind_second v left second = and_then (lowered left second.0) (gate_with v left second.1)

abbrev pub behind_left : ℕ → List ℕ → ℕ → Result (Gate × List ℕ) AagFault
behind_left v bytes left = and_then (read_delta most_groups bytes) (behind_second v left)

abbrev pub behind_first : ℕ → ℕ × List ℕ → Result (Gate × List ℕ) AagFault
behind_first v first = and_then (first_side (2 * v) first.0) (behind_left v first.1)

pub gate_from : (v : ℕ) (code rest : List ℕ) (g : Gate) → SpellsGate v code g → read_gate v (code ++ rest) ≡ Ok
    (g, rest)
gate_from v code rest g s =
    let bytes = s.second ++ rest in
    let parted : code ++ rest ≡ s.first ++ bytes =
    ap (λ bs. bs ++ rest) s.parts ∙ append_assoc s.first s.second rest in
    let first = delta_from most_groups s.first (2 * v - g.left) bytes s.first_spelled.groups s.first_spelled.few in
    let second = delta_from most_groups s.second (g.left - g.right) rest s.second_spelled.groups s.second_spelled.few in
    ap (λ bs. and_then (read_delta most_groups bs) (behind_first v)) parted
    ∙ ap (λ r. and_then r (behind_first v)) first
    ∙ ap (λ r. and_then r (behind_left v bytes)) (first_side_from (2 * v) g.left s.left)
    ∙ ap (λ r. and_then r (behind_second v g.left)) second
    ∙ ap (λ r. and_then r (gate_with v g.left rest)) (lowered_from g.left g.right s.right)
    ∙ ap (λ k. Ok (record { variable = k; left = g.left; right = g.right }, rest)) (sym s.variable)

-- the bytes begin with a gate
pub record IsGateOf (v : ℕ) (bytes : List ℕ) (g : Gate) (rest : List ℕ) : Type 0 where
  pub code : List ℕ
  pub parted : bytes ≡ code ++ rest
  pub spelled : SpellsGate v code g

pub same_gate : (v left right : ℕ) (rest behind : List ℕ) (g : Gate) →
    gate_with v left rest right ≡ Ok (g, behind) →
    (g.variable ≡ v) × (g.left ≡ left) × (g.right ≡ right) × (rest ≡ behind)
same_gate v left right rest behind g h = search (arith, ok_is)

pub gate_is : (v : ℕ) (bytes : List ℕ) (g : Gate) (rest : List ℕ) → read_gate v bytes ≡ Ok (g, rest) →
    IsGateOf v bytes g rest
gate_is v bytes g rest read =
    let first = goes_on (read_delta most_groups bytes) (behind_first v) (g, rest) read in
    let left = goes_on (first_side (2 * v) first.0.0) (behind_left v first.0.1) (g, rest) first.2 in
    let second = goes_on (read_delta most_groups first.0.1) (behind_second v left.0) (g, rest) left.2 in
    let right = goes_on (lowered left.0 second.0.0) (gate_with v left.0 second.0.1) (g, rest) second.2 in
    let is = same_gate v left.0 right.0 second.0.1 rest g right.2 in
    let d = delta_is most_groups bytes first.0.0 first.0.1 first.1 in
    let e = delta_is most_groups first.0.1 second.0.0 second.0.1 second.1 in
    let side = first_side_is (2 * v) first.0.0 left.0 left.1 in
    let other = lowered_is left.0 second.0.0 right.0 right.1 in
    let delta : first.0.0 ≡ 2 * v - g.left = omega (arith, side.0, side.1, side.2, is.1) in
    let step : second.0.0 ≡ g.left - g.right = omega (arith, other.0, other.1, is.1, is.2) in
    record {
      code = d.code ++ e.code;
      parted = d.parted ∙ ap (λ bs. d.code ++ bs) (e.parted ∙ ap (λ bs. e.code ++ bs) is.3)
          ∙ sym (append_assoc d.code e.code rest);
      spelled = search arith;
    }

-- a netlist with more gates
abbrev pub with_gates : Netlist → List Gate → Netlist
with_gates net gs = record net { gates = net.gates ++ gs }

gates_behind : (net : Netlist) (g : Gate) (gs : List Gate) → with_gates (with_gate net g) gs ≡ with_gates net (g ∷ gs)
gates_behind net g gs = ap (λ all. record net { gates = all }) (append_assoc net.gates (g ∷ []) gs)

no_more : (net : Netlist) → net ≡ with_gates net []
no_more net = ap (λ all. record net { gates = all }) (sym (append-nil net.gates))

abbrev gates_on : ℕ → ℕ → Netlist → Gate × List ℕ → Result (Netlist × List ℕ) AagFault
gates_on more v net read = read_gates more (v + 1) (with_gate net read.0) read.1

pub gates_from : (gs : List Gate) (v : ℕ) (net : Netlist) (code rest : List ℕ) → SpellsGates v code gs →
    read_gates (length gs) v net (code ++ rest) ≡ Ok (with_gates net gs, rest)
gates_from [] v net code rest none =
    ap (λ bs. Ok (net, bs ++ rest)) none ∙ ap (λ n. Ok (n, rest)) (no_more net)
gates_from (g ∷ gs) v net code rest (own, others, parts, spelled, more) =
    let parted : code ++ rest ≡ own ++ (others ++ rest) =
    ap (λ bs. bs ++ rest) parts ∙ append_assoc own others rest in
    ap (λ bs. and_then (read_gate v bs) (gates_on (length gs) v net)) parted
    ∙ ap (λ r. and_then r (gates_on (length gs) v net)) (gate_from v own (others ++ rest) g spelled)
    ∙ gates_from gs (v + 1) (with_gate net g) others rest more
    ∙ ap (λ n. Ok (n, rest)) (gates_behind net g gs)

-- so many gates, and the bytes that spell them
pub record AreGatesRead (n v : ℕ) (net made : Netlist) (bytes rest : List ℕ) : Type 0 where
  pub gates : List Gate
  pub code : List ℕ
  pub counted : length gates ≡ n
  pub parted : bytes ≡ code ++ rest
  pub spelled : SpellsGates v code gates
  pub made_is : made ≡ with_gates net gates

pub gates_are : (n v : ℕ) (net made : Netlist) (bytes rest : List ℕ) → read_gates n v net bytes ≡ Ok (made, rest) →
    AreGatesRead n v net made bytes rest
gates_are zero v net made bytes rest read =
    let both = ok_is (read_gates zero v net bytes) (net, bytes) (made, rest) refl read in
    let net_is : net ≡ made = ap (λ (p : Netlist × List ℕ). p.0) both in
    let rest_is : bytes ≡ rest = ap (λ (p : Netlist × List ℕ). p.1) both in
    record {
      gates = [];
      code = [];
      counted = refl;
      parted = rest_is;
      spelled = refl;
      made_is = sym net_is ∙ no_more net;
    }
gates_are (suc n) v net made bytes rest read =
    let on = goes_on (read_gate v bytes) (gates_on n v net) (made, rest) read in
    let g = gate_is v bytes on.0.0 on.0.1 on.1 in
    let c = gates_are n (v + 1) (with_gate net on.0.0) made on.0.1 rest on.2 in
    record {
      gates = on.0.0 ∷ c.gates;
      code = g.code ++ c.code;
      counted = ap suc c.counted;
      parted = g.parted ∙ ap (λ bs. g.code ++ bs) c.parted ∙ sym (append_assoc g.code c.code rest);
      spelled = (g.code, c.code, refl, g.spelled, c.spelled);
      made_is = c.made_is ∙ gates_behind net on.0.0 c.gates;
    }
