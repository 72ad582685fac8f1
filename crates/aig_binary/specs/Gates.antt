-- Gates in binary AIGER: each is the next variable, and its literal, the first right side and the
-- second are told by their differences.
use Rattle.std.specs.Prelude.{◌≡◌, ℕ, zero, suc, ◌+◌, ◌-◌, ◌*◌, ◌<◌, ◌≤◌, ◌==◌, nat_lt, List, [], ◌∷◌, ◌++◌, length, Result, Ok, Err, if◌then◌else◌}
use Rattle.circuit_plain.specs.Netlist.{Netlist}
use Rattle.circuit_plain.specs.declared.circuits.Gate.{Gate}
use Rattle.aiger_text.specs.Lines.{with_gate}
use Rattle.aiger_text.specs.declared.faults.AagFault.{AagFault}
use Rattle.aiger_text.specs.declared.faults.AagFault.TheVariants.{BadDelta}
use Rattle.aig_binary.specs.Deltas.{most_groups, and_then, read_delta, AreGroups}

-- a literal less a difference, which may not be more
abbrev pub lowered : ℕ → ℕ → Result ℕ AagFault
lowered literal delta = if nat_lt literal delta then Err BadDelta else Ok (literal - delta)

-- the first right side is less than the gate's literal
abbrev pub first_side : ℕ → ℕ → Result ℕ AagFault
first_side literal delta = if delta == 0 then Err BadDelta else lowered literal delta

-- the gate of a variable, and what stands behind it
abbrev pub read_gate : ℕ → List ℕ → Result (Gate × List ℕ) AagFault
read_gate v bytes =
    and_then (read_delta most_groups bytes) (λ first.
    and_then (first_side (2 * v) first.0) (λ left.
    and_then (read_delta most_groups first.1) (λ second.
    and_then (lowered left second.0) (λ right.
    Ok (record { variable = v; left = left; right = right }, second.1)))))

-- a netlist with so many more gates, of the variables from v on, and what stands behind them
abbrev pub read_gates : ℕ → ℕ → Netlist → List ℕ → Result (Netlist × List ℕ) AagFault
read_gates zero v net bytes = Ok (net, bytes)
read_gates (suc more) v net bytes =
    and_then (read_gate v bytes) (λ read. read_gates more (v + 1) (with_gate net read.0) read.1)

-- these bytes are this difference, in not too many groups
pub record SpellsDelta (code : List ℕ) (n : ℕ) : Type 0 where
  pub groups : AreGroups code n
  pub few : length code ≤ most_groups

-- the bytes are the differences of the gate of variable v
pub record SpellsGate (v : ℕ) (code : List ℕ) (g : Gate) : Type 0 where
  pub variable : g.variable ≡ v
  pub left : g.left < 2 * v
  pub right : g.right ≤ g.left
  pub first : List ℕ
  pub second : List ℕ
  pub parts : code ≡ first ++ second
  pub first_spelled : SpellsDelta first (2 * v - g.left)
  pub second_spelled : SpellsDelta second (g.left - g.right)

-- gate by gate, of the variables from v on
abbrev pub SpellsGates : ℕ → List ℕ → List Gate → Type 0
SpellsGates v code [] = code ≡ []
SpellsGates v code (g ∷ gs) =
    (own : List ℕ) × (others : List ℕ) × (code ≡ own ++ others) × SpellsGate v own g
    × SpellsGates (v + 1) others gs
