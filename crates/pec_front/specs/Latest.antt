-- The order of boxes by one number for each variable.
use Rattle.std.specs.Prelude.{◌↔◌, ℕ, ◌<◌, ◌≤◌, List, length, slice_index_or}
use Rattle.std.specs.List.{All, Contains}
use Rattle.circuit_plain.specs.Netlist.{Netlist, literal_variable, left_variable, right_variable}
use Rattle.circuit_plain.specs.Reach.{Reaches}
use Rattle.pec_front.specs.Boxes.{BlackBox, StandInOrder}

-- a variable reaches what a box drives that stands at this place or behind
pub record ReachesBox (net : Netlist) (boxes : List BlackBox) (v place : ℕ) : Type 0 where
  pub box : ℕ
  pub in_range : box < length boxes
  pub behind : place ≤ box
  pub out : ℕ
  pub default : BlackBox
  pub drives : Contains (slice_index_or boxes box default).outs out
  pub reaches : Reaches net v (literal_variable out)

-- by variable, one more than the greatest place of a box of which it reaches what it drives; one
-- pass over the gates in their order computes it
pub record IsLatest (net : Netlist) (boxes : List BlackBox) (latest : ℕ → ℕ) : Type 0 where
  pub gates : All
      (λ g. (latest (left_variable g) ≤ latest g.variable)
      × (latest (right_variable g) ≤ latest g.variable)) net.gates
  pub outs : (j : ℕ) (default : BlackBox) → j < length boxes
      → All (λ out. j < latest (literal_variable out)) (slice_index_or boxes j default).outs
  pub reached : (v place : ℕ) → place < latest v → ReachesBox net boxes v place

abbrev pub LatestShowsOrder : Type 0
LatestShowsOrder =
    (net : Netlist) (boxes : List BlackBox) (latest : ℕ → ℕ) → IsLatest net boxes latest
    → StandInOrder net boxes
    ↔ ((i : ℕ) (default : BlackBox) → i < length boxes
    → All (λ l. latest (literal_variable l) ≤ i) (slice_index_or boxes i default).ins)
