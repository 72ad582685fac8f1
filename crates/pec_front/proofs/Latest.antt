-- Boxes stand in order exactly where the latest box that each reads from stands before it.
use Rattle.std.proofs.Common.{ℕ, ◌<◌, ◌≤◌, inl, inr, List, length, get_or, arith}
use Rattle.std.specs.List.{All, Contains}
use Rattle.std.proofs.lemmas.Bool.{cases_lt}
use Rattle.std.proofs.lemmas.List.{get_or_default}
use Rattle.std.proofs.Common.{subst}
use Rattle.std.proofs.lemmas.List.Elements.{All-contains}
use Rattle.circuit_plain.specs.Netlist.{Netlist, literal_variable, left_variable, right_variable}
use Rattle.circuit_plain.specs.declared.circuits.Gate.{Gate}
use Rattle.circuit_plain.specs.Reach.{Reaches, itself, left, right}
use Rattle.pec_front.specs.Boxes.{BlackBox, StandInOrder}
use Rattle.pec_front.specs.Latest.{IsLatest, LatestShowsOrder}

-- what is reached is no later
pub later : (net : Netlist) (boxes : List BlackBox) (latest : ℕ → ℕ) → IsLatest net boxes latest → {v x : ℕ}
    → Reaches net v x → latest x ≤ latest v
later net boxes latest is {v} itself = omega arith
later net boxes latest is (left g inside r) =
    let below = later net boxes latest is r in
    let up = (All-contains
    (λ (h : Gate). (latest (left_variable h) ≤ latest h.variable)
    × (latest (right_variable h) ≤ latest h.variable)) net.gates g is.gates inside).0 in
    omega (arith, below, up)
later net boxes latest is (right g inside r) =
    let below = later net boxes latest is r in
    let up = (All-contains
    (λ (h : Gate). (latest (left_variable h) ≤ latest h.variable)
    × (latest (right_variable h) ≤ latest h.variable)) net.gates g is.gates inside).1 in
    omega (arith, below, up)

pub shows : LatestShowsOrder
shows net boxes latest is = (there, back)
  where
    there : StandInOrder net boxes → (i : ℕ) (e : BlackBox) → i < length boxes
        → All (λ l. latest (literal_variable l) ≤ i) (get_or boxes i e).ins
    there ordered i e below k d under =
        let l = get_or (get_or boxes i e).ins k d in
        elim (cases_lt i (latest (literal_variable l))) [
          | inr fine ↦ fine
          | inl late ↦
              let r = is.reached (literal_variable l) i late in
              let first = get_or_default boxes r.box r.default e r.in_range in
              absurd (All-contains (λ o. ¬ Reaches net (literal_variable l) (literal_variable o))
              (get_or boxes r.box e).outs r.out (ordered i r.box e r.behind r.in_range k d under)
              (subst (λ (b : BlackBox). Contains b.outs r.out) first r.drives) r.reaches)
        ]

    back : ((i : ℕ) (e : BlackBox) → i < length boxes → All (λ l. latest (literal_variable l) ≤ i)
        (get_or boxes i e).ins) → StandInOrder net boxes
    back low i j e less below k d under n f within reach =
        let at = low i e (omega (arith, less, below)) k d under in
        let high = is.outs j e below n f within in
        let reached = later net boxes latest is reach in
        omega (arith, at, high, reached, less)
