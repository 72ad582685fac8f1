-- The pass over the gates that gives each variable its level.
use Rattle.std.proofs.Common.{◌≡◌, ◌≢◌, ℕ, zero, suc, ◌+◌, ◌<◌, ◌≤◌, ◌==◌, nat_lt, max, Bool, true, false, cond, ◌⊎◌, inl, inr, List, length, get_or, take, replicate, set, Option, None, Some, refl, sym, ◌∙◌, ap, subst, arith}
use Rattle.std.specs.List.{All, Contains, list_any}
use Rattle.std.specs.Option.{MatchOption}
use Rattle.std.proofs.Math.Nat.{le-max_left, le-max_right, max-le}
use Rattle.std.proofs.lemmas.Bool.{true≢false, eqb-true, eq-eqb, ne_eqb, cond-true, cond-false, lt-ltb, ltb-true, cases_lt}
use Rattle.std.proofs.lemmas.List.{get_or_default, get_or-replicate, get_or-set_same, get_or-set_other, get_or-take, get_or-map, length-take-le, length-map}
use Rattle.std.proofs.lemmas.List.Elements.{All-contains, Contains-append_left, Contains-append_right}
use Rattle.std.proofs.lemmas.List.Quantifiers.{position-Some}
use Rattle.circuit_plain.specs.Netlist.{Netlist, IsNetlist, gate_at, gate_variables, literal_variable, left_variable, right_variable, variable_of_gate}
use Rattle.circuit_plain.specs.Order.{IsOrder, IsSettled}
use Rattle.circuit_plain.specs.Reach.{Reaches, itself, left, right}
use Rattle.circuit_plain.specs.declared.circuits.Gate.{Gate}
use Rattle.circuit_plain.proofs.NetlistLaws.{input_apart}
use Rattle.number_tables.specs.Numbers.{has_number, place_of}
use Rattle.pec_front.specs.BoxLine.{variables_of}
use Rattle.pec_front.specs.Boxes.{BlackBox, StandInOrder}
use Rattle.pec_front.specs.Latest.{ReachesBox, IsLatest, LatestShowsOrder}
use Rattle.pec_front.specs.Reading.{IsFirstOutOfOrder}
use Rattle.pec_front.specs.Steps.{DriveInputs, level_at, IsMarked, AreMarked, IsRaised, IsBelow, IsAbove, IsFirstAbove}
use Rattle.pec_front.proofs.Latest.{later}
use Rattle.pec_front.proofs.Values.{contained, any-contained}
use Rattle.list_laws.proofs.Members.{contained_at}

abbrev pub no-gate : Gate
no-gate = record { variable = 0; left = 0; right = 0 }

-- one place of the levels is written
pub level-set : (variables levels : List ℕ) (variable level place : ℕ)
    → place_of variables variable ≡ Some place → length levels ≡ length variables → (v : ℕ)
    → level_at (set levels place level) (place_of variables v)
    ≡ cond (v == variable) level (level_at levels (place_of variables v))
level-set variables levels variable level place found sized v =
    search (
      arith,
      position-Some,
      (get_or-set_other levels place),
      eqb-true,
      (eqb-true (get_or variables place 0) variable),
      (eqb-true v variable),
      (get_or-set_same levels place level 0),
      (eq-eqb v variable),
    )

pub no-level : (n : ℕ) (o : Option ℕ) → level_at (replicate n 0) o ≡ 0
no-level n None = refl
no-level n (Some p) =
    elim (cases_lt p n) [
      | inl below ↦ get_or-replicate n p 0 0 below
      | inr past ↦ zero-past n p
    ]
  where
    zero-past : (m k : ℕ) → get_or (replicate m zero) k zero ≡ zero
    zero-past zero k = refl
    zero-past (suc m) zero = refl
    zero-past (suc m) (suc k) = zero-past m k

-- the first literals, so many, have marked their variables
pub record MarkedFirst (old new : ℕ → ℕ) (outs : List ℕ) (count level : ℕ) : Type 0 where
  pub marked : (j : ℕ) → j < count → new (literal_variable (get_or outs j 0)) ≡ level
  pub others : (v : ℕ) → (new v ≡ old v)
      ⊎ ((new v ≡ level) × ((out : ℕ) × Contains outs out × (literal_variable out ≡ v)))

pub marked-all : (old new : ℕ → ℕ) (outs : List ℕ) (count level : ℕ) → length outs ≤ count
    → MarkedFirst old new outs count level → IsMarked old new outs level
marked-all old new outs count level many all = search (arith, get_or_default)

pub boxes-none : (net : Netlist) (boxes : List BlackBox) (levels : ℕ → ℕ) → ((v : ℕ) → levels v ≡ 0)
    → AreMarked net boxes 0 levels
boxes-none net boxes levels zeros = search arith

pub boxes-more : (net : Netlist) (boxes : List BlackBox) (i : ℕ) (box : BlackBox) (old new : ℕ → ℕ)
    → i < length boxes → get_or boxes i box ≡ box → AreMarked net boxes i old
    → IsMarked old new box.outs (i + 1) → AreMarked net boxes (i + 1) new
boxes-more net boxes i box old new inside at before marked =
    search (arith, cases_lt, get_or_default, literal_variable, itself)

-- the first gates of an order, so many, are no lower than what they read
pub record RaisedFirst (net : Netlist) (boxes : List BlackBox) (order : List ℕ) (count : ℕ)
    (levels : ℕ → ℕ) : Type 0 where
  pub gates : (j : ℕ) → j < count
      → (levels (left_variable (gate_at net (get_or order j 0)))
      ≤ levels (gate_at net (get_or order j 0)).variable)
      × (levels (right_variable (gate_at net (get_or order j 0)))
      ≤ levels (gate_at net (get_or order j 0)).variable)
  pub outs : (j : ℕ) (default : BlackBox) → j < length boxes
      → All (λ out. j < levels (literal_variable out)) (get_or boxes j default).outs
  pub reached : (v place : ℕ) → place < levels v → ReachesBox net boxes v place

module _ (net : Netlist) (kept : IsNetlist net) (order : List ℕ) (ordered : IsOrder net order) where
  pub place-below : (k : ℕ) → k < length order → get_or order k 0 < length net.gates
  place-below k below = ordered.in_range k 0 below

  gate-inside : (k : ℕ) → k < length order → Contains net.gates (gate_at net (get_or order k 0))
  gate-inside k below = contained_at net.gates (get_or order k 0) no-gate (place-below k below)

  -- gates at two places have two variables
  two-places : (p q : ℕ) → p < length net.gates → q < length net.gates → p ≢ q
      → (gate_at net p).variable ≢ (gate_at net q).variable
  two-places p q p_in q_in apart same = search (arith, cases_lt)

  earlier-gate : (i k : ℕ) → i < k → k < length order
      → (gate_at net (get_or order i 0)).variable ≢ (gate_at net (get_or order k 0)).variable
  earlier-gate i k less below = search (arith, two-places, place-below)

  -- what is settled before a gate is not its variable
  fresh : (j k : ℕ) (v : ℕ) → j ≤ k → k < length order → IsSettled net (take j order) v
      → v ≢ (gate_at net (get_or order k 0)).variable
  fresh j k v low below (inl z) same =
      let fits = (kept.gates_fit (get_or order k 0) no-gate (place-below k below)).variable.0 in
      omega (arith, fits, z, same)
  fresh j k v low below (inr (inl among)) same =
      input_apart net kept v (gate_at net (get_or order k 0)) among (gate-inside k below) same
  fresh j k v low below (inr (inr (i, inside, is))) same =
      let f : ℕ → ℕ = λ p. variable_of_gate (gate_at net p) in
      let long = length-map (take j order) f in
      let short = length-take-le j order (omega (arith, low, below)) in
      let early : i < j = omega (arith, inside, long, short) in
      earlier-gate i k (omega (arith, early, low)) below
      (ap f (sym (get_or-take j order i 0 early))
      ∙ sym (get_or-map f (take j order) i 0 v (omega (arith, inside, long))) ∙ is ∙ same)

  -- what isn't the gate's variable stays
  stays : (k : ℕ) (old new : ℕ → ℕ) → IsRaised net (get_or order k 0) old new → (v : ℕ)
      → v ≢ (gate_at net (get_or order k 0)).variable → new v ≡ old v
  stays k old new raised v apart =
      let g = gate_at net (get_or order k 0) in
      raised v ∙ cond-false (v == g.variable) (max (old (left_variable g)) (old (right_variable g))) (old v)
      (ne_eqb v g.variable apart)

  pub raised-more : (boxes : List BlackBox) → DriveInputs net boxes → (k : ℕ) → k < length order
      → (old new : ℕ → ℕ) → RaisedFirst net boxes order k old → IsRaised net (get_or order k 0) old new
      → RaisedFirst net boxes order (k + 1) new
  raised-more boxes drive k below old new before raised =
      record { gates = gates; outs = outs; reached = reached }
    where
      g : Gate
      g = gate_at net (get_or order k 0)

      top : ℕ
      top = max (old (left_variable g)) (old (right_variable g))

      here : new g.variable ≡ top
      here = raised g.variable ∙ cond-true (g.variable == g.variable) top (old g.variable)
          (eq-eqb g.variable g.variable refl)

      left-stays : (j : ℕ) → j ≤ k → new (left_variable (gate_at net (get_or order j 0)))
          ≡ old (left_variable (gate_at net (get_or order j 0)))
      left-stays j low =
          stays k old new raised (left_variable (gate_at net (get_or order j 0)))
          (fresh j k _ low below (ordered.follows j (omega (arith, low, below))).0)

      right-stays : (j : ℕ) → j ≤ k → new (right_variable (gate_at net (get_or order j 0)))
          ≡ old (right_variable (gate_at net (get_or order j 0)))
      right-stays j low =
          stays k old new raised (right_variable (gate_at net (get_or order j 0)))
          (fresh j k _ low below (ordered.follows j (omega (arith, low, below))).1)

      gates : (j : ℕ) → j < k + 1
          → (new (left_variable (gate_at net (get_or order j 0))) ≤ new (gate_at net (get_or order j 0)).variable)
          × (new (right_variable (gate_at net (get_or order j 0))) ≤ new (gate_at net (get_or order j 0)).variable)
      gates j under =
          elim (cases_lt j k) [
            | inl early ↦ search (arith, earlier-gate, left-stays, right-stays)
            | inr late ↦ search (arith, left-stays, le-max_left, right-stays, le-max_right)
          ]

      outs : (j : ℕ) (d : BlackBox) → j < length boxes → All (λ out. j < new (literal_variable out))
          (get_or boxes j d).outs
      outs j d inside n e under =
          let v = literal_variable (get_or (get_or boxes j d).outs n e) in
          let among : Contains net.inputs v = drive j d inside n e under in
          let same = stays k old new raised v (λ is. input_apart net kept v g among (gate-inside k below) is) in
          let high = before.outs j d inside n e under in
          omega (arith, same, high)

      lifted : (v place : ℕ) → v ≡ g.variable → (place < old (left_variable g)) ⊎ (place < old (right_variable g))
          → ReachesBox net boxes v place
      lifted v place is (inl less) =
          let r = before.reached (left_variable g) place less in
          record {
            box = r.box;
            in_range = r.in_range;
            behind = r.behind;
            out = r.out;
            default = r.default;
            drives = r.drives;
            reaches = subst (λ (n : ℕ). Reaches net n (literal_variable r.out)) (sym is)
                (left g (gate-inside k below) r.reaches);
          }
      lifted v place is (inr less) =
          let r = before.reached (right_variable g) place less in
          record {
            box = r.box;
            in_range = r.in_range;
            behind = r.behind;
            out = r.out;
            default = r.default;
            drives = r.drives;
            reaches = subst (λ (n : ℕ). Reaches net n (literal_variable r.out)) (sym is)
                (right g (gate-inside k below) r.reaches);
          }

      below-one : (a b place : ℕ) → place < max a b → (place < a) ⊎ (place < b)
      below-one a b place less = search (arith, cases_lt, max-le)

      reached : (v place : ℕ) → place < new v → ReachesBox net boxes v place
      reached v place less = by (v == g.variable) refl
        where
          by : (b : Bool) → (v == g.variable) ≡ b → ReachesBox net boxes v place
          by true e =
              let is : v ≡ g.variable = eqb-true v g.variable e in
              let at : new v ≡ top = ap new is ∙ here in
              lifted v place is
              (below-one (old (left_variable g)) (old (right_variable g)) place (omega (arith, at, less)))
          by false e =
              let same = stays k old new raised v (λ is. true≢false (sym (eq-eqb v g.variable is) ∙ e)) in
              before.reached v place (omega (arith, same, less))

  pub all-raised : (boxes : List BlackBox) (levels : ℕ → ℕ) (count : ℕ) → length order ≤ count
      → RaisedFirst net boxes order count levels → IsLatest net boxes levels
  all-raised boxes levels count many all = record {
    gates = λ p d below.
        let found = ordered.whole p below in
        let at : get_or order found.0 0 ≡ p = get_or_default order found.0 0 p found.1 ∙ found.2 in
        let under : found.0 < length order = found.1 in
        let two = all.gates found.0 (omega (arith, under, many)) in
        let g = get_or net.gates p d in
        let is : gate_at net (get_or order found.0 0) ≡ g =
        ap (gate_at net) at ∙ sym (get_or_default net.gates p d no-gate below) in
        subst (λ (h : Gate). (levels (left_variable h) ≤ levels h.variable)
        × (levels (right_variable h) ≤ levels h.variable)) is two;
    outs = all.outs;
    reached = all.reached;
  }

-- each variable of an order's gate has a place
pub gate-known : (net : Netlist) (p : ℕ) → p < length net.gates
    → has_number (variables_of net) (gate_at net p).variable ≡ true
gate-known net p below =
    let v = (gate_at net p).variable in
    let long = length-map net.gates variable_of_gate in
    let inside : Contains (gate_variables net) v = (
      p,
      omega (arith, below, long),
      get_or-map variable_of_gate net.gates p (gate_at net p) v below
          ∙ ap variable_of_gate (get_or_default net.gates p (gate_at net p) no-gate below),
    ) in
    let there = Contains-append_right net.inputs (gate_variables net) v inside in
    any-contained (λ n. n == v) (variables_of net) there.0 v there.1 there.2 (eq-eqb v v refl)

pub input-known : (net : Netlist) (v : ℕ) → Contains net.inputs v → has_number (variables_of net) v ≡ true
input-known net v among =
    let there = Contains-append_left net.inputs (gate_variables net) v among in
    any-contained (λ n. n == v) (variables_of net) there.0 v there.1 there.2 (eq-eqb v v refl)

-- no literal of a list is above a place
pub none-above : (levels : ℕ → ℕ) (ls : List ℕ) (place : ℕ)
    → list_any (λ l. nat_lt place (levels (literal_variable l))) ls ≡ false
    → All (λ l. levels (literal_variable l) ≤ place) ls
none-above levels ls place none k d below =
    search (
      arith,
      (cases_lt place),
      true≢false,
      any-contained,
      (get_or_default ls k (get_or ls k d) d below),
      (lt-ltb place),
    )

-- one box more reads nothing above its place
pub below-more : (levels : ℕ → ℕ) (boxes : List BlackBox) (i : ℕ) (box : BlackBox) (ls : List ℕ) → i < length boxes
    → box ≡ get_or boxes i box → ls ≡ box.ins → ((j : ℕ) → j < i → IsBelow levels boxes j)
    → list_any (λ l. nat_lt i (levels (literal_variable l))) ls ≡ false
    → (j : ℕ) → j < i + 1 → IsBelow levels boxes j
below-more levels boxes i box ls inside at is before none j below d under =
    search (arith, cases_lt, get_or_default, none-above)

-- a box that reads something above its place
pub found-above : (levels : ℕ → ℕ) (boxes : List BlackBox) (i : ℕ) (box : BlackBox) (ls : List ℕ) → i < length boxes
    → box ≡ get_or boxes i box → ls ≡ box.ins
    → list_any (λ l. nat_lt i (levels (literal_variable l))) ls ≡ true → IsAbove levels boxes i
found-above levels boxes i box ls inside at is some = search (arith, contained, ltb-true)

-- what the pass and the search for the first box that is above its place show
pub order-shown : LatestShowsOrder → (net : Netlist) (boxes : List BlackBox) (levels : ℕ → ℕ) (found : Option ℕ)
    → IsLatest net boxes levels → IsFirstAbove levels boxes found
    → MatchOption found (StandInOrder net boxes) (IsFirstOutOfOrder net boxes)
order-shown shows net boxes levels None latest above = (shows net boxes levels latest).1 (λ i d below. above i d below)
order-shown shows net boxes levels (Some place) latest above = record {
  is = search arith;
  first = λ k low o.
      let r = o.reaches in
      let high = All-contains (λ out. r.box < levels (literal_variable out)) (get_or boxes r.box r.default).outs r.out
      (latest.outs r.box r.default r.in_range) r.drives in
      let up = later net boxes levels latest r.reaches in
      let at = All-contains (λ l. levels (literal_variable l) ≤ k) (get_or boxes k o.default).ins o.signal
      (above.1 k low o.default o.in_range) o.reads in
      let behind = r.behind in
      omega (arith, high, up, at, behind);
}
