-- The steps of an evaluation under a block of rows.
use Rattle.std.proofs.Common.{◌≡◌, ◌≢◌, ℕ, ◌+◌, ◌<◌, ◌≤◌, ◌==◌, inl, inr, Bool, true, false, ◌&&◌, List, [], ◌∷◌, ◌++◌, length, get_or, set, take, refl, sym, ap, ◌∙◌, subst, arith}
use Rattle.std.specs.Prelude.{slice_index}
use Rattle.std.specs.Int.{bit_at}
use Rattle.std.proofs.lemmas.Bool.{cases_eq, eqb-true}
use Rattle.std.proofs.lemmas.List.{get_or_default, take_more, get_or-set_same, get_or-set_other, length-set, get_or-take}
use Rattle.circuit_plain.specs.declared.circuits.Gate.{Gate}
use Rattle.circuit_plain.specs.Blocks.{lane_bit, block_bits, row_number, number_bits, placed_bits}
use Rattle.circuit_plain.specs.Steps.{GivesValues}
use Rattle.circuit_plain.specs.Netlist.{Netlist, IsNetlist, gate_at, literal_bit}
use Rattle.circuit_plain.specs.Order.{AreSidesSettled, IsOrder}
use Rattle.circuit_plain.specs.Value.{HasValue, constant, input, gate, IsValuation}
use Rattle.circuit_plain.proofs.EvaluationLaws.{gate_read, settled_cases}
use Rattle.circuit_plain.proofs.ValueLaws.{value_follows_reach}
use Rattle.circuit_plain.proofs.PatternLaws.{all_below, each_below}
use Rattle.circuit_plain.proofs.NetlistLaws.{gate_fits, gate_at_member}

-- a variable that was written, and any other
written_bits : (values : List (List ℕ)) (v : ℕ) (lanes : List ℕ) (l b : ℕ) → v < length values
    → block_bits (set values v lanes) l b v ≡ lane_bit lanes l b
written_bits values v lanes l b below = ap (λ x. lane_bit x l b) (get_or-set_same values v lanes [] below)

other_bits : (values : List (List ℕ)) (v u : ℕ) (lanes : List ℕ) (l b : ℕ) → u ≢ v
    → block_bits (set values v lanes) l b u ≡ block_bits values l b u
other_bits values v u lanes l b other = ap (λ x. lane_bit x l b) (get_or-set_other values v u lanes [] other)

-- the inputs before a place have their bits, and the constant is false
pub record PatternsWritten (net : Netlist) (places : List ℕ) (first : ℕ) (old values : List (List ℕ))
    (n : ℕ) : Type 0 where
  pub long : length values ≡ length old
  pub constant : (l b : ℕ) → l < 4 → b < 64 → block_bits values l b 0 ≡ false
  pub inputs : (k l b : ℕ) → k < n → l < 4 → b < 64
      → block_bits values l b (slice_index net.inputs k) ≡ placed_bits places (row_number first l b) k

pub patterns_give : (net : Netlist) (places : List ℕ) (first : ℕ) (old values : List (List ℕ)) (n : ℕ) →
    length net.inputs ≤ n
    → PatternsWritten net places first old values n → (l b : ℕ) → l < 4 → b < 64
    → GivesValues net (placed_bits places (row_number first l b)) (block_bits values l b) []
patterns_give net places first old values n all_in written l b l_below b_below v settled =
    let bits = placed_bits places (row_number first l b) in
    elim settled [
      | inl z ↦ rw (z, written.constant l b l_below b_below) constant
      | inr (inl (k, k_in, is)) ↦
          let here : slice_index net.inputs k ≡ v = get_or_default net.inputs k 0 v k_in ∙ is in
          let bit : bits k ≡ block_bits values l b v =
          sym (written.inputs k l b (omega arith) l_below b_below) ∙ ap (block_bits values l b) here in
          subst (λ (x : Bool). HasValue net bits v x) bit (input k k_in here)
      | inr (inr (k, k_in, _)) ↦ absurd (omega arith)
    ]

-- a map that gives a further gate its value, and the others what they had
give_gate : (net : Netlist) (bits old new : ℕ → Bool) (places : List ℕ) (p : ℕ) → p < length net.gates →
    AreSidesSettled net places (gate_at net p)
    → new (gate_at net p).variable ≡ (literal_bit old (gate_at net p).left && literal_bit old (gate_at net p).right)
    → ((v : ℕ) → v ≢ (gate_at net p).variable → new v ≡ old v)
    → GivesValues net bits old places → GivesValues net bits new (places ++ p ∷ [])
give_gate net bits old new places p p_in ready is others gives v settled =
    let g : Gate = gate_at net p in
    let value : HasValue net bits g.variable (new g.variable) =
    subst (λ (x : Bool). HasValue net bits g.variable x) (sym is)
    (gate g (gate_at_member net p p_in) (gives _ ready.0) (gives _ ready.1)) in
    elim (cases_eq v g.variable) [
      | inl same ↦ subst (λ (x : ℕ). HasValue net bits x (new x)) (sym same) value
      | inr other ↦
          elim (settled_cases net places p v settled) [
            | inl before ↦ subst (λ (x : Bool). HasValue net bits v x) (sym (others v other)) (gives v before)
            | inr here ↦ absurd (other (sym here))
          ]
    ]

-- the gates before a place of the order have their values, wherever the inputs have theirs
pub record LanesWritten (net : Netlist) (order : List ℕ) (old values : List (List ℕ)) (n : ℕ) : Type 0 where
  pub long : length values ≡ length old
  pub gives : (l b : ℕ) → l < 4 → b < 64 → (bits : ℕ → Bool) → GivesValues net bits (block_bits old l b) []
      → GivesValues net bits (block_bits values l b) (take n order)

-- the turn of the loop over the order; g is the gate read, and `new` what is left of the block
pub write_lanes : (net : Netlist) (order places : List ℕ) (gates : List Gate) (old values new : List (List ℕ)) (n : ℕ)
    (g : Gate) (lanes : List ℕ)
    → IsNetlist net → IsOrder net order → net.max_var < length old → places ≡ order → net.gates ≡ gates →
    n < length places
    → g ≡ get_or gates (get_or places n 0) g
    → ((l b : ℕ) → l < 4 → b < 64
    → lane_bit lanes l b ≡ (literal_bit (block_bits values l b) g.left && literal_bit (block_bits values l b) g.right))
    → new ≡ set values g.variable lanes
    → LanesWritten net order old values n → LanesWritten net order old new (n + 1)
write_lanes net order places gates old values new n g lanes kept ordered room same_places same_gates below read is after
    so_far =
    let n_in : n < length order = rw same_places at below in
    let p : ℕ = get_or places n 0 in
    let e : p ≡ slice_index order n = ap (λ (xs : List ℕ). get_or xs n 0) same_places in
    let p_in : p < length net.gates = subst (λ (x : ℕ). x < length net.gates) (sym e) (ordered.in_range n 0 n_in) in
    let gate_is : g ≡ gate_at net p = gate_read net gates g p same_gates p_in read in
    let ready : AreSidesSettled net (take n order) (gate_at net p) =
    subst (λ (x : ℕ). AreSidesSettled net (take n order) (gate_at net x)) (sym e) (ordered.follows n n_in) in
    let next : take (n + 1) order ≡ take n order ++ p ∷ [] =
    take_more order n 0 n_in ∙ ap (λ (x : ℕ). take n order ++ x ∷ []) (sym e) in
    let new_is : new ≡ set values (gate_at net p).variable lanes =
    subst (λ (x : Gate). new ≡ set values x.variable lanes) gate_is after in
    let fits = gate_fits net kept (gate_at net p) (gate_at_member net p p_in) in
    record {
      long = ap length new_is ∙ (length-set values _ lanes ∙ so_far.long);
      gives = λ l b l_below b_below bits given.
          rw (next, new_is) (give_gate net bits (block_bits values l b)
          (block_bits (set values (gate_at net p).variable lanes) l b) (take n order) p p_in ready
          (written_bits values (gate_at net p).variable lanes l b (omega (arith, fits.variable.1, so_far.long, room))
          ∙ subst (λ (x : Gate). lane_bit lanes l b ≡ (literal_bit (block_bits values l b) x.left && literal_bit
          (block_bits values l b) x.right)) gate_is
          (is l b l_below b_below))
          (λ v other. other_bits values (gate_at net p).variable v lanes l b other)
          (so_far.gives l b l_below b_below bits given));
    }

-- the places below 20, in order
abbrev in_order : List ℕ
in_order = 0 ∷ 1 ∷ 2 ∷ 3 ∷ 4 ∷ 5 ∷ 6 ∷ 7 ∷ 8 ∷ 9 ∷ 10 ∷ 11 ∷ 12 ∷ 13 ∷ 14 ∷ 15 ∷ 16 ∷ 17 ∷ 18 ∷ 19 ∷ []

abbrev is_own_place : ℕ → Bool
is_own_place i = get_or in_order i 0 == i

own_places : all_below is_own_place 20 ≡ true
own_places = refl

placed_in_order : (n k i : ℕ) → n ≤ 20 → i < n → placed_bits (take n in_order) k i ≡ number_bits k i
placed_in_order n k i few below =
    ap (λ p. bit_at k p == 1)
    (get_or-take n in_order i 0 below ∙ eqb-true _ _ (each_below is_own_place 20 own_places i (omega arith)))

module _ (net : Netlist) (n k : ℕ) (few : n ≤ 20) (is : n ≡ length net.inputs) where
  pub value_in_order : (v : ℕ) (b : Bool) → HasValue net (placed_bits (take n in_order) k) v b →
      HasValue net (number_bits k) v b
  value_in_order v b h =
      value_follows_reach net (placed_bits (take n in_order) k) (number_bits k) h
      (λ i i_in _. placed_in_order n k i few (omega arith))

  pub valuation_in_order : (m : ℕ → Bool) → IsValuation net (placed_bits (take n in_order) k) m →
      IsValuation net (number_bits k) m
  valuation_in_order m h = record {
    constant = h.constant;
    inputs = λ i i_in. h.inputs i i_in ∙ placed_in_order n k i few (omega arith);
    gates = h.gates;
  }
