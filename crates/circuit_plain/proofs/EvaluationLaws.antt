-- The steps of an evaluation.
use Rattle.std.proofs.Common.{◌≡◌, ℕ, ◌+◌, ◌<◌, ◌≤◌, ◌⊎◌, inl, inr, Bool, false, ◌&&◌, List, [], ◌∷◌, ◌++◌, map, length, get_or, set, take, drop, refl, sym, ap, ◌∙◌, subst, arith}
use Rattle.std.specs.Prelude.{Contains, slice_index}
use Rattle.std.proofs.lemmas.Bool.{cases_eq}
use Rattle.std.proofs.lemmas.List.{get_or_default, take_more, map_push, get_or-map, length-map, map-append, take-append-drop, get_or-set_same, get_or-set_other, length-set}
use Rattle.std.proofs.lemmas.List.Elements.{Contains-push_cases, Contains-append_left, Contains-get_or, All-from_get_or}
use Rattle.dq_lits.specs.Row.{bit_of}
use Rattle.circuit_plain.specs.declared.circuits.Gate.{Gate}
use Rattle.circuit_plain.specs.Steps.{GivesValues}
use Rattle.circuit_plain.specs.Netlist.{Netlist, IsNetlist, IsDefined, IsLiteral, variable_of_gate, gate_variables, gate_at, literal_variable, literal_bit}
use Rattle.circuit_plain.specs.Order.{IsSettled, AreSidesSettled, IsOrder}
use Rattle.circuit_plain.specs.Value.{HasValue, constant, input, gate, IsValuation}
use Rattle.circuit_plain.proofs.NetlistLaws.{gate_fits, gate_at_member}
use Rattle.circuit_plain.proofs.ValueLaws.{unique_value}

-- a variable or a literal in range has a place
pub literal_in_row : (max_var l n : ℕ) → IsLiteral max_var l → n ≡ max_var + 1 → literal_variable l < n
literal_in_row max_var l n fits e = omega arith

Contains-take : (f : ℕ → ℕ) (xs : List ℕ) (n y : ℕ) → Contains (map f (take n xs)) y → Contains (map f xs) y
Contains-take f xs n y h =
    let whole : map f (take n xs) ++ map f (drop n xs) ≡ map f xs =
    sym (map-append f (take n xs) (drop n xs)) ∙ ap (map f) (take-append-drop n xs) in
    subst (λ (ys : List ℕ). Contains ys y) whole (Contains-append_left (map f (take n xs)) (map f (drop n xs)) y h)

-- the inputs before a place have their bits, and the constant is false
pub record InputsWritten (net : Netlist) (row values : List Bool) (n : ℕ) : Type 0 where
  pub long : length values ≡ net.max_var + 1
  pub constant : bit_of values 0 ≡ false
  pub inputs : (k : ℕ) → k < n → bit_of values (slice_index net.inputs k) ≡ bit_of row k

pub inputs_give : (net : Netlist) (row values : List Bool) (n : ℕ) → length net.inputs ≤ n →
    InputsWritten net row values n
    → GivesValues net (bit_of row) (bit_of values) []
inputs_give net row values n all_in written v settled =
    elim settled [
      | inl z ↦ rw (z, written.constant) constant
      | inr (inl (k, k_in, is)) ↦
          let here : slice_index net.inputs k ≡ v = get_or_default net.inputs k 0 v k_in ∙ is in
          let bit : bit_of row k ≡ bit_of values v = sym (written.inputs k (omega arith)) ∙ ap (bit_of values) here in
          subst (λ (b : Bool). HasValue net (bit_of row) v b) bit (input k k_in here)
      | inr (inr (k, k_in, _)) ↦ absurd (omega arith)
    ]

-- what is settled by the first places of a list is settled by all of them
pub settled_take : (net : Netlist) (places : List ℕ) (n v : ℕ) → IsSettled net (take n places) v →
    IsSettled net places v
settled_take net places n v settled =
    elim settled [
      | inl z ↦ inl z
      | inr (inl i) ↦ inr (inl i)
      | inr (inr among) ↦ inr (inr (Contains-take (λ q. variable_of_gate (gate_at net q)) places n v among))
    ]

-- one more settled gate
pub settled_cases : (net : Netlist) (places : List ℕ) (p v : ℕ) → IsSettled net (places ++ p ∷ []) v
    → IsSettled net places v ⊎ ((gate_at net p).variable ≡ v)
settled_cases net places p v settled =
    elim settled [
      | inl z ↦ inl (inl z)
      | inr (inl i) ↦ inl (inr (inl i))
      | inr (inr among) ↦
          let pushed = rw map_push at among in
          elim (Contains-push_cases (map (λ q. variable_of_gate (gate_at net q)) places)
          (variable_of_gate (gate_at net p)) v pushed) [
            | inl before ↦ inl (inr (inr before))
            | inr here ↦ inr here
          ]
    ]

pub give_gate : (net : Netlist) (bits : ℕ → Bool) (values : List Bool) (places : List ℕ) (p : ℕ) (bit : Bool) →
    IsNetlist net
    → length values ≡ net.max_var + 1 → p < length net.gates → AreSidesSettled net places (gate_at net p)
    → bit ≡ (literal_bit (bit_of values) (gate_at net p).left && literal_bit (bit_of values) (gate_at net p).right)
    → GivesValues net bits (bit_of values) places
    → GivesValues net bits (bit_of (set values (gate_at net p).variable bit)) (places ++ p ∷ [])
give_gate net bits values places p bit kept long p_in ready is gives v settled =
    let g : Gate = gate_at net p in
    let member : Contains net.gates g = gate_at_member net p p_in in
    let fits = gate_fits net kept g member in
    let g_in : g.variable < length values = omega (arith, fits.variable.1) in
    let value : HasValue net bits g.variable bit =
    subst (λ (b : Bool). HasValue net bits g.variable b) (sym is) (gate g member (gives _ ready.0) (gives _ ready.1)) in
    let at_gate : HasValue net bits g.variable (bit_of (set values g.variable bit) g.variable) =
    subst (λ (b : Bool). HasValue net bits g.variable b) (sym (get_or-set_same values g.variable bit false g_in))
    value in
    elim (cases_eq g.variable v) [
      | inl same ↦ subst (λ (x : ℕ). HasValue net bits x (bit_of (set values g.variable bit) x)) same at_gate
      | inr other ↦
          elim (settled_cases net places p v settled) [
            | inl before ↦
                subst (λ (b : Bool). HasValue net bits v b)
                (sym (get_or-set_other values g.variable v bit false (λ e. other (sym e))))
                (gives v before)
            | inr here ↦ absurd (other here)
          ]
    ]

-- the gates before a place of the order have their values, wherever the inputs have theirs
pub record GatesWritten (net : Netlist) (order : List ℕ) (old values : List Bool) (n : ℕ) : Type 0 where
  pub long : length values ≡ net.max_var + 1
  pub gives : (bits : ℕ → Bool) → GivesValues net bits (bit_of old) [] →
      GivesValues net bits (bit_of values) (take n order)

-- a gate that was read at a place
pub gate_read : (net : Netlist) (gates : List Gate) (g : Gate) (p : ℕ) → net.gates ≡ gates → p < length net.gates
    → g ≡ get_or gates p g → g ≡ gate_at net p
gate_read net gates g p same p_in read =
    let here : g ≡ get_or net.gates p g = rw same read in
    here ∙ get_or_default net.gates p g _ p_in

-- the turn of the loop over the order; g is the gate read, and `new` what is left of the row
pub write_gate : (net : Netlist) (order places : List ℕ) (gates : List Gate) (old values new : List Bool) (n : ℕ)
    (g : Gate) (bit : Bool)
    → IsNetlist net → IsOrder net order → places ≡ order → net.gates ≡ gates → n < length places
    → g ≡ get_or gates (get_or places n 0) g
    → bit ≡ (literal_bit (bit_of values) g.left && literal_bit (bit_of values) g.right)
    → new ≡ set values g.variable bit
    → GatesWritten net order old values n → GatesWritten net order old new (n + 1)
write_gate net order places gates old values new n g bit kept ordered same_places same_gates below read is after
    so_far =
    let n_in : n < length order = rw same_places at below in
    let p : ℕ = get_or places n 0 in
    let e : p ≡ slice_index order n = ap (λ (xs : List ℕ). get_or xs n 0) same_places in
    let p_in : p < length net.gates = subst (λ (x : ℕ). x < length net.gates) (sym e) (ordered.in_range n 0 n_in) in
    let gate_is : g ≡ gate_at net p = gate_read net gates g p same_gates p_in read in
    let ready : AreSidesSettled net (take n order) (gate_at net p) =
    subst (λ (x : ℕ). AreSidesSettled net (take n order) (gate_at net x)) (sym e) (ordered.follows n n_in) in
    let next : take (n + 1) order ≡ take n order ++ p ∷ [] =
    take_more order n 0 n_in ∙ ap (λ (x : ℕ). take n order ++ x ∷ []) (sym e) in
    let bit_is : bit ≡ (literal_bit (bit_of values) (gate_at net p).left && literal_bit (bit_of values)
    (gate_at net p).right) =
    subst (λ (x : Gate). bit ≡ (literal_bit (bit_of values) x.left && literal_bit (bit_of values) x.right))
    gate_is is in
    let new_is : new ≡ set values (gate_at net p).variable bit =
    subst (λ (x : Gate). new ≡ set values x.variable bit) gate_is after in
    record {
      long = ap length new_is ∙ (length-set values _ bit ∙ so_far.long);
      gives = λ bits given.
          rw (next, new_is) (give_gate net bits values (take n order) p bit kept so_far.long p_in ready bit_is
          (so_far.gives bits given));
    }

-- an element of a list, by a function of it
pub Contains-map : (f : ℕ → ℕ) (xs : List ℕ) (x y : ℕ) → Contains xs x → f x ≡ y → Contains (map f xs) y
Contains-map f xs x y (k, k_in, is) e =
    (k, rw length-map k_in, get_or-map f xs k x y k_in ∙ (ap f is ∙ e))

gate_variable_at : (net : Netlist) (p v : ℕ) → p < length net.gates → get_or (gate_variables net) p v ≡ v →
    (gate_at net p).variable ≡ v
gate_variable_at net p v p_in is =
    let none : Gate = record { variable = 0; left = 0; right = 0 } in
    sym (get_or-map variable_of_gate net.gates p none v p_in) ∙ is

-- at its place in the order a gate's equation holds
gate_equation : (net : Netlist) (bits m : ℕ → Bool) (order : List ℕ) (p : ℕ) → IsNetlist net → IsOrder net order
    → GivesValues net bits m order → p < length net.gates
    → m (gate_at net p).variable ≡ (literal_bit m (gate_at net p).left && literal_bit m (gate_at net p).right)
gate_equation net bits m order p kept ordered gives p_in =
    let g : Gate = gate_at net p in
    let found = ordered.whole p p_in in
    let here : slice_index order found.0 ≡ p = get_or_default order found.0 0 p found.1 ∙ found.2 in
    let follows : AreSidesSettled net (take found.0 order) g =
    subst (λ (x : ℕ). AreSidesSettled net (take found.0 order) (gate_at net x)) here (ordered.follows found.0 found.1) in
    let ready : AreSidesSettled net order g =
    (settled_take net order found.0 _ follows.0, settled_take net order found.0 _ follows.1) in
    let settled : IsSettled net order g.variable =
    inr (inr (Contains-map (λ q. variable_of_gate (gate_at net q)) order p g.variable found refl)) in
    unique_value net bits kept (gives g.variable settled) _ (gate g (gate_at_member net p p_in) (gives _ ready.0)
    (gives _ ready.1))

-- with values for the whole order, each defined variable is settled
pub settled_defined : (net : Netlist) (order : List ℕ) (v : ℕ) → IsOrder net order → (v ≡ 0) ⊎ IsDefined net v →
    IsSettled net order v
settled_defined net order v ordered h =
    elim h [
      | inl z ↦ inl z
      | inr (inl i) ↦ inr (inl i)
      | inr (inr (p, p_in, is)) ↦
          let in_gates : p < length net.gates = rw length-map at p_in in
          let at_p : variable_of_gate (gate_at net p) ≡ v = gate_variable_at net p v in_gates is in
          inr (inr (Contains-map (λ q. variable_of_gate (gate_at net q)) order p v (ordered.whole p in_gates) at_p))
    ]

-- what a map gives to the constant, the inputs and all gates is a valuation
pub valuation_from_values : (net : Netlist) (bits m : ℕ → Bool) (order : List ℕ) → IsNetlist net → IsOrder net order
    → GivesValues net bits m order → IsValuation net bits m
valuation_from_values net bits m order kept ordered gives = record {
  constant = unique_value net bits kept (gives 0 (inl refl)) false constant;
  inputs = λ i i_in.
      let v_in : Contains net.inputs (slice_index net.inputs i) = Contains-get_or net.inputs i 0 i_in in
      unique_value net bits kept (gives _ (inr (inl v_in))) (bits i) (input i i_in refl);
  gates = All-from_get_or (λ g. m g.variable ≡ (literal_bit m g.left && literal_bit m g.right)) net.gates _
      (λ p p_in. gate_equation net bits m order p kept ordered gives p_in);
}
