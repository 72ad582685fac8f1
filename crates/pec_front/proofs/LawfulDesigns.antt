-- Boxes that were read, and that stand in order, make a lawful design.
use Rattle.std.proofs.Common.{◌≡◌, ◌≢◌, ℕ, ◌+◌, ◌-◌, ◌*◌, ◌%◌, ◌<◌, ◌≤◌, ◌==◌, Bool, true, false, ◌||◌, ◌⊎◌, inl, inr, List, [], ◌∷◌, ◌++◌, map, length, get_or, drop, None, refl, sym, ◌∙◌, ap, subst, arith}
use Rattle.std.specs.List.{All, AllPairs, Contains, list_any, list_all, position}
use Rattle.std.proofs.lemmas.Bool.{eqb-true, eq-eqb, and_parts}
use Rattle.std.proofs.lemmas.List.{get_or_default, get_or-drop, length-drop, get_or-map, length-map}
use Rattle.std.proofs.lemmas.List.Elements.{All-from_recursion, recursion_from_All, All-contains, Contains-append_cases}
use Rattle.list_laws.proofs.Truths.{unnot, or_right}
use Rattle.dq_formula.proofs.Places.{place-absent}
use Rattle.skolem_checker.proofs.TablesLaws.{list_all-each}
use Rattle.skolem_checker.specs.SkolemCircuit.{IsComplete}
use Rattle.circuit_plain.specs.Netlist.{Netlist, IsNetlist, literal_variable, gate_variables}
use Rattle.circuit_plain.specs.Ground.{IsGrounded, input as ground_input}
use Rattle.circuit_plain.specs.declared.circuits.Gate.{Gate}
use Rattle.number_tables.specs.Numbers.{has_number}
use Rattle.pec_front.specs.BoxLine.{variables_of, is_signal, is_further}
use Rattle.pec_front.specs.Boxes.{BlackBox, signals, driven, IsFurtherInput, StandInOrder, AllDriven, IsLawfulDesign}
use Rattle.pec_front.specs.Reading.{wires_of, driven_inputs, design_with}
use Rattle.pec_front.specs.Steps.{AreReadBoxes, DriveInputs}
use Rattle.pec_front.proofs.Numbers.{first-place}
use Rattle.pec_front.proofs.Truths.{join-each}
use Rattle.pec_front.proofs.Values.{contained, any-contained}

-- an element that passes a map's test is one whose image does
mapped : {X : Type 0} (f : X → ℕ) (xs : List X) (v : ℕ) → has_number (map f xs) v ≡ true
    → list_any (λ x. f x == v) xs ≡ true
mapped f [] v h = h
mapped f (x ∷ xs) v h = by (f x == v) (mapped f xs v) h
  where
    by : (b : Bool) → (has_number (map f xs) v ≡ true → list_any (λ y. f y == v) xs ≡ true)
        → (b || has_number (map f xs) v) ≡ true → (b || list_any (λ y. f y == v) xs) ≡ true
    by true more g = refl
    by false more g = more g

either : (xs ys : List ℕ) (v : ℕ) → has_number (xs ++ ys) v ≡ true
    → (has_number xs v ≡ true) ⊎ (has_number ys v ≡ true)
either [] ys v h = inr h
either (x ∷ xs) ys v h = by (x == v) (either xs ys v) h
  where
    by : (b : Bool) → (has_number (xs ++ ys) v ≡ true → (has_number xs v ≡ true) ⊎ (has_number ys v ≡ true))
        → (b || has_number (xs ++ ys) v) ≡ true → ((b || has_number xs v) ≡ true) ⊎ (has_number ys v ≡ true)
    by true more g = inl refl
    by false more g = more g

-- inputs and gates can be evaluated
pub known-grounded : (net : Netlist) → IsComplete net → (v : ℕ) → has_number (variables_of net) v ≡ true
    → IsGrounded net v
known-grounded net complete v h =
    elim (either net.inputs (gate_variables net) v h) [
      | inl among ↦
          let r = contained (λ x. x == v) net.inputs among in
          ground_input (subst (Contains net.inputs) (eqb-true r.0 v r.2) r.1)
      | inr gate ↦
          let r = contained (λ (g : Gate). g.variable == v) net.gates
          (mapped (λ (g : Gate). g.variable) net.gates v gate) in
          subst (IsGrounded net) (eqb-true r.0.variable v r.2)
          (All-contains (λ (g : Gate). IsGrounded net g.variable) net.gates r.0 complete.gates r.1)
    ]

-- where a search finds nothing, nothing passes
not-found : (p : ℕ → Bool) (xs : List ℕ) → position p xs ≡ None → (i : ℕ) → i < length xs
    → p (get_or xs i 0) ≡ false
not-found p xs none i below =
    search (
      arith,
      (any-contained p xs i (get_or xs i 0) below (get_or_default xs i (get_or xs i 0) 0 below)),
      (get_or_default xs i (get_or xs i 0) 0 below),
      (first-place p xs 0),
      (place-absent p xs none),
    )

-- what is driven is driven by some box
drives-any : (boxes : List BlackBox) (out : ℕ) → Contains (driven boxes) out
    → list_any (λ (b : BlackBox). list_any (λ o. o == out) b.outs) boxes ≡ true
drives-any [] out inside = let below = inside.1 in absurd (omega (arith, below))
drives-any (b ∷ boxes) out inside =
    elim (Contains-append_cases b.outs (driven boxes) out inside) [
      | inl here ↦
          ap (λ x. x || list_any (λ (c : BlackBox). list_any (λ o. o == out) c.outs) boxes)
          (any-contained (λ o. o == out) b.outs here.0 out here.1 here.2 (eq-eqb out out refl))
      | inr later ↦ or_right (list_any (λ o. o == out) b.outs) _ (drives-any boxes out later)
    ]

module _ (specification implementation : Netlist) (is_spec : IsNetlist specification)
    (is_imp : IsNetlist implementation) (boxes : List BlackBox)
    (read : AreReadBoxes specification implementation boxes) where
  abbrev further : List ℕ
  further = drop (length specification.inputs) implementation.inputs

  -- each literal that a box drives is that of a further input
  driven-further : All (λ out. is_further (wires_of specification implementation) out ≡ true) (driven boxes)
  driven-further =
      All-from_recursion (λ out. is_further (wires_of specification implementation) out ≡ true) (driven boxes)
      (join-each (λ out. is_further (wires_of specification implementation) out ≡ true)
      (λ (b : BlackBox). b.outs) boxes
      (λ k d below.
      let box = get_or boxes k d in
      recursion_from_All (λ out. is_further (wires_of specification implementation) out ≡ true) box.outs
      (list_all-each (is_further (wires_of specification implementation)) box.outs
      (and_parts (list_all (is_signal (wires_of specification implementation)) box.ins)
      (list_all (is_further (wires_of specification implementation)) box.outs) (read.admitted k d below)).1)))

  signals-known : All (λ l. is_signal (wires_of specification implementation) l ≡ true) (signals boxes)
  signals-known =
      All-from_recursion (λ l. is_signal (wires_of specification implementation) l ≡ true) (signals boxes)
      (join-each (λ l. is_signal (wires_of specification implementation) l ≡ true) (λ (b : BlackBox). b.ins) boxes
      (λ k d below.
      let box = get_or boxes k d in
      recursion_from_All (λ l. is_signal (wires_of specification implementation) l ≡ true) box.ins
      (list_all-each (is_signal (wires_of specification implementation)) box.ins
      (and_parts (list_all (is_signal (wires_of specification implementation)) box.ins)
      (list_all (is_further (wires_of specification implementation)) box.outs) (read.admitted k d below)).0)))

  even-out : (out : ℕ) → is_further (wires_of specification implementation) out ≡ true → out ≡ 2 * literal_variable out
  even-out out h = search (arith, and_parts, eqb-true)

  is-further : (out : ℕ) → is_further (wires_of specification implementation) out ≡ true
      → IsFurtherInput (design_with specification implementation boxes) out
  is-further out h =
      let parts = and_parts (out % 2 == 0) (has_number further (literal_variable out)) h in
      let r = contained (λ n. n == literal_variable out) further parts.1 in
      let p = length specification.inputs in
      let k = r.1.0 in
      let long = length-drop p implementation.inputs in
      let below : k < length further = r.1.1 in
      let inside : p + k < length implementation.inputs = omega (arith, below, long) in
      let at : get_or implementation.inputs (p + k) 0 ≡ literal_variable out =
      sym (get_or-drop p implementation.inputs k 0)
      ∙ get_or_default further k 0 r.0 below ∙ r.1.2 ∙ eqb-true r.0 (literal_variable out) r.2 in
      let low : p ≤ p + k = omega arith in
      (p + k, low, inside, even-out out h ∙ ap (λ n. 2 * n) (sym at))

  once : AllPairs (λ a b. a ≢ b) (driven boxes)
  once i j d less below e =
      let long = length-map (driven boxes) literal_variable in
      read.once i j 0 less (omega (arith, below, long))
      (get_or-map literal_variable (driven boxes) i d 0 (omega (arith, less, below))
      ∙ ap literal_variable e ∙ sym (get_or-map literal_variable (driven boxes) j d 0 below))

  all-driven : AllDriven (design_with specification implementation boxes)
  all-driven i low below =
      let p = length specification.inputs in
      let v = get_or implementation.inputs i 0 in
      let k = i - p in
      let long = length-drop p implementation.inputs in
      let under : k < length further = omega (arith, low, below, long) in
      let at : get_or further k 0 ≡ v =
      get_or-drop p implementation.inputs k 0
      ∙ ap (λ n. get_or implementation.inputs n 0) (let e : p + k ≡ i = omega (arith, low) in e) in
      let known : has_number (driven_inputs boxes) v ≡ true = search (arith, unnot, not-found) in
      let r = contained (λ out. literal_variable out == v) (driven boxes)
      (mapped literal_variable (driven boxes) v known) in
      let half : literal_variable r.0 ≡ v = eqb-true (literal_variable r.0) v r.2 in
      let even : r.0 ≡ 2 * v =
      even-out r.0 (All-contains (λ out. is_further (wires_of specification implementation) out ≡ true)
      (driven boxes) r.0 driven-further r.1) ∙ ap (λ n. 2 * n) half in
      drives-any boxes (2 * v) (subst (Contains (driven boxes)) even r.1)

  -- each box drives inputs
  pub drive-inputs : DriveInputs implementation boxes
  drive-inputs k d below j e under =
      let box = get_or boxes k d in
      let out = get_or box.outs j e in
      let each = list_all-each (is_further (wires_of specification implementation)) box.outs
      (and_parts (list_all (is_signal (wires_of specification implementation)) box.ins)
      (list_all (is_further (wires_of specification implementation)) box.outs) (read.admitted k d below)).1 in
      let f = is-further out (each j e under) in
      let v = get_or implementation.inputs f.0 0 in
      let inside : f.0 < length implementation.inputs = f.2 in
      let half : v ≡ literal_variable out = (let two : out ≡ 2 * v = f.3 in omega (arith, two)) in
      (f.0, inside, get_or_default implementation.inputs f.0 (literal_variable out) 0 inside ∙ half)

  pub lawful : IsComplete specification → IsComplete implementation
      → length specification.inputs ≤ length implementation.inputs
      → length specification.outputs ≡ length implementation.outputs → StandInOrder implementation boxes
      → IsLawfulDesign (design_with specification implementation boxes)
  lawful spec_complete imp_complete inputs outputs ordered = record {
    is_design = record {
      specification = is_spec;
      implementation = is_imp;
      inputs = inputs;
      outputs = outputs;
      specified_outputs = λ o below. spec_complete.outputs o 0 below;
      implemented_outputs = λ o below. imp_complete.outputs o 0 below;
      signals_stand = λ j below.
          known-grounded implementation imp_complete (literal_variable (get_or (signals boxes) j 0))
          (signals-known j 0 below);
    };
    acyclic = record { specification = spec_complete.gates; implementation = imp_complete.gates };
    boxes = record {
      further = λ k d below. is-further (get_or (driven boxes) k d) (driven-further k d below);
      driven_once = once;
      ordered = ordered;
    };
    all_driven = all-driven;
  }
