-- The exported circuit is made gate by gate and output by output.
use Rattle.std.proofs.Common.{◌≡◌, ℕ, ◌+◌, ◌*◌, ◌/◌, ◌<◌, true, inl, inr, List, [], ◌∷◌, ◌++◌, length, get_or, Option, None, Some, IsSome, is_some, refl, sym, ◌∙◌, ap, subst, arith}
use Rattle.std.specs.List.{Contains, range_with_len}
use Rattle.std.specs.Prelude.{slice_index}
use Rattle.std.proofs.lemmas.List.{get_or-map, length-map, get_or_default}
use Rattle.list_laws.proofs.Numbers.{range_more}
use Rattle.dq_lits.specs.Literal.{Literal, variable_of}
use Rattle.dq_lits.specs.Formula.{Dqbf, Existential}
use Rattle.dq_formula.specs.Prefix.{existential_variables}
use Rattle.hint_log.specs.Conditions.{is_circuit_name, AreLogged}
use Rattle.hint_log.specs.Entries.{Entry, name_of}
use Rattle.hint_log.specs.declared.names.Name.{Name}
use Rattle.hint_log.specs.declared.names.Name.TheVariants.{And}
use Rattle.circuit_plain.specs.Netlist.{Netlist, IsDefined, IsNetlist, IsLiteral, IsVariable}
use Rattle.log_laws.proofs.Solved.{sides}
use Rattle.cert_export.specs.CircuitPart.{CircuitPart, IsCircuitPart, circuit_renaming, gate_of, leaf_code, exported_netlist}
use Rattle.cert_export.specs.FaultLeaves.{LeafTable, leaf_of, or_false, output_leaf}
use Rattle.cert_export.specs.Netlists.{IsLeafNamed}
use Rattle.cert_export.proofs.RoundRows.{range_rounds}
use Rattle.circuit_plain.proofs.NetlistParts.{may_be_added, with_gates}

-- inputs and gates are named
pub circuit_named : (o : Option Name) → is_circuit_name o ≡ true → IsSome o
circuit_named None h = cc
circuit_named (Some n) h = refl

module _ (f : Dqbf) (entries : List Entry) (e : CircuitPart) (part : IsCircuitPart f entries e) (v : ℕ)
    (inside : Contains e.gates v) where
  pub gate_is_named : IsSome (name_of entries v)
  gate_is_named = let n = part.named v inside in ap is_some n.2

  pub gate_is_and : (name : Name) → name_of entries v ≡ Some name → ((a b : Literal) → name ≡ And a b → ⊥) → ⊥
  gate_is_and name is none =
      let n = part.named v inside in
      let both : Some name ≡ Some (And n.0 n.1) = sym is ∙ n.2 in
      let same : name ≡ And n.0 n.1 = cc in
      none n.0 n.1 same

pub sides_named : (entries : List Entry) (v : ℕ) (a b : Literal) → AreLogged entries →
    name_of entries v ≡ Some (And a b) → IsSome (name_of entries (variable_of a)) × IsSome
    (name_of entries (variable_of b))
sides_named entries v a b logged named =
    let both = sides entries v a b logged named in
    (circuit_named (name_of entries (variable_of a)) both.0, circuit_named (name_of entries (variable_of b)) both.1)

-- a leaf of the circuit is named
pub leaf_named : (f : Dqbf) (entries : List Entry) (e : CircuitPart) → IsCircuitPart f entries e →
    (p : ℕ) (y : Existential) → p < length f.existentials → IsLeafNamed entries (e.leaf (get_or f.existentials p y))
leaf_named f entries e part p y below = search (arith, circuit_named)

-- the gate at a place of the file
pub gate_at_place : (f : Dqbf) (entries : List Entry) (e : CircuitPart) (items : List ℕ) (p : ℕ) → items ≡ e.gates →
    p < length e.gates →
    let r = circuit_renaming f entries e in
    let g = gate_of r (slice_index items p) (name_of entries (slice_index items p)) in
    (p < length (exported_netlist f entries e).gates) × (get_or (exported_netlist f entries e).gates p g ≡ g)
gate_at_place f entries e items p same below = search (arith, get_or_default, length-map, get_or-map)

-- and what is read of it may be added
pub record MayAdd (old : Netlist) (r : ℕ × ℕ × ℕ) : Type 0 where
  pub variable : IsVariable old.max_var (2 * r.0 / 2)
  pub undefined : IsDefined old (2 * r.0 / 2) → ⊥
  pub left : IsLiteral old.max_var r.1
  pub right : IsLiteral old.max_var r.2

pub gate_may : (f : Dqbf) (entries : List Entry) (e : CircuitPart) (items : List ℕ) (p : ℕ) (old : Netlist)
    (r : ℕ × ℕ × ℕ) → IsNetlist (exported_netlist f entries e) → items ≡ e.gates → p < length e.gates →
    old ≡ with_gates (exported_netlist f entries e) p →
    (let g = gate_of (circuit_renaming f entries e) (slice_index items p) (name_of entries (slice_index items p)) in
    r ≡ (g.variable, g.left, g.right)) → MayAdd old r
gate_may f entries e items p old r lawful same below is read =
    let net = exported_netlist f entries e in
    let v = slice_index items p in
    let g = gate_of (circuit_renaming f entries e) v (name_of entries v) in
    let there = gate_at_place f entries e items p same below in
    let may = may_be_added net lawful p g there.0 there.1 in
    subst (MayAdd old) (sym read) (subst (λ n. MayAdd n (g.variable, g.left, g.right)) (sym is) (record {
      variable = may.variable;
      undefined = may.undefined;
      left = may.left_fits;
      right = may.right_fits;
    }))

-- the output at a place
pub output_at_place : (f : Dqbf) (entries : List Entry) (group : ℕ) (gates : List ℕ) (t : LeafTable) (items : List ℕ)
    (p : ℕ) → items ≡ existential_variables f → p < length items →
    let e : CircuitPart = record { group = group; gates = gates; leaf = output_leaf t } in
    (y : Existential) × (p < length f.existentials) × (or_false (leaf_of t (slice_index items p)) ≡ e.leaf
    (get_or f.existentials p y))
    × (p < length (exported_netlist f entries e).outputs)
    × (get_or (exported_netlist f entries e).outputs p (leaf_code (circuit_renaming f entries e)
    (or_false (leaf_of t (slice_index items p)))) ≡ leaf_code (circuit_renaming f entries e)
    (or_false (leaf_of t (slice_index items p))))
output_at_place f entries group gates t items p same below =
    let e : CircuitPart = record { group = group; gates = gates; leaf = output_leaf t } in
    let r = circuit_renaming f entries e in
    let V : Existential → ℕ = λ y. y.variable in
    let L : Existential → ℕ = λ y. leaf_code r (e.leaf y) in
    let y : Existential = record { variable = 0; sees = [] } in
    let low : p < length f.existentials = omega (arith, below, length-map f.existentials V, ap length same) in
    let variable_is : slice_index items p ≡ (get_or f.existentials p y).variable =
    ap (λ xs. slice_index xs p) same ∙ get_or-map V f.existentials p y 0 low in
    let leaf_is : or_false (leaf_of t (slice_index items p)) ≡ e.leaf (get_or f.existentials p y) =
    ap (λ v. or_false (leaf_of t v)) variable_is in
    let code = leaf_code r (or_false (leaf_of t (slice_index items p))) in (
      y,
      low,
      leaf_is,
      omega (arith, low, length-map f.existentials L),
      get_or-map L f.existentials p y code low ∙ sym (ap (leaf_code r) leaf_is),
    )

-- an input with the next number
pub next_input : (net : Netlist) (i : ℕ) → net.inputs ≡ range_with_len 1 i → net.gates ≡ [] → IsDefined net (i + 1) → ⊥
next_input net i inputs gates (inl inside) = search (arith, (range_rounds i 1 (i + 1)))
next_input net i inputs gates (inr inside) = search arith

pub input_added : (old first new : Netlist) (i : ℕ) → old ≡ record first { inputs = range_with_len 1 i } →
    new ≡ record old { inputs = old.inputs ++ (i + 1) ∷ [] } → new ≡ record first { inputs = range_with_len 1 (i + 1) }
input_added old first new i old_is new_is = search (arith, (range_more 1 i))
