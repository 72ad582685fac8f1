-- A circuit's gates ordered are a netlist with the same values.
use Rattle.std.proofs.Common.{◌≡◌, ◌≢◌, ◌∙◌, ◌<◌, ◌⊎◌, ℕ, Bool, inl, inr, map, length, get_or, refl, sym, ap, arith}
use Rattle.std.specs.List.{All, Contains}
use Rattle.std.proofs.lemmas.List.{get_or-map, length-map}
use Rattle.std.proofs.lemmas.List.Elements.{All-map, All-weaker, Contains-get_or}
use Rattle.dq_lits.specs.Formula.{Dqbf}
use Rattle.dq_lits.specs.Literal.{Assignment}
use Rattle.circuit_plain.specs.Ground.{IsGrounded}
use Rattle.circuit_plain.specs.Netlist.{Netlist, IsNetlist, IsGate, literal_variable}
use Rattle.circuit_plain.specs.declared.circuits.Gate.{Gate}
use Rattle.aiger_text.specs.declared.files.AagFile.{AagFile}
use Rattle.skolem_checker.specs.Mapping.{Mapping}
use Rattle.skolem_checker.specs.SkolemCircuit.{IsComplete, MappedCircuit, HasOutputValue, ReadsUniversal, FollowsCircuit, IsSkolemCircuit}
use Rattle.ordered_gates.specs.Circuits.{ordered_gate, ordered_netlist}
use Rattle.ordered_gates.proofs.Twins.{turned, Twin, grounded, reaches, values}

-- ---- gates

pub ordered_variable : (g : Gate) → (ordered_gate g).variable ≡ g.variable
ordered_variable g = search arith

-- a property of gates that doesn't see the order of sides
pub ordered_by : (P : Gate → Type 0) → ((g : Gate) → P g → P (turned g)) → (g : Gate) → P g → P (ordered_gate g)
ordered_by P turns g h = search arith

is_or_turned : (g : Gate) → (ordered_gate g ≡ g) ⊎ (ordered_gate g ≡ turned g)
is_or_turned g = search arith

or_turned_is : (g : Gate) → (g ≡ ordered_gate g) ⊎ (g ≡ turned (ordered_gate g))
or_turned_is g = search arith

module _ (net : Netlist) where
  twin_before : (h : Gate) → Contains (ordered_netlist net).gates h → Twin net h
  twin_before h (place, below, is) =
      let inside : place < length net.gates = omega (arith, below, length-map net.gates ordered_gate) in
      let g = get_or net.gates place h in
      let same : h ≡ ordered_gate g = sym is ∙ get_or-map ordered_gate net.gates place h h inside in
      record {
        twin = g;
        inside = Contains-get_or net.gates place h inside;
        is = elim (is_or_turned g) [
          | inl e ↦ inl (same ∙ e)
          | inr e ↦ inr (same ∙ e)
        ];
      }

  twin_behind : (g : Gate) → Contains net.gates g → Twin (ordered_netlist net) g
  twin_behind g (place, below, is) =
      let inside : place < length (map ordered_gate net.gates) = omega (arith, below, length-map net.gates ordered_gate) in
      record {
        twin = ordered_gate g;
        inside = (place, inside, get_or-map ordered_gate net.gates place g (ordered_gate g) below ∙ ap ordered_gate is);
        is = or_turned_is g;
      }

  -- ---- the netlist

  variable_at : (place : ℕ) (d : Gate) → place < length net.gates →
      (get_or (map ordered_gate net.gates) place d).variable ≡ (get_or net.gates place d).variable
  variable_at place d below =
      ap (λ (g : Gate). g.variable) (get_or-map ordered_gate net.gates place d d below)
      ∙ ordered_variable (get_or net.gates place d)

  pub ordered_is_netlist : IsNetlist net → IsNetlist (ordered_netlist net)
  ordered_is_netlist is = record {
    numbered = is.numbered;
    inputs_fit = is.inputs_fit;
    outputs_fit = is.outputs_fit;
    gates_fit = All-map (IsGate net.max_var) ordered_gate net.gates
        (All-weaker (IsGate net.max_var) (λ g. IsGate net.max_var (ordered_gate g))
        (ordered_by (IsGate net.max_var)
        (λ g fits. record { variable = fits.variable; left = fits.right; right = fits.left }))
        net.gates is.gates_fit);
    inputs_once = is.inputs_once;
    gates_once = λ i j d low high.
        let below : j < length net.gates = omega (arith, high, length-map net.gates ordered_gate) in
        λ e. is.gates_once i j d low below
        (sym (variable_at i d (omega (arith, low, below))) ∙ e ∙ variable_at j d below);
    apart = All-weaker (λ x. All (λ g. x ≢ g.variable) net.gates)
        (λ x. All (λ g. x ≢ g.variable) (map ordered_gate net.gates))
        (λ x all. All-map (λ g. x ≢ g.variable) ordered_gate net.gates
        (All-weaker (λ g. x ≢ g.variable) (λ g. x ≢ (ordered_gate g).variable)
        (λ g not e. not (e ∙ ordered_variable g)) net.gates all)) net.inputs is.apart;
  }

  pub ordered_grounded : (v : ℕ) → IsGrounded net v → IsGrounded (ordered_netlist net) v
  ordered_grounded v h = grounded net (ordered_netlist net) refl twin_behind h

  pub all_grounded : All (λ g. IsGrounded net g.variable) net.gates →
      All (λ g. IsGrounded (ordered_netlist net) g.variable) (ordered_netlist net).gates
  all_grounded all = search (arith, All-map, All-weaker, ordered_variable, ordered_grounded)

  pub ordered_complete : IsComplete net → IsComplete (ordered_netlist net)
  ordered_complete is = record {
    gates = all_grounded is.gates;
    outputs = All-weaker (λ l. IsGrounded net (literal_variable l))
        (λ l. IsGrounded (ordered_netlist net) (literal_variable l))
        (λ l h. ordered_grounded (literal_variable l) h) net.outputs is.outputs;
  }

  -- ---- Skolem functions

  abbrev mapped : Netlist → Mapping → MappedCircuit
  mapped n mapping = record { netlist = n; mapping = mapping }

  pub reads_before : (mapping : Mapping) (y x : ℕ) → ReadsUniversal (mapped (ordered_netlist net) mapping) y x →
      ReadsUniversal (mapped net mapping) y x
  reads_before mapping y x r = record {
    out = r.out;
    out_in_range = r.out_in_range;
    out_stands_for = r.out_stands_for;
    input = r.input;
    input_in_range = r.input_in_range;
    input_stands_for = r.input_stands_for;
    reaches = reaches (ordered_netlist net) net refl twin_before r.reaches;
  }

  value_before : (mapping : Mapping) (m : Assignment) (y : ℕ) (b : Bool) →
      HasOutputValue (mapped (ordered_netlist net) mapping) m y b → HasOutputValue (mapped net mapping) m y b
  value_before mapping m y b h = record {
    out = h.out;
    in_range = h.in_range;
    stands_for = h.stands_for;
    variable_bit = h.variable_bit;
    value = values (ordered_netlist net) net refl twin_before _ h.value;
    signed = h.signed;
  }

  pub follows_before : (f : Dqbf) (mapping : Mapping) (m : Assignment) →
      FollowsCircuit f (mapped (ordered_netlist net) mapping) m → FollowsCircuit f (mapped net mapping) m
  follows_before f mapping m all =
      All-weaker (λ y. HasOutputValue (mapped (ordered_netlist net) mapping) m y.variable (m y.variable))
      (λ y. HasOutputValue (mapped net mapping) m y.variable (m y.variable))
      (λ y h. value_before mapping m y.variable (m y.variable) h) f.existentials all

abbrev pub ordered_skolem : (f : Dqbf) (file : AagFile) → IsSkolemCircuit f file.circuit file.symbols →
    IsSkolemCircuit f (ordered_netlist file.circuit) file.symbols
ordered_skolem f file is = record {
  mapping = is.mapping;
  maps = is.maps;
  reads_declared = All-weaker
      (λ y. (x : ℕ) → ReadsUniversal (mapped file.circuit file.circuit is.mapping) y.variable x → Contains y.sees x)
      (λ y. (x : ℕ) → ReadsUniversal (mapped file.circuit (ordered_netlist file.circuit) is.mapping) y.variable x
      → Contains y.sees x)
      (λ y reads x r. reads x (reads_before file.circuit is.mapping y.variable x r)) f.existentials is.reads_declared;
  holds = λ m follows. is.holds m (follows_before file.circuit f is.mapping m follows);
}
