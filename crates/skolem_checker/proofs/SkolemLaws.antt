-- Skolem circuits, their functions, and the rows that show them.
use Rattle.std.proofs.Common.{◌≡◌, ℕ, zero, suc, ◌+◌, ◌-◌, ◌*◌, ◌^◌, ◌<◌, ◌≤◌, ◌==◌, Bool, true, false, length, get_or, inl, inr, refl, sym, ap, ◌∙◌, subst, arith, Result, Ok, Err}
use Rattle.std.specs.Prelude.{slice_index}
use Rattle.std.specs.Int.{bit_at}
use Rattle.std.specs.List.{Contains}
use Rattle.std.proofs.lemmas.Bool.{cases_lt, cases_order}
use Rattle.std.proofs.lemmas.Nat.{pow-add, pow_pos}
use Rattle.std.proofs.lemmas.Nat.Bits.{bit_at_cat_low, bit_at_cat_high}
use Rattle.std.proofs.lemmas.List.{get_or_past, get_or-map, get_or_default, length-map}
use Rattle.std.proofs.lemmas.List.Elements.{All-contains, Contains-get_or}
use Rattle.dq_lits.specs.Literal.{Assignment}
use Rattle.dq_lits.specs.Formula.{Existential, Dqbf, HasLawfulPrefix}
use Rattle.dq_lits.specs.Henkin.{MatrixHolds}
use Rattle.dq_lits.specs.Skolem.{OutputFunction, IsSupported, AreSkolemFunctions}
use Rattle.dq_formula.proofs.Places.{has, place, has-contains}
use Rattle.dq_formula.proofs.Sorted.{place-below, get_or-place}
use Rattle.circuit_plain.specs.Ground.{IsGrounded, constant as ground_constant}
use Rattle.circuit_plain.specs.Netlist.{Netlist, IsNetlist, literal_variable, signed_bit}
use Rattle.circuit_plain.specs.Value.{HasValue}
use Rattle.circuit_plain.proofs.ValueLaws.{grounded_have_values, values_follow_reach, values_are_unique}
use Rattle.aiger_text.specs.Symbol.{SymbolTable}
use Rattle.skolem_checker.specs.Mapping.{Mapping, mapping_of}
use Rattle.skolem_checker.specs.SkolemCircuit.{MappedCircuit, IsComplete, input_bits, ReadsUniversal, FollowsCircuit, IsSkolemCircuit, AreOutputsOf}
use Rattle.skolem_checker.specs.Checks.{Candidate, with_mapping, candidate_of, existential_at, IsReadsAnswer, IsRowsAnswer}
use Rattle.skolem_checker.specs.Tables.{IsMapping}
use Rattle.skolem_checker.specs.declared.mapping.MapError.{MapError}
use Rattle.skolem_checker.proofs.OntoLaws.{IsMapped, mapped}

module _ (f : Dqbf) (net : Netlist) (mapping : Mapping) (kept : IsNetlist net) (complete : IsComplete net)
    (is_mapping : IsMapping f net mapping) where
  abbrev circuit : MappedCircuit
  circuit = record { netlist = net; mapping = mapping }

  grounded_output : (o : ℕ) → IsGrounded net (literal_variable (slice_index net.outputs o))
  grounded_output o =
      elim (cases_lt o (length net.outputs)) [
        | inl below ↦ complete.outputs o 0 below
        | inr past ↦ subst (λ l. IsGrounded net (literal_variable l))
            (sym (get_or_past net.outputs o 0 past)) ground_constant
      ]

  abbrev place_of : Existential → ℕ
  place_of y = place mapping.outputs y.variable

  abbrev variable_of_output : Existential → ℕ
  variable_of_output y = literal_variable (slice_index net.outputs (place_of y))

  bit_of_output : (y : Existential) (m : Assignment) → (b : Bool) × HasValue net (input_bits mapping m)
      (variable_of_output y) b
  bit_of_output y m = search (arith, grounded_have_values, grounded_output)

  output : Existential → OutputFunction
  output y = record {
    value = λ m. signed_bit (slice_index net.outputs (place_of y)) (bit_of_output y m).0;
    support = y.sees;
  }

  in_mapping : (i : ℕ) → i < length net.inputs → i < length mapping.inputs
  in_mapping i below = omega (arith, is_mapping.inputs_length, is_mapping.inputs.same_length)

  known : (k : ℕ) (d : Existential) → k < length f.existentials →
      has mapping.outputs (get_or f.existentials k d).variable ≡ true
  known k d below =
      has-contains mapping.outputs (get_or f.existentials k d).variable
      (is_mapping.outputs.onto (get_or f.existentials k d).variable (
        k,
        rw (length-map f.existentials (λ (y : Existential). y.variable)) below,
        get_or-map (λ (y : Existential). y.variable) f.existentials k d _ below,
      ))

  supported : (y : Existential) → has mapping.outputs y.variable ≡ true →
      ((x : ℕ) → ReadsUniversal circuit y.variable x → Contains y.sees x)
      → IsSupported (output y)
  unfolding output
  supported y among declared m n agree =
      ap (signed_bit (slice_index net.outputs (place_of y)))
      (values_are_unique net (input_bits mapping n) (variable_of_output y) (bit_of_output y m).0
      (bit_of_output y n).0 kept
      (values_follow_reach net (input_bits mapping m) (input_bits mapping n) (variable_of_output y)
      (bit_of_output y m).0
      (λ i below reaches.
      let x = slice_index mapping.inputs i in
      All-contains (λ x. m x ≡ n x) y.sees x agree (declared x (record {
        out = place_of y;
        out_in_range = place-below mapping.outputs y.variable among;
        out_stands_for = get_or-place mapping.outputs y.variable 0 among;
        input = i;
        input_in_range = in_mapping i below;
        input_stands_for = refl;
        reaches = reaches;
      })))
      (bit_of_output y m).1)
      (bit_of_output y n).1)

  pub skolem_functions : ((k : ℕ) (d : Existential) → k < length f.existentials
      → (x : ℕ) → ReadsUniversal (record { netlist = net; mapping = mapping }) (get_or f.existentials k d).variable x →
      Contains (get_or f.existentials k d).sees x)
      → ((m : Assignment) → FollowsCircuit f (record { netlist = net; mapping = mapping }) m → MatrixHolds f m)
      → (output : Existential → OutputFunction) × AreSkolemFunctions f output × AreOutputsOf f
      (record { netlist = net; mapping = mapping }) output
  unfolding output
  skolem_functions declared holds = (
    output,
    record {
      supported = λ k d below. supported (get_or f.existentials k d) (known k d below) (declared k d below);
      reads_declared = λ k d below j e within. Contains-get_or (get_or f.existentials k d).sees j e within;
      holds = λ m given. holds m (λ k d below.
          let y = get_or f.existentials k d in
          record {
            out = place_of y;
            in_range = place-below mapping.outputs y.variable (known k d below);
            stands_for = get_or-place mapping.outputs y.variable 0 (known k d below);
            variable_bit = (bit_of_output y m).0;
            value = (bit_of_output y m).1;
            signed = given k d below;
          });
    },
    record {
      values = λ k d below m.
          let y = get_or f.existentials k d in
          record {
            out = place_of y;
            in_range = place-below mapping.outputs y.variable (known k d below);
            stands_for = get_or-place mapping.outputs y.variable 0 (known k d below);
            variable_bit = (bit_of_output y m).0;
            value = (bit_of_output y m).1;
            signed = refl;
          };
      supports = λ k d below. declared k d below;
    },
  )

pub outputs_are_skolem : (f : Dqbf) (net : Netlist) (symbols : SymbolTable) → HasLawfulPrefix f → IsNetlist net →
    IsComplete net
    → (h : IsSkolemCircuit f net symbols)
    → (output : Existential → OutputFunction) × AreSkolemFunctions f output × AreOutputsOf f
    (record { netlist = net; mapping = h.mapping }) output
outputs_are_skolem f net symbols lawful kept complete h =
    skolem_functions f net h.mapping kept complete (subst (IsMapped f net) h.maps (mapped f net symbols lawful))
    h.reads_declared h.holds

-- each bit list is a row's
record NumberOf (n : ℕ) (bits : ℕ → Bool) : Type 0 where
  number : ℕ
  below : number < 2 ^ n
  are : (i : ℕ) → i < n → bits i ≡ (bit_at number i == 1)

abbrev digit : Bool → ℕ
digit true = 1
digit false = 0

digit-bit : (b : Bool) → b ≡ (bit_at (digit b) 0 == 1)
digit-bit true = refl
digit-bit false = refl

times-le : (b : Bool) (p : ℕ) → digit b * p ≤ p
times-le true p = omega arith
times-le false p = omega arith

one_more : (n : ℕ) (bits : ℕ → Bool) → NumberOf n bits → NumberOf (n + 1) bits
one_more n bits h =
    let double : 2 ^ (n + 1) ≡ 2 ^ n * 2 = pow-add 2 n 1 in
    let top = times-le (bits n) (2 ^ n) in
    record {
      number = digit (bits n) * 2 ^ n + h.number;
      below = omega (arith, double, top, h.below);
      are = λ i within.
          elim (cases_order i n) [
            | inl same ↦
                let moved : bit_at (digit (bits n) * 2 ^ n + h.number) i ≡ bit_at (digit (bits n)) (i - n) =
                bit_at_cat_high (digit (bits n)) n h.number i h.below (omega arith) in
                let none : i - n ≡ 0 = omega arith in
                ap bits same ∙ digit-bit (bits n) ∙ sym (ap (λ b. b == 1) (moved ∙ ap (bit_at (digit (bits n))) none))
            | inr (inl earlier) ↦
                h.are i earlier ∙ sym (ap (λ b. b == 1) (bit_at_cat_low (digit (bits n)) n h.number i earlier))
            | inr (inr later) ↦ absurd (omega arith)
          ];
    }

number_of : (n : ℕ) (bits : ℕ → Bool) → NumberOf n bits
number_of zero bits = record { number = 0; below = pow_pos 0; are = λ i within. absurd (omega arith) }
number_of (suc n) bits =
    let next : n + 1 ≡ suc n = omega arith in
    subst (λ k. NumberOf k bits) next (one_more n bits (number_of n bits))

mapping_or : Mapping → Result Candidate MapError → Mapping
mapping_or other (Ok c) = c.circuit.mapping
mapping_or other (Err _) = other

with_mapping-ok : (f : Dqbf) (net : Netlist) (r : Result Mapping MapError) (c : Candidate) →
    with_mapping f net r ≡ Ok c → r ≡ Ok c.circuit.mapping
unfolding mapping_or
with_mapping-ok f net (Ok mapping) c h = ap (λ r. Ok (mapping_or mapping r)) h
with_mapping-ok f net (Err fault) c h = cc

pub tested_is_skolem : (c : Candidate) (symbols : SymbolTable) → HasLawfulPrefix c.formula
    → candidate_of c.formula c.circuit.netlist symbols ≡ Ok c
    → IsReadsAnswer (ReadsUniversal c.circuit) c.formula (Ok tt) → IsRowsAnswer c.formula c.circuit (Ok tt)
    → IsSkolemCircuit c.formula c.circuit.netlist symbols
tested_is_skolem c symbols lawful is reads rows = record {
  mapping = c.circuit.mapping;
  maps = maps;
  reads_declared = λ k d below x read.
      let universal : Contains c.formula.universals x =
      subst (Contains c.formula.universals) read.input_stands_for
      (is_mapping.inputs.declared_alone read.input 0 read.input_in_range) in
      let q_is : slice_index c.formula.universals universal.0 ≡ x =
      get_or_default c.formula.universals universal.0 0 x universal.1 ∙ universal.2 in
      let e = existential_at c.formula k in
      let same : e ≡ get_or c.formula.existentials k d = get_or_default c.formula.existentials k _ d below in
      subst (λ (y : Existential). Contains y.sees x) same
      (subst (Contains e.sees) q_is (reads k below universal.0 universal.1
      (subst (ReadsUniversal c.circuit e.variable) (sym q_is)
      (subst (λ (y : Existential). ReadsUniversal c.circuit y.variable x) (sym same) read))));
  holds = λ m follows.
      let row = number_of (length c.formula.universals) (λ i. m (slice_index c.formula.universals i)) in
      rows row.number row.below m row.are follows;
}
  where
    maps : mapping_of c.formula c.circuit.netlist symbols ≡ Ok c.circuit.mapping
    maps = with_mapping-ok c.formula c.circuit.netlist (mapping_of c.formula c.circuit.netlist symbols) c is

    is_mapping : IsMapping c.formula c.circuit.netlist c.circuit.mapping
    is_mapping = subst (IsMapped c.formula c.circuit.netlist) maps (mapped c.formula c.circuit.netlist symbols lawful)
