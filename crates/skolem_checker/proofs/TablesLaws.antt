-- What the tables say of the circuit.
use Rattle.std.proofs.Common.{◌≡◌, ℕ, ◌+◌, ◌*◌, ◌^◌, ◌%◌, ◌<◌, ◌≤◌, ◌==◌, eqb, Bool, true, false, not, List, [], ◌∷◌, ◌++◌, length, map, take, get_or, inl, inr, sym, ap, ◌∙◌, subst, arith, true≢false}
use Rattle.std.specs.Prelude.{slice_index}
use Rattle.std.specs.Int.{bit_at}
use Rattle.std.specs.List.{All, Contains, IsDistinct, list_all}
use Rattle.std.proofs.lemmas.Bool.{cases_Bool}
use Rattle.std.proofs.lemmas.Bool.Decides.{Decides-eqb}
use Rattle.std.proofs.lemmas.List.{get_or_default, get_or-map, get_or_append_left, get_or_push, length-map, length_push, map_more}
use Rattle.std.proofs.lemmas.List.Elements.{All-contains, Contains-get_or, Contains-append_cases}
use Rattle.std.proofs.lemmas.List.Folds.{list_all_at}
use Rattle.std.proofs.lemmas.Map.Made.{IsDistinct-from_AllPairs}
use Rattle.list_laws.proofs.Numbers.{below_or_here}
use Rattle.list_laws.proofs.Quantified.{left-distinct}
use Rattle.dq_lits.specs.Literal.{Assignment, Literal, positive, negative, variable_of, literal_true, clause_true}
use Rattle.dq_lits.specs.Formula.{Existential, Dqbf, declared, IsWellFormed}
use Rattle.dq_formula.specs.Prefix.{existential_variables}
use Rattle.dq_formula.proofs.Places.{has, place, place-get_or, has-contains}
use Rattle.dq_formula.proofs.Sorted.{get_or-place, place-below, list_any-agree}
use Rattle.circuit_plain.specs.Netlist.{Netlist, IsNetlist, IsVariable, literal_variable, signed_bit, literal_bit}
use Rattle.circuit_plain.specs.Value.{HasValue, IsValuation}
use Rattle.circuit_plain.proofs.ValueLaws.{grounded_have_values, valuations_agree, values_follow_reach}
use Rattle.circuit_plain.proofs.NetlistParts.{half}
use Rattle.skolem_checker.specs.Mapping.{Mapping}
use Rattle.skolem_checker.specs.SkolemCircuit.{MappedCircuit, IsComplete, input_bits, HasOutputValue, ReadsUniversal, FollowsCircuit}
use Rattle.skolem_checker.specs.Checks.{IsRow, RowHolds, RowFails}
use Rattle.skolem_checker.specs.Tables.{AreNumbers, AreTables, HasLiteral, ReadsByTables, circuit_assignment, AreRowBits, universal_places}

rest-even : (w : ℕ) → 2 * w % 2 ≡ 0
rest-even w = omega arith

even-bit : (values : ℕ → Bool) (l w : ℕ) → l ≡ 2 * w → literal_bit values l ≡ values w
even-bit values l w e = search (arith, rest-even)

-- the literals of the inputs, one by one
module _ (net : Netlist) (items : List ℕ) (items_are : items ≡ net.inputs) (i : ℕ) (below : i < length items) where
  pub doubled_input_fits : IsNetlist net → 2 * slice_index items i < 2 ^ 64
  doubled_input_fits kept =
      let fits : IsVariable net.max_var (slice_index items i) =
      subst (All (IsVariable net.max_var)) (sym items_are) kept.inputs_fit i 0 below in
      omega (arith, fits.1, kept.numbered)

  pub input_doubled : (literals : List ℕ) → literals ≡ map (λ v. 2 * v) (take i net.inputs) →
      literals ++ 2 * slice_index items i ∷ [] ≡ map (λ v. 2 * v) (take (i + 1) net.inputs)
  input_doubled literals so_far =
      ap (λ ls. ls ++ 2 * slice_index items i ∷ []) so_far
      ∙ ap (λ xs. map (λ v. 2 * v) (take i net.inputs) ++ 2 * slice_index xs i ∷ []) items_are
      ∙ sym (map_more (λ v. 2 * v) net.inputs i 0 (omega (arith, below, ap length items_are)))

-- the next of the first numbers
pub next_number : (numbers : List ℕ) (i : ℕ) → AreNumbers numbers i → AreNumbers (numbers ++ i ∷ []) (i + 1)
next_number numbers i so_far = record {
  same_length = omega (arith, length_push numbers i, so_far.same_length);
  at = λ k below. elim (below_or_here k i below) [
    | inl early ↦ get_or_append_left numbers (i ∷ []) 0 k (omega (arith, so_far.same_length)) ∙ so_far.at k early
    | inr here ↦ get_or_push numbers i 0 k (omega (arith, so_far.same_length)) ∙ sym here
  ];
}

pub list_all-each : {X : Type 0} (p : X → Bool) (xs : List X) → list_all p xs ≡ true → All (λ x. p x ≡ true) xs
list_all-each p xs h k d below = search (arith, cases_Bool, true≢false, list_all_at)

module _ (f : Dqbf) (net : Netlist) (mapping : Mapping) (literals places : List ℕ) (formed : IsWellFormed f)
    (tables : AreTables f net mapping literals places) where
  abbrev pub circuit : MappedCircuit
  circuit = record { netlist = net; mapping = mapping }

  -- the input for a universal
  record InputFor (x : ℕ) : Type 0 where
    at : ℕ
    in_range : at < length mapping.inputs
    is : slice_index mapping.inputs at ≡ x

  input_for : (x : ℕ) → Contains f.universals x → InputFor x
  input_for x known =
      let among = tables.mapped.inputs.onto x known in
      record { at = among.0; in_range = among.1; is = get_or_default mapping.inputs among.0 0 x among.1 ∙ among.2 }

  -- the output for an existential
  record OutputFor (y : ℕ) : Type 0 where
    at : ℕ
    in_range : at < length mapping.outputs
    is : slice_index mapping.outputs at ≡ y

  output_for : (y : ℕ) → Contains (existential_variables f) y → OutputFor y
  output_for y known =
      let among = tables.mapped.outputs.onto y known in
      record { at = among.0; in_range = among.1; is = get_or_default mapping.outputs among.0 0 y among.1 ∙ among.2 }

  input_literal : (x : ℕ) (i : InputFor x) → slice_index literals x ≡ 2 * slice_index net.inputs i.at
  input_literal x i = ap (slice_index literals) (sym i.is) ∙ tables.by_literal.input_literals i.at i.in_range

  output_place : (y : ℕ) (o : OutputFor y) → slice_index places y ≡ o.at
  output_place y o = ap (slice_index places) (sym o.is) ∙ tables.by_place.output_places o.at o.in_range

  output_literal_of : (y : ℕ) (o : OutputFor y) → slice_index literals y ≡ slice_index net.outputs o.at
  output_literal_of y o = ap (slice_index literals) (sym o.is) ∙ tables.by_literal.output_literals o.at (o.in_range)

  -- reads by the tables are reads by the mapping
  pub reads_by_tables : (y x : ℕ) → Contains (existential_variables f) y → Contains f.universals x
      → ReadsByTables net literals places y x → ReadsUniversal circuit y x
  reads_by_tables y x y_in x_in reads = search (arith, (input_for x x_in), (output_for y y_in), (output_place y))

  pub tables_by_reads : (y x : ℕ) → ReadsUniversal circuit y x → ReadsByTables net literals places y x
  tables_by_reads y x reads = search (arith, output_place)

  -- each declared variable has its literal
  literal_fits : (kept : IsNetlist net) (v : ℕ) → Contains (declared f) v →
      literal_variable (slice_index literals v) < net.max_var + 1
  literal_fits kept v known =
      elim (Contains-append_cases f.universals (existential_variables f) v known) [
        | inl universal ↦
            let i = input_for v universal in
            let in_net : i.at < length net.inputs = search arith in
            let fits = kept.inputs_fit i.at 0 in_net in
            let reached : literal_variable (slice_index literals v) ≡ slice_index net.inputs i.at =
            ap literal_variable (input_literal v i) ∙ half (slice_index net.inputs i.at) in
            omega (arith, fits.1, reached)
        | inr existential ↦
            let o = output_for v existential in
            let listed : length (existential_variables f) ≡ length f.existentials =
            length-map f.existentials (λ (y : Existential). y.variable) in
            let in_net : o.at < length net.outputs = search arith in
            let fits : slice_index net.outputs o.at ≤ 2 * net.max_var + 1 = kept.outputs_fit o.at 0 in_net in
            let same : slice_index literals v ≡ slice_index net.outputs o.at = output_literal_of v o in
            omega (arith, fits, same)
      ]

  pub has_literal : (kept : IsNetlist net) (v : ℕ) → Contains (declared f) v → HasLiteral literals (net.max_var + 1) v
  has_literal kept v known = search (arith, All-contains, literal_fits)

  module _ (k : ℕ) (bits values : ℕ → Bool) (are_bits : AreRowBits (universal_places f mapping) k bits
      (length (universal_places f mapping))) (valuation : IsValuation net bits values) where
    a : Assignment
    a = circuit_assignment literals values

    up_length : length (universal_places f mapping) ≡ length mapping.inputs
    up_length = length-map mapping.inputs (λ x. place f.universals x)

    bit_is : (i : ℕ) → i < length mapping.inputs → bits i ≡ (bit_at k
        (place f.universals (slice_index mapping.inputs i)) == 1)
    bit_is i below =
        are_bits i (omega (arith, up_length))
        ∙ ap (λ p. bit_at k p == 1) (get_or-map (λ x. place f.universals x) mapping.inputs i 0 0 below)

    distinct_universals : IsDistinct eqb f.universals
    distinct_universals =
        IsDistinct-from_AllPairs Decides-eqb f.universals (left-distinct f.universals
        (existential_variables f) formed.prefix.declared_once)

    -- the tables' assignment has the row
    pub row_is : IsRow f k (circuit_assignment literals values)
    row_is p below =
        let x = slice_index f.universals p in
        let i = input_for x (Contains-get_or f.universals p 0 below) in
        let in_net : i.at < length net.inputs = omega (
          arith,
          i.in_range,
          tables.mapped.inputs_length,
          tables.mapped.inputs.same_length,
        ) in
        even-bit values (slice_index literals x) (slice_index net.inputs i.at) (input_literal x i)
        ∙ valuation.inputs i.at in_net
        ∙ bit_is i.at i.in_range
        ∙ ap (λ z. bit_at k (place f.universals z) == 1) i.is
        ∙ ap (λ q. bit_at k q == 1) (place-get_or f.universals p 0 distinct_universals below)

    -- an assignment with the row gives the inputs these bits
    bits_agree : (m : Assignment) → IsRow f k m → (i : ℕ) → i < length mapping.inputs → input_bits mapping m i ≡ bits i
    bits_agree m row i below =
        let x = slice_index mapping.inputs i in
        let known : has f.universals x ≡ true = has-contains f.universals x
        (tables.mapped.inputs.declared_alone i 0 below) in
        ap m (sym (get_or-place f.universals x 0 known))
        ∙ row (place f.universals x) (place-below f.universals x known)
        ∙ sym (bit_is i below)

    in_mapping : (i : ℕ) → i < length net.inputs → i < length mapping.inputs
    in_mapping i below = omega (arith, tables.mapped.inputs_length, tables.mapped.inputs.same_length)

    -- the output's value is the table's
    output_value : (m : Assignment) → IsRow f k m → (y : ℕ) (b : Bool) → HasOutputValue circuit m y b →
        b ≡ circuit_assignment literals values y
    output_value m row y b h =
        let o : OutputFor y = record { at = h.out; in_range = h.in_range; is = h.stands_for } in
        let l = slice_index net.outputs h.out in
        let moved : HasValue net bits (literal_variable l) h.variable_bit =
        values_follow_reach net (input_bits mapping m) bits (literal_variable l) h.variable_bit
        (λ i below _. bits_agree m row i (in_mapping i below)) h.value in
        let agrees : values (literal_variable l) ≡ h.variable_bit =
        valuations_agree net bits values (literal_variable l) h.variable_bit valuation moved in
        h.signed ∙ ap (signed_bit l) (sym agrees) ∙ ap (literal_bit values) (sym (output_literal_of y o))

    pub has_output_value : IsComplete net → (y : ℕ) → Contains (existential_variables f) y
        → HasOutputValue circuit (circuit_assignment literals values) y (circuit_assignment literals values y)
    has_output_value complete y known =
        let o = output_for y known in
        let l = slice_index net.outputs o.at in
        let listed : length (existential_variables f) ≡ length f.existentials =
        length-map f.existentials (λ (e : Existential). e.variable) in
        let in_net : o.at < length net.outputs = search arith in
        let value = grounded_have_values net bits (literal_variable l) (complete.outputs o.at 0 in_net) in
        let agrees : values (literal_variable l) ≡ value.0 =
        valuations_agree net bits values (literal_variable l) value.0 valuation value.1 in
        record {
          out = o.at;
          in_range = o.in_range;
          stands_for = o.is;
          variable_bit = value.0;
          value = search (arith, values_follow_reach, bits_agree, in_mapping);
          signed = ap (literal_bit values) (output_literal_of y o) ∙ ap (signed_bit l) agrees;
        }

    -- an assignment that follows the circuit under the row is the tables' one
    same_assignment : (m : Assignment) → IsRow f k m → FollowsCircuit f circuit m → (v : ℕ) → Contains (declared f) v
        → m v ≡ circuit_assignment literals values v
    same_assignment m row follows v known =
        elim (Contains-append_cases f.universals (existential_variables f) v known) [
          | inl universal ↦
              let p = universal.0 in
              let is : slice_index f.universals p ≡ v = get_or_default f.universals p 0 v universal.1 ∙ universal.2 in
              ap m (sym is) ∙ row p universal.1 ∙ sym (row_is p universal.1) ∙ ap
              (circuit_assignment literals values) is
          | inr existential ↦
              let p = existential.0 in
              let listed : length (existential_variables f) ≡ length f.existentials =
              length-map f.existentials (λ (e : Existential). e.variable) in
              let below : p < length f.existentials = omega (arith, existential.1, listed) in
              let d : Existential = record { variable = v; sees = [] } in
              let is : (get_or f.existentials p d).variable ≡ v =
              sym (get_or-map (λ (e : Existential). e.variable) f.existentials p d v below) ∙ existential.2 in
              let value = follows p d below in
              ap m (sym is)
              ∙ output_value m row (get_or f.existentials p d).variable (m (get_or f.existentials p d).variable) value
              ∙ ap (circuit_assignment literals values) is
        ]

    literal_agrees : (m : Assignment) (l : Literal) → m (variable_of l) ≡ circuit_assignment literals values
        (variable_of l)
        → literal_true m l ≡ literal_true (circuit_assignment literals values) l
    literal_agrees m (positive v) e = e
    literal_agrees m (negative v) e = ap not e

    pub row_holds : list_all (clause_true (circuit_assignment literals values)) f.matrix ≡ true → RowHolds f circuit k
    row_holds holds m row follows j d below =
        let clause = get_or f.matrix j d in
        list_any-agree (literal_true m) (literal_true (circuit_assignment literals values)) clause
        (λ q e within. literal_agrees m (get_or clause q e)
        (same_assignment m row follows (variable_of (get_or clause q e)) (formed.bound j d below q e within)))
        ∙ list_all-each (clause_true (circuit_assignment literals values)) f.matrix holds j d below

    pub row_fails : IsComplete net → list_all (clause_true (circuit_assignment literals values)) f.matrix ≡ false →
        RowFails f circuit k
    row_fails complete fails = record {
      assignment = circuit_assignment literals values;
      row = row_is;
      follows = λ p d below.
          has_output_value complete (get_or f.existentials p d).variable
          (p, rw length-map below, get_or-map (λ (e : Existential). e.variable) f.existentials p d _ below);
      clause_false = fails;
    }
