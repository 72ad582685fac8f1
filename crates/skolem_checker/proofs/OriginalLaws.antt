-- What a bench shows of its renumbered copy holds of the circuit.
use Rattle.std.proofs.Common.{◌≡◌, ℕ, ◌<◌, Bool, length, get_or, sym, ap, ◌∙◌, subst, arith, Result, Ok, Err, ◌+◌, ◌^◌, true, false, List}
use Rattle.std.specs.Prelude.{slice_index}
use Rattle.std.proofs.lemmas.List.{get_or-map, length-map}
use Rattle.std.proofs.lemmas.List.Elements.{Contains-get_or}
use Rattle.dq_lits.specs.Formula.{Existential, Dqbf, IsWellFormed}
use Rattle.dq_lits.specs.Literal.{Assignment}
use Rattle.circuit_plain.specs.Netlist.{Netlist, IsNetlist, literal_variable, signed_bit}
use Rattle.circuit_plain.specs.Reach.{Reaches}
use Rattle.circuit_plain.specs.Value.{HasValue}
use Rattle.skolem_checker.specs.Checks.{ReadsDeclaredBefore, IsReadsAnswer, IsRowsAnswer, RowHolds, RowFails, existential_at, IsFirstBad}
use Rattle.skolem_checker.specs.Mapping.{Mapping}
use Rattle.skolem_checker.specs.Renaming.{dense_number, renumbered, renamed_literal, renamed}
use Rattle.skolem_checker.specs.SkolemCircuit.{MappedCircuit, IsComplete, input_bits, HasOutputValue, ReadsUniversal}
use Rattle.skolem_checker.specs.Tables.{IsMapping, AreTables, ReadsByTables, RowTest, universal_places}
use Rattle.skolem_checker.proofs.BenchLaws.{reads_answer, rows_answer}
use Rattle.skolem_checker.proofs.LeastNumbers.{dense_renaming}
use Rattle.skolem_checker.proofs.RenamedNetlists.{IsRenaming, renamed_variable, renamed_sign, known_input, grounded_known, value_renamed, value_original, reach_renamed, reach_original, complete_renamed}

pub mapping_renamed : (f : Dqbf) (net : Netlist) (name : ℕ → ℕ) (max_var : ℕ) (mapping : Mapping) →
    IsMapping f net mapping
    → IsMapping f (renamed name max_var net) mapping
mapping_renamed f net name max_var mapping mapped = search (arith, length-map)

module _ (f : Dqbf) (net : Netlist) (name : ℕ → ℕ) (max_var : ℕ) (mapping : Mapping) (kept : IsNetlist net)
    (complete : IsComplete net)
    (renaming : IsRenaming net name) (mapped : IsMapping f net mapping)
    (copy_kept : IsNetlist (renamed name max_var net)) where
  abbrev copy : Netlist
  copy = renamed name max_var net

  abbrev original_circuit : MappedCircuit
  original_circuit = record { netlist = net; mapping = mapping }

  abbrev copied_circuit : MappedCircuit
  copied_circuit = record { netlist = renamed name max_var net; mapping = mapping }

  input_in : (i : ℕ) → i < length mapping.inputs → i < length net.inputs
  input_in i below = omega (arith, mapped.inputs_length, mapped.inputs.same_length)

  output_in : (o : ℕ) → o < length mapping.outputs → o < length net.outputs
  output_in o below = search (arith, length-map)

  abbrev output : ℕ → ℕ
  output o = slice_index net.outputs o

  input_is : (i : ℕ) → i < length mapping.inputs → slice_index copy.inputs i ≡ name (slice_index net.inputs i)
  input_is i below = get_or-map name net.inputs i 0 0 (input_in i below)

  output_is : (o : ℕ) → o < length mapping.outputs → slice_index copy.outputs o ≡ renamed_literal name (output o)
  output_is o below = get_or-map (renamed_literal name) net.outputs o 0 0 (output_in o below)

  variable_is : (o : ℕ) → o < length mapping.outputs → literal_variable (slice_index copy.outputs o) ≡ name
      (literal_variable (output o))
  variable_is o below = ap literal_variable (output_is o below) ∙ renamed_variable name (output o)

  sign_is : (o : ℕ) (b : Bool) → o < length mapping.outputs →
      signed_bit (slice_index copy.outputs o) b ≡ signed_bit (output o) b
  sign_is o b below = ap (λ l. signed_bit l b) (output_is o below) ∙ renamed_sign name (output o) b

  -- the same universals are read
  reads_original : (y x : ℕ) → ReadsUniversal copied_circuit y x → ReadsUniversal original_circuit y x
  reads_original y x r = record {
    out = r.out;
    out_in_range = r.out_in_range;
    out_stands_for = r.out_stands_for;
    input = r.input;
    input_in_range = r.input_in_range;
    input_stands_for = r.input_stands_for;
    reaches = reach_original net name max_var renaming kept complete r.reaches (literal_variable (output r.out))
        (slice_index net.inputs r.input)
        (grounded_known net (complete.outputs r.out 0 (output_in r.out r.out_in_range)))
        (known_input net (slice_index net.inputs r.input) (Contains-get_or net.inputs r.input 0
        (input_in r.input r.input_in_range)))
        (sym (variable_is r.out r.out_in_range)) (sym (input_is r.input r.input_in_range));
  }

  reads_copied : (y x : ℕ) → ReadsUniversal original_circuit y x → ReadsUniversal copied_circuit y x
  reads_copied y x r = record {
    out = r.out;
    out_in_range = r.out_in_range;
    out_stands_for = r.out_stands_for;
    input = r.input;
    input_in_range = r.input_in_range;
    input_stands_for = r.input_stands_for;
    reaches = subst (λ v. Reaches copy (literal_variable (slice_index copy.outputs r.out)) v)
        (sym (input_is r.input r.input_in_range))
        (subst (λ u. Reaches copy u (name (slice_index net.inputs r.input))) (sym (variable_is r.out r.out_in_range))
        (reach_renamed net name max_var renaming r.reaches));
  }

  -- outputs have the same values
  value_of_original : (m : Assignment) (y : ℕ) (b : Bool) → HasOutputValue copied_circuit m y b →
      HasOutputValue original_circuit m y b
  value_of_original m y b h = record {
    out = h.out;
    in_range = h.in_range;
    stands_for = h.stands_for;
    variable_bit = h.variable_bit;
    value = value_original net name max_var renaming (input_bits mapping m)
        (literal_variable (output h.out)) h.variable_bit copy_kept
        (complete.outputs h.out 0 (output_in h.out h.in_range))
        (subst (λ v. HasValue copy (input_bits mapping m) v h.variable_bit) (variable_is h.out h.in_range) h.value);
    signed = h.signed ∙ sign_is h.out h.variable_bit h.in_range;
  }

  value_of_copy : (m : Assignment) (y : ℕ) (b : Bool) → HasOutputValue original_circuit m y b →
      HasOutputValue copied_circuit m y b
  value_of_copy m y b h = record {
    out = h.out;
    in_range = h.in_range;
    stands_for = h.stands_for;
    variable_bit = h.variable_bit;
    value = subst (λ v. HasValue copy (input_bits mapping m) v h.variable_bit) (sym (variable_is h.out h.in_range))
        (value_renamed net name max_var renaming (input_bits mapping m) h.value);
    signed = h.signed ∙ sym (sign_is h.out h.variable_bit h.in_range);
  }

  -- so the answers are the same
  before_original : (y : Existential) (end : ℕ) → ReadsDeclaredBefore (ReadsUniversal copied_circuit) f y end
      → ReadsDeclaredBefore (ReadsUniversal original_circuit) f y end
  before_original y end before q below reads = search (arith, reads_copied)

  pub reads_answer_original : (r : Result (Unit {0}) (ℕ × ℕ))
      → IsReadsAnswer (ReadsUniversal (record { netlist = renamed name max_var net; mapping = mapping })) f r
      → IsReadsAnswer (ReadsUniversal (record { netlist = net; mapping = mapping })) f r
  reads_answer_original (Ok _) h = λ p below. before_original (existential_at f p) (length f.universals) (h p below)
  reads_answer_original (Err read) h = record {
    place = h.place;
    in_range = h.in_range;
    is = h.is;
    read = record {
      place = h.read.place;
      in_range = h.read.in_range;
      is = h.read.is;
      reads = reads_original (existential_at f h.place).variable read.1 h.read.reads;
      undeclared = h.read.undeclared;
      first = before_original (existential_at f h.place) h.read.place h.read.first;
    };
    first = λ p below. before_original (existential_at f p) (length f.universals) (h.first p below);
  }

  holds_original : (k : ℕ) → RowHolds f copied_circuit k → RowHolds f original_circuit k
  holds_original k holds m row follows =
      holds m row (λ p d below. value_of_copy m (get_or f.existentials p d).variable
      (m (get_or f.existentials p d).variable) (follows p d below))

  fails_original : (k : ℕ) → RowFails f copied_circuit k → RowFails f original_circuit k
  fails_original k fails = record {
    assignment = fails.assignment;
    row = fails.row;
    follows = λ p d below.
        value_of_original fails.assignment (get_or f.existentials p d).variable
        (fails.assignment (get_or f.existentials p d).variable) (fails.follows p d below);
    clause_false = fails.clause_false;
  }

  pub rows_answer_original : (r : Result (Unit {0}) ℕ) → IsRowsAnswer f
      (record { netlist = renamed name max_var net; mapping = mapping }) r
      → IsRowsAnswer f (record { netlist = net; mapping = mapping }) r
  rows_answer_original (Ok _) h = λ k below. holds_original k (h k below)
  rows_answer_original (Err k) h = (h.0, λ j below. holds_original j (h.1 j below), fails_original k h.2)

pub complete_copied : (net dense : Netlist) → IsNetlist net → IsComplete net → dense ≡ renumbered net → IsComplete dense
complete_copied net dense kept complete copied =
    subst IsComplete (sym copied)
    (complete_renamed net (dense_number net) (length net.inputs + length net.gates) (dense_renaming net kept) complete)

pub mapping_copied : (f : Dqbf) (net dense : Netlist) (mapping : Mapping) → dense ≡ renumbered net →
    IsMapping f net mapping → IsMapping f dense mapping
mapping_copied f net dense mapping copied mapped =
    subst (λ c. IsMapping f c mapping) (sym copied)
    (mapping_renamed f net (dense_number net) (length net.inputs + length net.gates) mapping mapped)

module _ (f : Dqbf) (net dense : Netlist) (mapping : Mapping) (literals places : List ℕ) (formed : IsWellFormed f)
    (kept : IsNetlist net)
    (complete : IsComplete net) (mapped : IsMapping f net mapping) (copied : dense ≡ renumbered net)
    (dense_kept : IsNetlist dense)
    (tables : AreTables f dense mapping literals places) where
  pub reads_answer_copied : (r : Result (Unit {0}) (ℕ × ℕ)) → IsReadsAnswer (ReadsByTables dense literals places) f r
      → IsReadsAnswer (ReadsUniversal (record { netlist = net; mapping = mapping })) f r
  reads_answer_copied r h =
      reads_answer_original f net (dense_number net) (length net.inputs + length net.gates) mapping kept complete
      (dense_renaming net kept) mapped
      (subst IsNetlist copied dense_kept) r
      (subst (λ c. IsReadsAnswer (ReadsUniversal (record { netlist = c; mapping = mapping })) f r) copied
      (reads_answer f dense mapping literals places formed tables r h))

  pub rows_answer_copied : (by_input : List ℕ) → by_input ≡ universal_places f mapping → (r : Result (Unit {0}) ℕ)
      → IsFirstBad (λ k. RowTest f dense literals by_input k true) (λ k. RowTest f dense literals by_input k false)
      (2 ^ length f.universals) r
      → IsRowsAnswer f (record { netlist = net; mapping = mapping }) r
  rows_answer_copied by_input is r h =
      rows_answer_original f net (dense_number net) (length net.inputs + length net.gates) mapping kept complete
      (dense_renaming net kept) mapped
      (subst IsNetlist copied dense_kept) r
      (subst (λ c. IsRowsAnswer f (record { netlist = c; mapping = mapping }) r) copied
      (rows_answer f dense mapping literals places formed tables by_input is
      (complete_copied net dense kept complete copied) r h))
