-- What a bench answers.
use Rattle.std.proofs.Common.{◌≡◌, ℕ, ◌+◌, ◌*◌, ◌^◌, ◌<◌, ◌≤◌, true, false, List, length, map, get_or, sym, ap, ◌∙◌, subst, arith, Result, Ok, Err}
use Rattle.std.specs.Prelude.{slice_index}
use Rattle.std.specs.List.{All, Contains}
use Rattle.std.proofs.lemmas.List.{get_or-map, get_or_default, length-map}
use Rattle.std.proofs.lemmas.List.Elements.{All-contains, Contains-get_or, Contains-append_left, Contains-append_right}
use Rattle.dq_lits.specs.Literal.{variable_of}
use Rattle.dq_lits.specs.Formula.{Existential, Dqbf, declared, HasLawfulPrefix, IsWellFormed}
use Rattle.dq_formula.specs.Prefix.{existential_variables}
use Rattle.dq_formula.proofs.Places.{place, has-contains}
use Rattle.dq_formula.proofs.Sorted.{place-below}
use Rattle.circuit_plain.specs.Netlist.{Netlist, IsNetlist}
use Rattle.skolem_checker.specs.Mapping.{Mapping}
use Rattle.skolem_checker.specs.SkolemCircuit.{IsComplete, ReadsUniversal}
use Rattle.skolem_checker.specs.Checks.{existential_at, ReadsDeclaredBefore, IsReadsAnswer, IsFirstBad, IsRowsAnswer}
use Rattle.skolem_checker.specs.Tables.{IsOneToOne, IsMapping, IsWritten, IsKeptElsewhere, IsLiteralTable, AreTables, HasLiteral, ReadsByTables, RowTest, universal_places}
use Rattle.skolem_checker.proofs.TablesLaws.{reads_by_tables, tables_by_reads, has_literal, row_holds, row_fails}
use Rattle.list_laws.proofs.Members.{in_one_part}

-- keys are within a table over the variables
keys_in : (f : Dqbf) (variables keys : List ℕ) → HasLawfulPrefix f →
    ((v : ℕ) → Contains variables v → Contains (declared f) v)
    → IsOneToOne variables keys → All (λ v. v ≤ f.variables) keys
keys_in f variables keys lawful inside one k d below =
    (All-contains (λ w. (1 ≤ w) × (w ≤ f.variables)) (declared f) (get_or keys k d) lawful.in_range
    (inside (get_or keys k d) (one.declared_alone k d below))).1

pub input_keys : (f : Dqbf) (net : Netlist) (mapping : Mapping) → HasLawfulPrefix f → IsMapping f net mapping →
    All (λ v. v ≤ f.variables) mapping.inputs
input_keys f net mapping lawful mapped =
    keys_in f f.universals mapping.inputs lawful (λ v known. Contains-append_left f.universals
    (existential_variables f) v known) mapped.inputs

pub output_keys : (f : Dqbf) (net : Netlist) (mapping : Mapping) → HasLawfulPrefix f → IsMapping f net mapping →
    All (λ v. v ≤ f.variables) mapping.outputs
output_keys f net mapping lawful mapped =
    keys_in f (existential_variables f) mapping.outputs lawful
    (λ v known. Contains-append_right f.universals (existential_variables f) v known) mapped.outputs

pub literal_table : (f : Dqbf) (net : Netlist) (mapping : Mapping) (inputs first second : List ℕ)
    → HasLawfulPrefix f → IsMapping f net mapping → length second ≡ f.variables + 1 →
    inputs ≡ map (λ v. 2 * v) net.inputs
    → IsWritten first mapping.inputs inputs → IsWritten second mapping.outputs net.outputs →
    IsKeptElsewhere first second mapping.outputs
    → IsLiteralTable f net mapping second
literal_table f net mapping inputs first second lawful mapped room doubled written more elsewhere = record {
  a_literal_a_variable = room;
  input_literals = λ i below.
      let v = slice_index mapping.inputs i in
      let in_net : i < length net.inputs = omega (arith, mapped.inputs_length, mapped.inputs.same_length) in
      elsewhere v (λ there.
      in_one_part f.universals (existential_variables f) v lawful.declared_once (mapped.inputs.declared_alone i 0 below) (All-contains (Contains (existential_variables f)) mapping.outputs v mapped.outputs.declared_alone there))
      ∙ written i below
      ∙ ap (λ xs. slice_index xs i) doubled
      ∙ get_or-map (λ v. 2 * v) net.inputs i 0 0 in_net;
  output_literals = more;
}

existential_in : (f : Dqbf) (p : ℕ) → p < length f.existentials →
    Contains (existential_variables f) (existential_at f p).variable
existential_in f p below = (
  p,
  rw (length-map f.existentials (λ (y : Existential). y.variable)) below,
  get_or-map (λ (y : Existential). y.variable) f.existentials p _ _ below,
)

module _ (f : Dqbf) (net : Netlist) (mapping : Mapping) (literals places : List ℕ) (formed : IsWellFormed f)
    (tables : AreTables f net mapping literals places) where
  pub universals_fit : IsNetlist net → All (HasLiteral literals (net.max_var + 1)) f.universals
  universals_fit kept k d below =
      has_literal f net mapping literals places formed tables kept (get_or f.universals k d)
      (Contains-append_left f.universals (existential_variables f) (get_or f.universals k d)
      (Contains-get_or f.universals k d below))

  pub literals_fit : IsNetlist net → All (All (λ l. HasLiteral literals (net.max_var + 1) (variable_of l))) f.matrix
  literals_fit kept j d below q e within =
      has_literal f net mapping literals places formed tables kept (variable_of (get_or (get_or f.matrix j d) q e))
      (formed.bound j d below q e within)

  pub places_fit : All (λ y. y < length places) (existential_variables f)
  places_fit k d below =
      let known = Contains-append_right f.universals (existential_variables f) (get_or (existential_variables f) k d)
      (Contains-get_or (existential_variables f) k d below) in
      let range = All-contains (λ w. (1 ≤ w) × (w ≤ f.variables)) (declared f)
      (get_or (existential_variables f) k d) formed.prefix.in_range known in
      omega (arith, range.1, tables.by_place.a_place_a_variable)

  pub outputs_fit : All (λ y. slice_index places y < length net.outputs) (existential_variables f)
  outputs_fit k d below =
      let y = get_or (existential_variables f) k d in
      let among = tables.mapped.outputs.onto y (Contains-get_or (existential_variables f) k d below) in
      let is : slice_index mapping.outputs among.0 ≡ y = get_or_default mapping.outputs among.0 0 y among.1 ∙ among.2 in
      let at : slice_index places y ≡ among.0 = ap (slice_index places) (sym is)
      ∙ tables.by_place.output_places among.0 among.1 in
      let listed : length (existential_variables f) ≡ length f.existentials =
      length-map f.existentials (λ (e : Existential). e.variable) in
      omega (arith, at, among.1, tables.mapped.outputs_length, tables.mapped.outputs.same_length, listed)

  pub universal_places_fit : (by_input : List ℕ) (n : ℕ) → by_input ≡ universal_places f mapping →
      length f.universals ≤ n → All (λ p. p < n) by_input
  universal_places_fit by_input n is few =
      subst (All (λ p. p < n)) (sym is) (λ k d below.
      let listed : length (universal_places f mapping) ≡ length mapping.inputs =
      length-map mapping.inputs (λ x. place f.universals x) in
      let within : k < length mapping.inputs = omega (arith, listed, below) in
      let x = get_or mapping.inputs k 0 in
      let among : place f.universals x < length f.universals =
      place-below f.universals x (has-contains f.universals x (tables.mapped.inputs.declared_alone k 0 within)) in
      let at : get_or (universal_places f mapping) k d ≡ place f.universals x =
      get_or-map (λ x. place f.universals x) mapping.inputs k 0 d within in
      omega (arith, at, among, few))

  before_mapped : (p end : ℕ) → end ≤ length f.universals
      → ReadsDeclaredBefore (ReadsByTables net literals places) f (existential_at f p) end
      → ReadsDeclaredBefore (ReadsUniversal (record { netlist = net; mapping = mapping })) f (existential_at f p) end
  before_mapped p end within before q below reads = search (arith, tables_by_reads)

  pub reads_answer : (r : Result (Unit {0}) (ℕ × ℕ)) → IsReadsAnswer (ReadsByTables net literals places) f r
      → IsReadsAnswer (ReadsUniversal (record { netlist = net; mapping = mapping })) f r
  reads_answer (Ok _) h = λ p below. before_mapped p (length f.universals) (omega arith) (h p below)
  reads_answer (Err read) h = record {
    place = h.place;
    in_range = h.in_range;
    is = h.is;
    read = record {
      place = h.read.place;
      in_range = h.read.in_range;
      is = h.read.is;
      reads = reads_by_tables f net mapping literals places formed tables (existential_at f h.place).variable read.1
          (existential_in f h.place h.in_range)
          (subst (Contains f.universals) h.read.is (Contains-get_or f.universals h.read.place 0 h.read.in_range))
          h.read.reads;
      undeclared = h.read.undeclared;
      first = before_mapped h.place h.read.place (omega (arith, h.read.in_range)) h.read.first;
    };
    first = λ p below. before_mapped p (length f.universals) (omega arith) (h.first p below);
  }

  rows_mapped : IsComplete net → (r : Result (Unit {0}) ℕ)
      → IsFirstBad (λ k. RowTest f net literals (universal_places f mapping) k true)
      (λ k. RowTest f net literals (universal_places f mapping) k false)
      (2 ^ length f.universals) r
      → IsRowsAnswer f (record { netlist = net; mapping = mapping }) r
  rows_mapped complete (Ok _) h = λ k below.
      let t = h k below in row_holds f net mapping literals places formed tables k t.bits t.values t.are_bits
      t.valuation (sym t.is)
  rows_mapped complete (Err k) h = (
    h.0,
    λ j below. let t = h.1 j below in row_holds f net mapping literals places formed tables j t.bits t.values t.are_bits
        t.valuation (sym t.is),
    row_fails f net mapping literals places formed tables k h.2.bits h.2.values h.2.are_bits h.2.valuation complete
        (sym h.2.is),
  )

  pub rows_answer : (by_input : List ℕ) → by_input ≡ universal_places f mapping → IsComplete net →
      (r : Result (Unit {0}) ℕ)
      → IsFirstBad (λ k. RowTest f net literals by_input k true) (λ k. RowTest f net literals by_input k false)
      (2 ^ length f.universals) r
      → IsRowsAnswer f (record { netlist = net; mapping = mapping }) r
  rows_answer by_input is complete r h = search (arith, rows_mapped)
