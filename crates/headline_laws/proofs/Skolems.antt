-- A Skolem circuit of the checker's is one on the page.
use Rattle.std.proofs.Common.{◌≡◌, ◌≢◌, ℕ, zero, suc, ◌+◌, ◌<◌, ◌≤◌, ◌==◌, inl, inr, nat_eq, pos, Bool, true, false, not, ◌||◌, cond, List, [], ◌∷◌, length, map, get_or, Some, refl, sym, ◌∙◌, ap, subst, arith}
use Rattle.std.specs.List.{All, AllPairs, Contains, filter, list_any, range_with_len}
use Rattle.std.specs.Map.{lookup}
use Rattle.std.specs.Option.{is_some}
use Rattle.std.proofs.lemmas.Bool.{eqb-true, eq-eqb}
use Rattle.std.proofs.lemmas.List.{get_or-map, length-map}
use Rattle.std.proofs.lemmas.Map.Views.{Contains-from_lookup}
use Rattle.list_laws.proofs.Members.{contains_cases, contains_first, contains_later, mapped_from, contains_map}
use Rattle.aiger_text.specs.Grammar.{letter_of, names, table_of, AreNames}
use Rattle.aiger_text.specs.Lines.{SymbolLine}
use Rattle.aiger_text.specs.Symbol.{SymbolTable}
use Rattle.std.specs.List.{slice_index}
use Rattle.std.proofs.lemmas.Option.{slice_get-get_or}
use Rattle.dq_lits.specs.Formula.{Dqbf}
use Rattle.dq_lits.specs.Formula.{Existential as ReadExistential}
use Rattle.dq_lits.specs.Henkin.{MatrixHolds}
use Rattle.dq_lits.specs.Literal.{Assignment}
use Rattle.dq_formula.specs.Prefix.{existential_variables}
use Rattle.dq_text.specs.declared.numbers.Number.TheVariants.{Int}
use Rattle.circuit_plain.specs.Netlist.{Netlist, signed_bit}
use Rattle.circuit_plain.specs.Value.{IsValuation}
use Rattle.circuit_plain.proofs.ValueLaws.{grounded_value, valuation_agrees}
use Rattle.aiger_text.specs.Grammar.{HasMeaning}
use Rattle.aiger_text.specs.Scan.{AllGrounded}
use Rattle.skolem_checker.specs.Mapping.{Mapping}
use Rattle.skolem_checker.specs.Naming.{IsToldBySymbols, IsToldMapping, has_symbols}
use Rattle.skolem_checker.specs.SkolemCircuit.{IsSkolemCircuit, HasOutputValue, input_bits}
use Rattle.skolem_checker.specs.Tables.{IsMapping}
use Rattle.skolem_checker.proofs.LiteralNumbers.{meaning_grounded}
use Rattle.headline.specs.Headline.{Named, Formula, Existential, Fits, Holds, IsSkolem, StandsFor, existentials_of, literal_bit, universals_of}
use Rattle.headline_laws.specs.Formulas.{read_existential}
use Rattle.headline_laws.proofs.Circuits.{fits_valuation, page_circuit, page_reaches}
use Rattle.headline_laws.proofs.Declarations.{or_false}
use Rattle.headline_laws.proofs.Symbols.{natural_number}
use Rattle.list_laws.proofs.Truths.{or_second}

abbrev pub page_name : SymbolLine → Named
page_name s = record { letter = letter_of s.of_input; place = s.place; name = s.name }

abbrev pub page_names : List SymbolLine → List Named
page_names symbols = map page_name symbols

abbrev pub entry_of : SymbolLine → ℕ × List ℕ
entry_of s = (s.place, s.name)

pub filtered : {X : Type 0} (p : X → Bool) (xs : List X) (x : X) → Contains (filter p xs) x → Contains xs x × (p x ≡ true)
filtered p [] x (k, below, is) = absurd (omega (arith, below))
filtered p (y ∷ ys) x there = by (p y) refl (λ later. filtered p ys x later) there where
  by : (b : Bool) → p y ≡ b → (Contains (filter p ys) x → Contains ys x × (p x ≡ true)) →
      Contains (cond b (y ∷ filter p ys) (filter p ys)) x → Contains (y ∷ ys) x × (p x ≡ true)
  by true passes rest at = elim (contains_cases y x (filter p ys) at) [
    | inl same ↦ (subst (Contains (y ∷ ys)) same (contains_first y ys), ap p (sym same) ∙ passes)
    | inr later ↦ (let r = rest later in (contains_later y x ys r.0, r.1))
  ]
  by false fails rest at = (let r = rest at in (contains_later y x ys r.0, r.1))

-- the symbol of a place is among the names
pub name_there : (letter : ℕ) (of_kind : SymbolLine → Bool) →
    ((s : SymbolLine) → of_kind s ≡ true → letter_of s.of_input ≡ letter) → (symbols : List SymbolLine) (place : ℕ)
    (name : List ℕ) → lookup (nat_eq place) (names of_kind symbols) ≡ Some name →
    Contains (page_names symbols) (record { letter = letter; place = place; name = name })
name_there letter of_kind letters symbols place name found =
    let entry = Contains-from_lookup {eq = nat_eq} (λ a b h. eqb-true a b h) place name (names of_kind symbols) found in
    let one = mapped_from entry_of (filter of_kind symbols) (place, name) entry in
    let s = one.0 in
    let kept = filtered of_kind symbols s one.1 in
    subst (Contains (page_names symbols)) (same s (letters s kept.1) one.2) (contains_map page_name symbols s kept.0)
  where
    same : (s : SymbolLine) → letter_of s.of_input ≡ letter → ◌≡◌ {A = ℕ × List ℕ} (entry_of s) (place, name) →
        page_name s ≡ record { letter = letter; place = place; name = name }
    same s l both =
        ap (λ (p : ℕ × List ℕ). record { letter = letter_of s.of_input; place = p.0; name = p.1 }) both
        ∙ ap (λ k. record { letter = k; place = place; name = name }) l

-- no symbol at the places that may have one is none at all
first_found : (p : ℕ) (name : List ℕ) (more : List (ℕ × List ℕ)) → is_some (lookup (nat_eq p) ((p, name) ∷ more)) ≡ true
first_found p name more = by (nat_eq p p) (eq-eqb p p refl) where
  by : (b : Bool) → b ≡ true → is_some (cond b (Some name) (lookup (nat_eq p) more)) ≡ true
  by true h = refl
  by false h = cc

in_range : (test : ℕ → Bool) (start count p : ℕ) → start ≤ p → p < start + count → test p ≡ true →
    list_any test (range_with_len start count) ≡ true
in_range test start zero p low high passes = absurd (omega (arith, low, high))
in_range test start (suc count) p low high passes = by (test start) refl (λ next. in_range test (start + 1) count p next (let e : p < (start + 1) + count = omega (arith, high) in e) passes) where
  by : (b : Bool) → test start ≡ b → (start + 1 ≤ p → list_any test (range_with_len (start + 1) count) ≡ true) →
      (b || list_any test (range_with_len (start + 1) count)) ≡ true
  by true is rest = refl
  by false is rest = rest (next is) where
    next : test start ≡ false → start + 1 ≤ p
    next fails = later (start == p) refl where
      later : (b : Bool) → (start == p) ≡ b → start + 1 ≤ p
      later true e = absurd (cc_false (sym (subst (λ n. test n ≡ true) (sym (eqb-true start p e)) passes) ∙ fails)) where
        cc_false : true ≡ false → ⊥
        cc_false x = cc
      later false e = omega (arith, low, differ e) where
        differ : (start == p) ≡ false → start ≢ p
        differ h same = cc_false (sym (eq-eqb start p same) ∙ h) where
          cc_false : true ≡ false → ⊥
          cc_false x = cc

no_entries : (count : ℕ) (entries : List (ℕ × List ℕ)) → AreNames count entries →
    list_any (λ place. is_some (lookup (nat_eq place) entries)) (range_with_len 0 count) ≡ false → entries ≡ []
no_entries count [] named none = refl
no_entries count ((p, name) ∷ more) named none =
    absurd (cc_false (sym (in_range (λ place. is_some (lookup (nat_eq place) ((p, name) ∷ more))) 0 count p (omega arith)
    (let low = named.placed 0 (p, name) (omega arith) in omega (arith, low)) (first_found p name more)) ∙ none))
  where
    cc_false : true ≡ false → ⊥
    cc_false x = cc

pub no_symbols : (symbols : List SymbolLine) → names (λ s. s.of_input) symbols ≡ [] → names (λ s. not s.of_input) symbols ≡ [] →
    page_names symbols ≡ []
no_symbols [] inputs outputs = refl
no_symbols (s ∷ symbols) inputs outputs = by s.of_input inputs outputs where
  by : (b : Bool) → map entry_of (cond b (s ∷ filter (λ t. t.of_input) symbols) (filter (λ t. t.of_input) symbols)) ≡ [] →
      map entry_of (cond (not b) (s ∷ filter (λ t. not t.of_input) symbols) (filter (λ t. not t.of_input) symbols)) ≡ [] →
      page_names (s ∷ symbols) ≡ []
  by true one other = cc
  by false one other = cc

-- where a variable stands first
abbrev pub find_place : List ℕ → ℕ → ℕ
find_place [] v = 0
find_place (x ∷ xs) v = cond (x == v) 0 (suc (find_place xs v))

found_place : (xs : List ℕ) (v : ℕ) → Contains xs v → (find_place xs v < length xs) × (slice_index xs (find_place xs v) ≡ v)
found_place [] v (k, below, is) = absurd (omega (arith, below))
found_place (x ∷ xs) v there = by (x == v) refl (λ later. found_place xs v later) where
  by : (b : Bool) → (x == v) ≡ b → (Contains xs v → (find_place xs v < length xs) × (slice_index xs (find_place xs v) ≡ v)) →
      (cond b 0 (suc (find_place xs v)) < length (x ∷ xs)) × (slice_index (x ∷ xs) (cond b 0 (suc (find_place xs v))) ≡ v)
  by true same rest = (omega arith, eqb-true x v same)
  by false other rest = elim (contains_cases x v xs there) [
    | inl same ↦ absurd (cc_false (sym (eq-eqb x v same) ∙ other))
    | inr later ↦ (let r = rest later in (omega (arith, r.0), r.1))
  ]
    where
      cc_false : true ≡ false → ⊥
      cc_false e = cc

at_index : (xs : List ℕ) (i : ℕ) → i < length xs → Contains xs (slice_index xs i)
at_index xs i below = (i, below, same xs i 0 (slice_index xs i) below) where
  same : (xs : List ℕ) (i d e : ℕ) → i < length xs → get_or xs i e ≡ get_or xs i d
  same [] i d e below = absurd (omega (arith, below))
  same (x ∷ xs) zero d e below = refl
  same (x ∷ xs) (suc i) d e below = same xs i d e (omega (arith, below))

own_place : (xs : List ℕ) (i : ℕ) → AllPairs (λ v w. v ≢ w) xs → i < length xs → find_place xs (slice_index xs i) ≡ i
own_place xs i apart below = search (arith, found_place, at_index, slice_get-get_or)

module _ (m : Dqbf) (f : Formula) (us : universals_of f ≡ m.universals)
    (es : map read_existential (existentials_of f) ≡ m.existentials)
    (holds : (a : Assignment) → MatrixHolds m a → Holds f a) (net : Netlist) (acyclic : AllGrounded net)
    (outputs : All (HasMeaning net) net.outputs) (symbols : List SymbolLine) (table : SymbolTable)
    (is_table : table ≡ table_of symbols) (inputs_named : AreNames (length net.inputs) table.inputs)
    (outputs_named : AreNames (length net.outputs) table.outputs) (s : IsSkolemCircuit m net table)
    (told : IsToldMapping m net table s.mapping) (one : IsMapping m net s.mapping) where
  abbrev input_of : ℕ → ℕ
  input_of x = find_place s.mapping.inputs x

  abbrev output_of : ℕ → ℕ
  output_of y = find_place s.mapping.outputs y

  variables_are : map (λ (y : Existential). y.variable) (existentials_of f) ≡ existential_variables m
  variables_are = both (existentials_of f) ∙ ap (map (λ (y : ReadExistential). y.variable)) es where
    both : (ys : List Existential) → map (λ (y : Existential). y.variable) ys
        ≡ map (λ (y : ReadExistential). y.variable) (map read_existential ys)
    both [] = refl
    both (y ∷ ys) = ap (λ vs. y.variable ∷ vs) (both ys)

  input_found : (x : ℕ) → Contains m.universals x → (input_of x < length s.mapping.inputs)
      × (slice_index s.mapping.inputs (input_of x) ≡ x)
  input_found x there = found_place s.mapping.inputs x (one.inputs.onto x there)

  output_found : (y : ℕ) → Contains (existential_variables m) y → (output_of y < length s.mapping.outputs)
      × (slice_index s.mapping.outputs (output_of y) ≡ y)
  output_found y there = found_place s.mapping.outputs y (one.outputs.onto y there)

  -- by its symbol, or by its place where there is none
  no_names : has_symbols net table ≡ false → page_names symbols ≡ []
  no_names none =
      no_symbols symbols
      (ap (λ (t : SymbolTable). t.inputs) (sym is_table) ∙ no_entries (length net.inputs) table.inputs inputs_named (or_false _ _ none))
      (ap (λ (t : SymbolTable). t.outputs) (sym is_table) ∙ no_entries (length net.outputs) table.outputs outputs_named (or_second _ _ none))

  input_stands : (x : ℕ) → Contains m.universals x → StandsFor (page_names symbols) 105 (universals_of f) (input_of x) x
  input_stands x there = search (arith, (input_found x there), pos, (name_there 105), nat_eq, no_names)

  output_stands : (y : ℕ) → Contains (existential_variables m) y →
      StandsFor (page_names symbols) 111 (map (λ (z : Existential). z.variable) (existentials_of f)) (output_of y) y
  output_stands y there = by (has_symbols net table) refl told.told where
    found : (output_of y < length s.mapping.outputs) × (slice_index s.mapping.outputs (output_of y) ≡ y)
    found = output_found y there

    by : (b : Bool) → has_symbols net table ≡ b → IsToldBySymbols b m table s.mapping →
        StandsFor (page_names symbols) 111 (map (λ (z : Existential). z.variable) (existentials_of f)) (output_of y) y
    by true some named =
        let n = named.1.named (output_of y) found.0 in
        inr (
          n.name,
          natural_number n.name y (n.number ∙ ap (λ v. Int (pos v)) found.1),
          name_there 111 (λ t. not t.of_input) letters symbols (output_of y) n.name
              (ap (λ (t : SymbolTable). lookup (nat_eq (output_of y)) t.outputs) (sym is_table) ∙ n.symbol),
        ) where
          letters : (t : SymbolLine) → not t.of_input ≡ true → letter_of t.of_input ≡ 111
          letters t h = at t.of_input h where
            at : (b : Bool) → not b ≡ true → letter_of b ≡ 111
            at true e = cc
            at false e = refl
    by false none order =
        inl (
          no_names none,
          omega (arith, found.0, one.outputs.same_length, ap length variables_are),
          sym found.1 ∙ ap (λ (k : Mapping). slice_index k.outputs (output_of y)) order
              ∙ ap (λ vs. slice_index vs (output_of y)) (sym variables_are),
        )

  -- values
  module _ (a bits inputs : ℕ → Bool) (fits : Fits (page_circuit net) inputs bits)
      (rows : All (λ x. inputs (input_of x) ≡ a x) (universals_of f)) where
    input_at : (i : ℕ) → i < length net.inputs → inputs i ≡ input_bits s.mapping a i
    input_at i below = search (arith, own_place)

    valuation : IsValuation net (input_bits s.mapping a) bits
    valuation =
        let own = fits_valuation net inputs bits fits in
        record {
          constant = own.constant;
          inputs = λ i below. own.inputs i below ∙ input_at i below;
          gates = own.gates;
        }

    output_value : (y : ℕ) → Contains (existential_variables m) y →
        a y ≡ literal_bit bits (slice_index net.outputs (output_of y)) →
        HasOutputValue (record { netlist = net; mapping = s.mapping }) a y (a y)
    output_value y there is =
        let found = output_found y there in
        let l = slice_index net.outputs (output_of y) in
        let within : output_of y < length net.outputs =
        omega (arith, found.0, one.outputs_length, one.outputs.same_length, ap length variables_are, length-map m.existentials (λ (z : ReadExistential). z.variable)) in
        let grounded = meaning_grounded net l acyclic (outputs (output_of y) 0 within) in
        let value = grounded_value net (input_bits s.mapping a) grounded in
        let same = valuation_agrees net (input_bits s.mapping a) bits valuation value.1 in
        record {
          out = output_of y;
          in_range = found.0;
          stands_for = found.1;
          variable_bit = value.0;
          value = value.1;
          signed = is ∙ ap (signed_bit l) same;
        }

  existential_there : (k : ℕ) (d : ReadExistential) → k < length m.existentials →
      Contains (existential_variables m) (get_or m.existentials k d).variable
  existential_there k d below =
      contains_map (λ (y : ReadExistential). y.variable) m.existentials (get_or m.existentials k d) (k, below, same m.existentials k d (get_or m.existentials k d) below) where
        same : (ys : List ReadExistential) (k : ℕ) (d e : ReadExistential) → k < length ys → get_or ys k e ≡ get_or ys k d
        same [] k d e below = absurd (omega (arith, below))
        same (y ∷ ys) zero d e below = refl
        same (y ∷ ys) (suc k) d e below = same ys k d e (omega (arith, below))

  -- an existential of the page, and the reader's
  abbrev e : Existential
  e = record { variable = 0; sees = [] }

  read_at : (k : ℕ) (d : Existential) → k < length (existentials_of f) →
      (k < length m.existentials) × (get_or m.existentials k (read_existential d) ≡ read_existential (get_or (existentials_of f) k d))
  read_at k d below = search (arith, length-map, get_or-map)

  of_page : (k : ℕ) (d : Existential) → k < length (existentials_of f) →
      Contains (existential_variables m) (get_or (existentials_of f) k d).variable
  of_page k d below =
      let at = read_at k d below in
      subst (λ (y : ReadExistential). Contains (existential_variables m) y.variable) at.1
      (existential_there k (read_existential d) at.0)

  pub is_skolem : IsSkolem f (page_circuit net) (page_names symbols)
  is_skolem = record {
    input_of = input_of;
    output_of = output_of;
    as_many = (
      one.inputs_length ∙ ap length (sym us),
      one.outputs_length ∙ (sym (ap length es) ∙ length-map (existentials_of f) read_existential),
    );
    inputs = λ k d below.
        let x = get_or (universals_of f) k d in
        let there = universal_there k d below in
        let found = input_found x there in
        (omega (arith, found.0, one.inputs_length, one.inputs.same_length), input_stands x there);
    outputs = λ k d below.
        let y = get_or (existentials_of f) k d in
        let there = of_page k d below in
        let found = output_found y.variable there in (
          omega (arith, found.0, one.outputs_length, one.outputs.same_length, length-map m.existentials (λ (z : ReadExistential). z.variable)),
          output_stands y.variable there,
        );
    reads = λ k d below. λ i x' within. λ reaches.
        let x = get_or (universals_of f) i x' in
        let y = get_or (existentials_of f) k d in
        let at = read_at k d below in
        let there = universal_there i x' within in
        let out = output_found y.variable (of_page k d below) in
        let into = input_found x there in
        let seen = s.reads_declared k (read_existential d) at.0 x in
        subst (λ (z : ReadExistential). Contains z.sees x) at.1 (seen (record {
          out = output_of y.variable;
          out_in_range = out.0;
          out_stands_for = out.1 ∙ ap (λ (z : ReadExistential). z.variable) (sym at.1);
          input = input_of x;
          input_in_range = into.0;
          input_stands_for = into.1;
          reaches = page_reaches net reaches;
        }));
    holds = λ a bits inputs fits rows values.
        holds a (s.holds a (λ k d below.
        let there : k < length (existentials_of f) = omega (arith, below, length-map (existentials_of f) read_existential, ap length es) in
        let at = read_at k e there in
        let value = output_value a bits inputs fits rows (get_or (existentials_of f) k e).variable (of_page k e there) (values k e there) in
        subst (λ (z : ReadExistential). HasOutputValue (record { netlist = net; mapping = s.mapping }) a z.variable (a z.variable))
        (sym at.1 ∙ default k d below) value));
  }
    where
      universal_there : (k d : ℕ) → k < length (universals_of f) → Contains m.universals (get_or (universals_of f) k d)
      universal_there k d below = subst (λ vs. Contains vs (get_or (universals_of f) k d)) us (k, below, same (universals_of f) k d (get_or (universals_of f) k d) below) where
        same : (xs : List ℕ) (k d e : ℕ) → k < length xs → get_or xs k e ≡ get_or xs k d
        same [] k d e below = absurd (omega (arith, below))
        same (x ∷ xs) zero d e below = refl
        same (x ∷ xs) (suc k) d e below = same xs k d e (omega (arith, below))

      default : (k : ℕ) (d : ReadExistential) → k < length m.existentials →
          get_or m.existentials k (read_existential e) ≡ get_or m.existentials k d
      default k d below = same m.existentials k below where
        same : (ys : List ReadExistential) (k : ℕ) → k < length ys → get_or ys k (read_existential e) ≡ get_or ys k d
        same [] k below = absurd (omega (arith, below))
        same (y ∷ ys) zero below = refl
        same (y ∷ ys) (suc k) below = same ys k (omega (arith, below))
