-- The mapping and its first fault are what the symbols say.
use Rattle.std.proofs.Common.{◌≡◌, ◌≢◌, ℕ, zero, suc, ◌+◌, ◌<◌, ◌==◌, pos, negsuc, Bool, true, false, List, [], ◌∷◌, ◌++◌, length, take, get_or, inl, inr, refl, sym, ap, ◌∙◌, subst, arith, Option, Some, None, is_some, Result, Ok, Err}
use Rattle.std.specs.Prelude.{not, if◌then◌else◌, slice_index, IsSome, AllPairs, ◌↔◌}
use Rattle.std.proofs.lemmas.Bool.{cases_Bool, cases_lt, eq-eqb, eqb-true, ne_eqb, both_ways}
use Rattle.std.proofs.lemmas.List.{length-append, length-map, length-take-le, get_or-take, get_or_push, get_or_default, take_all, take_more}
use Rattle.std.proofs.lemmas.List.Folds.{list_any_at, list_any_none}
use Rattle.std.proofs.lemmas.List.Quantifiers.{all_pairs_push}
use Rattle.dq_formula.proofs.Places.{has, has-contains, contains-has}
use Rattle.dq_lits.specs.Formula.{Existential, Dqbf}
use Rattle.dq_text.specs.Number.{number_of}
use Rattle.dq_text.specs.declared.numbers.Number.{Number}
use Rattle.dq_text.specs.declared.numbers.Number.TheVariants.{Int, NotANumber, TooBig}
use Rattle.circuit_plain.specs.Netlist.{Netlist}
use Rattle.aiger_text.specs.Symbol.{SymbolTable}
use Rattle.skolem_checker.specs.Mapping.{Mapping, variables_of, symbol_at, symbol_variable, new_variable, named_from, natural, behind_symbol, behind_inputs, with_outputs, place_of, mapping_of, mapping_by_symbols, mapping_in_order}
use Rattle.skolem_checker.specs.Naming.{Names, AreNamed, has_symbols, DoCountsFit, IsToldBySymbols, IsToldMapping, IsSymbolFault, IsFirstSymbolFault, IsToldFault}
use Rattle.skolem_checker.specs.declared.mapping.Kind.{Kind}
use Rattle.skolem_checker.specs.declared.mapping.Kind.TheVariants.{Inputs, Outputs}
use Rattle.skolem_checker.specs.declared.mapping.MapName.{MapName}
use Rattle.skolem_checker.specs.declared.mapping.MapName.TheVariants.{InputCount, OutputCount, SymbolMissing, SymbolNumber, SymbolTwice}
use Rattle.skolem_checker.specs.declared.mapping.MapError.{MapError}
use Rattle.skolem_checker.specs.declared.mapping.MapPlace.TheVariants.{Whole}
use Rattle.skolem_checker.proofs.OntoLaws.{get_or-append_left}

name_or_none : Option (List ℕ) → List ℕ
name_or_none None = []
name_or_none (Some name) = name

pub same_name : (a b : List ℕ) → Some a ≡ Some b → a ≡ b
unfolding name_or_none
same_name a b h = ap name_or_none h

number_or_zero : Number → ℕ
number_or_zero (Int (pos n)) = n
number_or_zero (Int (negsuc _)) = 0
number_or_zero NotANumber = 0
number_or_zero TooBig = 0

int_same : (v w : ℕ) → Int (pos v) ≡ Int (pos w) → v ≡ w
unfolding number_or_zero
int_same v w h = ap number_or_zero h

not_negative : (n v : ℕ) → Int (negsuc n) ≡ Int (pos v) → ⊥
not_negative n v h = cc

no_number : (v : ℕ) → NotANumber ≡ Int (pos v) → ⊥
no_number v h = cc

not_large : (v : ℕ) → TooBig ≡ Int (pos v) → ⊥
not_large v h = cc

module _ (f : Dqbf) (symbols : SymbolTable) (kind : Kind) where
  -- what reading the symbol at a place behind earlier variables gives
  abbrev Says : ℕ → List ℕ → Result ℕ MapName → Type 0
  Says place earlier (Ok v) = Names f symbols kind place v × (has earlier v ≡ false)
  Says place earlier (Err SymbolMissing) = symbol_at symbols kind place ≡ None
  Says place earlier (Err SymbolNumber) = IsSome (symbol_at symbols kind place) ×
      ((v : ℕ) → ¬ Names f symbols kind place v)
  Says place earlier (Err SymbolTwice) = (v : ℕ) × Names f symbols kind place v × (has earlier v ≡ true)
  Says place earlier (Err InputCount) = ⊥
  Says place earlier (Err OutputCount) = ⊥

  number_is : (place v : ℕ) (name : List ℕ) → symbol_at symbols kind place ≡ Some name → Names f symbols kind place v →
      number_of name ≡ Int (pos v)
  number_is place v name is names = ap number_of (same_name name names.name (sym is ∙ names.symbol)) ∙ names.number

  has_one : (place : ℕ) (name : List ℕ) → symbol_at symbols kind place ≡ Some name →
      IsSome (symbol_at symbols kind place)
  has_one place name is = ap is_some is

  says-variable : (place v : ℕ) (earlier name : List ℕ) → symbol_at symbols kind place ≡ Some name →
      number_of name ≡ Int (pos v)
      → Says place earlier (new_variable f kind earlier (Some v))
  says-variable place v earlier name is number =
      elim (cases_Bool (has (variables_of f kind) v)) [
        | inr unknown ↦ search (arith, has_one, has-contains)
        | inl known ↦ search (arith, contains-has, cases_Bool)
      ]

  -- a symbol that is no natural number
  says-nothing : (place : ℕ) (earlier name : List ℕ) (number : Number) → symbol_at symbols kind place ≡ Some name →
      number_of name ≡ number
      → ((v : ℕ) → number ≡ Int (pos v) → ⊥) → Says place earlier (Err SymbolNumber)
  says-nothing place earlier name number is read none = search (arith, has_one)

  says-number : (place : ℕ) (earlier name : List ℕ) (number : Number) → symbol_at symbols kind place ≡ Some name →
      number_of name ≡ number
      → Says place earlier (new_variable f kind earlier (natural number))
  says-number place earlier name (Int (pos v)) is read = says-variable place v earlier name is read
  says-number place earlier name (Int (negsuc n)) is read = search (arith, says-nothing, not_negative)
  says-number place earlier name NotANumber is read = says-nothing place earlier name NotANumber is read no_number
  says-number place earlier name TooBig is read = says-nothing place earlier name TooBig is read not_large

  says-symbol : (place : ℕ) (earlier : List ℕ) (symbol : Option (List ℕ)) → symbol_at symbols kind place ≡ symbol
      → Says place earlier (symbol_variable f kind earlier symbol)
  says-symbol place earlier None is = is
  says-symbol place earlier (Some name) is = says-number place earlier name (number_of name) is refl

  says : (place : ℕ) (earlier : List ℕ) → Says place earlier
      (symbol_variable f kind earlier (symbol_at symbols kind place))
  says place earlier = says-symbol place earlier (symbol_at symbols kind place) refl

  push : (place v : ℕ) (earlier : List ℕ) → length earlier ≡ place → AreNamed f symbols kind earlier →
      Names f symbols kind place v → has earlier v ≡ false
      → AreNamed f symbols kind (earlier ++ v ∷ [])
  push place v earlier before named names fresh = record {
    named = λ p below.
        elim (cases_lt p (length earlier)) [
          | inl within ↦ subst (Names f symbols kind p) (sym (get_or-append_left earlier (v ∷ []) p 0 within))
              (named.named p within)
          | inr past ↦
              let longer : length (earlier ++ v ∷ []) ≡ length earlier + 1 = length-append earlier (v ∷ []) in
              let here : p ≡ place = omega arith in
              subst (Names f symbols kind p) (sym (get_or_push earlier v 0 p (omega arith)))
              (subst (λ q. Names f symbols kind q v) (sym here) names)
        ];
    distinct = all_pairs_push (λ u w. u ≢ w) earlier v named.distinct (λ k d below same.
        both_ways (has earlier v) fresh (list_any_at (λ u. u == v) earlier k d below
        (eq-eqb (get_or earlier k d) v same)));
  }

  fault_of : (place : ℕ) (earlier : List ℕ) (name : MapName) → length earlier ≡ place → AreNamed f symbols kind earlier
      → Says place earlier (Err name) → IsSymbolFault name f symbols kind place
  fault_of place earlier SymbolMissing before named h = h
  fault_of place earlier SymbolNumber before named h = h
  fault_of place earlier SymbolTwice before named (v, names, twice) =
      let at = contains-has earlier v twice in
      let is : slice_index earlier at.0 ≡ v = get_or_default earlier at.0 0 v at.1 ∙ at.2 in
      (v, names, (at.0, omega (arith, before, at.1), subst (Names f symbols kind at.0) is (named.named at.0 at.1)))
  fault_of place earlier InputCount before named h = absurd h
  fault_of place earlier OutputCount before named h = absurd h

  -- what a reading of so many places gives
  abbrev pub Told : ℕ → Result (List ℕ) MapError → Type 0
  Told end (Ok variables) = AreNamed f symbols kind variables × (length variables ≡ end)
  Told end (Err fault) = (p : ℕ) × (fault.at ≡ place_of kind p) × IsFirstSymbolFault f symbols kind end p fault.name

  behind-told : (place end : ℕ) (earlier : List ℕ) (r : Result ℕ MapName) (next : ℕ → Result (List ℕ) MapError)
      → length earlier ≡ place → place < end → AreNamed f symbols kind earlier → Says place earlier r
      → ((v : ℕ) → Names f symbols kind place v → has earlier v ≡ false → Told end (next v)) →
      Told end (behind_symbol kind place r next)
  behind-told place end earlier (Ok v) next before below named h more = more v h.0 h.1
  behind-told place end earlier (Err name) next before below named h more = (
    place,
    refl,
    record {
      earlier = earlier;
      before = before;
      named = named;
      in_range = below;
      fault =
          fault_of place earlier name before named h;
    },
  )

  told-from : (count place end : ℕ) (earlier : List ℕ) → length earlier ≡ place → place + count ≡ end →
      AreNamed f symbols kind earlier
      → Told end (named_from f kind symbols count place earlier)
  told-from zero place end earlier before sum named = (named, omega arith)
  told-from (suc count) place end earlier before sum named =
      behind-told place end earlier (symbol_variable f kind earlier (symbol_at symbols kind place))
      (λ v. named_from f kind symbols count (place + 1) (earlier ++ v ∷ []))
      before (omega arith) named (says place earlier)
      (λ v names fresh.
      let longer : length (earlier ++ v ∷ []) ≡ length earlier + 1 = length-append earlier (v ∷ []) in
      told-from count (place + 1) end (earlier ++ v ∷ []) (omega arith) (omega arith)
      (push place v earlier before named names fresh))

  none_named : AreNamed f symbols kind []
  none_named = record { named = λ p below. absurd (omega arith); distinct = λ i j d before below. absurd (omega arith) }

  pub told : (count : ℕ) → Told count (named_from f kind symbols count 0 [])
  told count = told-from count 0 count [] refl (omega arith) none_named

  -- and back
  new_is : (v : ℕ) (earlier : List ℕ) → has (variables_of f kind) v ≡ true → has earlier v ≡ false →
      new_variable f kind earlier (Some v) ≡ Ok v
  new_is v earlier known fresh = rw known (rw fresh refl)

  symbol_is : (place v : ℕ) (earlier : List ℕ) → Names f symbols kind place v → has earlier v ≡ false
      → symbol_variable f kind earlier (symbol_at symbols kind place) ≡ Ok v
  symbol_is place v earlier names fresh = search (arith, new_is, has-contains)

  fresh_at : (variables : List ℕ) (place : ℕ) → place < length variables → AllPairs (λ v w. v ≢ w) variables
      → has (take place variables) (slice_index variables place) ≡ false
  fresh_at variables place below distinct =
      list_any_none (λ u. u == slice_index variables place) (take place variables) (λ k d within.
      let short : length (take place variables) ≡ place = length-take-le place variables (omega arith) in
      let k_in : k < place = omega arith in
      ne_eqb (get_or (take place variables) k d) (slice_index variables place) (λ same.
      distinct k place d k_in below
      (sym (get_or-take place variables k d k_in) ∙ same ∙ get_or_default variables place 0 d below)))

  again-from : (variables : List ℕ) → AreNamed f symbols kind variables → (count place : ℕ) →
      place + count ≡ length variables
      → named_from f kind symbols count place (take place variables) ≡ Ok variables
  again-from variables named zero place sum = ap Ok (take_all place variables (omega arith))
  again-from variables named (suc count) place sum =
      search (
        arith,
        (symbol_is place),
        (fresh_at variables place),
        (take_more variables place 0),
        (again-from variables named count (place + 1)),
      )

  pub again : (count : ℕ) (variables : List ℕ) → AreNamed f symbols kind variables → length variables ≡ count
      → named_from f kind symbols count 0 [] ≡ Ok variables
  again count variables named same = again-from variables named count 0 (omega (arith, same))

module _ (f : Dqbf) (net : Netlist) (symbols : SymbolTable) where
  abbrev AreTold : Result Mapping MapError → Type 0
  AreTold (Ok mapping) = IsToldMapping f net symbols mapping
  AreTold (Err fault) = IsToldFault fault.at fault.name f net symbols

  both-told : (inputs outputs : Result (List ℕ) MapError) → DoCountsFit f net → has_symbols net symbols ≡ true
      → Told f symbols Inputs (length net.inputs) inputs → Told f symbols Outputs (length net.outputs) outputs
      → AreTold (behind_inputs inputs outputs)
  both-told (Err fault) outputs counts some on_inputs on_outputs = search arith
  both-told (Ok inputs) (Err fault) counts some on_inputs on_outputs = search arith
  both-told (Ok inputs) (Ok outputs) counts some on_inputs on_outputs = search arith

  existentials_length : length (mapping_in_order f).outputs ≡ length f.existentials
  existentials_length = length-map f.existentials (λ (y : Existential). y.variable)

  in_order-told : DoCountsFit f net → has_symbols net symbols ≡ false → IsToldMapping f net symbols (mapping_in_order f)
  in_order-told counts none = search (arith, existentials_length)

  -- the answer by its three tests
  abbrev by_tests : Bool → Bool → Bool → Result Mapping MapError
  by_tests same_inputs same_outputs some =
      if not same_inputs then Err (record { name = InputCount; at = Whole }) else
      if not same_outputs then Err (record { name = OutputCount; at = Whole }) else
      if some then mapping_by_symbols f symbols else Ok (mapping_in_order f)

  tests-told : (same_inputs same_outputs some : Bool) → (length net.inputs == length f.universals) ≡ same_inputs
      → (length net.outputs == length f.existentials) ≡ same_outputs → has_symbols net symbols ≡ some →
      AreTold (by_tests same_inputs same_outputs some)
  tests-told false same_outputs some inputs outputs is = search (arith, eq-eqb)
  tests-told true false some inputs outputs is = search (arith, eqb-true, eq-eqb)
  tests-told true true false inputs outputs is = search (arith, in_order-told, eqb-true)
  tests-told true true true inputs outputs is =
      let counts : DoCountsFit f net = search (arith, eqb-true) in
      both-told (named_from f Inputs symbols (length f.universals) 0 [])
      (named_from f Outputs symbols (length f.existentials) 0 []) counts is
      (subst (λ n. Told f symbols Inputs n (named_from f Inputs symbols (length f.universals) 0 [])) (sym counts.inputs)
      (told f symbols Inputs (length f.universals)))
      (subst (λ n. Told f symbols Outputs n (named_from f Outputs symbols (length f.existentials) 0 []))
      (sym counts.outputs) (told f symbols Outputs (length f.existentials)))

  mapping-told : AreTold (mapping_of f net symbols)
  mapping-told = search (arith, tests-told)

  by_symbols-again : (mapping : Mapping) → length mapping.inputs ≡ length f.universals →
      length mapping.outputs ≡ length f.existentials
      → AreNamed f symbols Inputs mapping.inputs → AreNamed f symbols Outputs mapping.outputs →
      mapping_by_symbols f symbols ≡ Ok mapping
  by_symbols-again mapping inputs outputs named_inputs named_outputs =
      ap (λ r. behind_inputs r (named_from f Outputs symbols (length f.existentials) 0 []))
      (again f symbols Inputs (length f.universals) mapping.inputs named_inputs inputs)
      ∙ ap (with_outputs mapping.inputs) (again f symbols Outputs
      (length f.existentials) mapping.outputs named_outputs outputs)

  tests-again : (same_inputs same_outputs some : Bool) (mapping : Mapping) → same_inputs ≡ true → same_outputs ≡ true
      → length mapping.inputs ≡ length f.universals → length mapping.outputs ≡ length f.existentials →
      IsToldBySymbols some f symbols mapping
      → by_tests same_inputs same_outputs some ≡ Ok mapping
  tests-again false same_outputs some mapping a b inputs outputs told = cc
  tests-again true false some mapping a b inputs outputs told = cc
  tests-again true true false mapping a b inputs outputs told = ap Ok (sym told)
  tests-again true true true mapping a b inputs outputs told = by_symbols-again mapping inputs outputs told.0 told.1

  pub told_mapping : (mapping : Mapping) → (mapping_of f net symbols ≡ Ok mapping) ↔ IsToldMapping f net symbols mapping
  told_mapping mapping = (
    λ is. subst AreTold is mapping-told,
    λ h. tests-again (length net.inputs == length f.universals) (length net.outputs == length f.existentials)
        (has_symbols net symbols) mapping
        (eq-eqb (length net.inputs) (length f.universals) h.counts.inputs)
        (eq-eqb (length net.outputs) (length f.existentials) h.counts.outputs)
        h.inputs_length h.outputs_length h.told,
  )

  pub told_fault : (fault : MapError) → mapping_of f net symbols ≡ Err fault →
      IsToldFault fault.at fault.name f net symbols
  told_fault fault is = subst AreTold is mapping-told
