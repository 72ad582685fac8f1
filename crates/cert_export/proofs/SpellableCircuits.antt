-- The exported circuit with its symbols is such as a text can hold.
use Rattle.std.proofs.Common.{◌≡◌, ◌≢◌, nat_eq, ℕ, zero, suc, ◌+◌, ◌≤◌, ◌<◌, ◌^◌, ◌⊎◌, inl, inr, List, [], ◌∷◌, length, get_or, slice_index, Some, refl, sym, ◌∙◌, ap, subst, arith}
use Rattle.std.specs.Fmt.{decimal}
use Rattle.std.specs.List.{All, AllPairs, Contains}
use Rattle.std.proofs.lemmas.Bool.{ne_eqb, eq-eqb, cond-true, cond-false}
use Rattle.std.proofs.lemmas.List.{length-map}
use Rattle.std.proofs.lemmas.List.Elements.{All-nil, All-cons, All-contains, Contains-get_or, Contains-append_left, Contains-append_right}
use Rattle.std.proofs.lemmas.List.FromFn.{length-range_with_len}
use Rattle.std.proofs.lemmas.List.Kept.{AllPairs-cons}
use Rattle.list_laws.proofs.Members.{contains_map}
use Rattle.dq_lits.specs.Formula.{Dqbf, declared, HasLawfulPrefix}
use Rattle.dq_formula.specs.Prefix.{existential_variables}
use Rattle.hint_log.specs.Conditions.{AreLogged}
use Rattle.hint_log.specs.Entries.{Entry, name_of}
use Rattle.cert_export.specs.Given.{HasUniversalInputs}
use Rattle.circuit_plain.specs.Ground.{IsGrounded, constant, input, gate}
use Rattle.circuit_plain.specs.Netlist.{Netlist, IsDefined, literal_variable, variable_of_gate}
use Rattle.aiger_text.specs.Grammar.{AreNames}
use Rattle.aiger_text.specs.Spellable.{IsName, IsSpellable}
use Rattle.aiger_text.specs.Symbol.{name_at}
use Rattle.aiger_text.specs.declared.files.AagFile.{AagFile}
use Rattle.cert_export.specs.CircuitPart.{CircuitPart, IsCircuitPart, circuit_renaming, exported_netlist, gate_of, leaf_code, max_number}
use Rattle.cert_export.specs.ExportedCircuit.{number_names, number_symbols, WrittenSymbolsAreNumbers}
use Rattle.cert_export.proofs.ExportedCircuits.{exported_circuit_is_complete, exported_circuit_is_netlist, sides_grounded}

-- the name of a place
named_at : (from : ℕ) (vs : List ℕ) (p : ℕ) → p < length vs →
    name_at (number_names from vs) (from + p) ≡ Some (decimal (slice_index vs p))
named_at from [] p below = absurd (omega arith)
named_at from (v ∷ vs) zero below = search (arith, cond-true, nat_eq, eq-eqb)
named_at from (v ∷ vs) (suc p) below = search (arith, cond-false, nat_eq, ne_eqb, (named_at (from + 1) vs p))

from_zero : (vs : List ℕ) (p : ℕ) → p < length vs → name_at (number_names 0 vs) p ≡ Some (decimal (slice_index vs p))
from_zero vs p below = let e : p ≡ 0 + p = omega arith in ap (name_at (number_names 0 vs)) e ∙ named_at 0 vs p below

pub written_symbols_are_numbers : WrittenSymbolsAreNumbers
written_symbols_are_numbers f = search (arith, from_zero)

-- places from one on, each once
placed : (from bound : ℕ) (vs : List ℕ) → from + length vs ≤ bound →
    All (λ symbol. symbol.0 < bound) (number_names from vs)
placed from bound [] most = All-nil (λ (symbol : ℕ × List ℕ). symbol.0 < bound)
placed from bound (v ∷ vs) most =
    All-cons (λ (symbol : ℕ × List ℕ). symbol.0 < bound) (from, decimal v) (number_names (from + 1) vs)
    (omega (arith, most)) (placed (from + 1) bound vs (omega (arith, most)))

apart : (place from : ℕ) (vs : List ℕ) → place < from → All (λ symbol. place ≢ symbol.0) (number_names from vs)
apart place from [] less = All-nil (λ (symbol : ℕ × List ℕ). place ≢ symbol.0)
apart place from (v ∷ vs) less =
    All-cons (λ (symbol : ℕ × List ℕ). place ≢ symbol.0) (from, decimal v) (number_names (from + 1) vs)
    (λ same. omega (arith, less, same)) (apart place (from + 1) vs (omega (arith, less)))

once : (from : ℕ) (vs : List ℕ) → AllPairs (λ a b. a.0 ≢ b.0) (number_names from vs)
once from [] = λ i j d less below. absurd (omega arith)
once from (v ∷ vs) = AllPairs-cons (λ (a b : ℕ × List ℕ). a.0 ≢ b.0) (from, decimal v) (number_names (from + 1) vs)
    (apart from (from + 1) vs (omega arith)) (once (from + 1) vs)

are_names : (count : ℕ) (vs : List ℕ) → count ≡ length vs → AreNames count (number_names 0 vs)
are_names count vs is = record { placed = placed 0 count vs (omega (arith, is)); once = once 0 vs }

named : (from : ℕ) (vs : List ℕ) → ((v : ℕ) → Contains vs v → IsName (decimal v)) →
    All (λ symbol. IsName symbol.1) (number_names from vs)
named from [] names = All-nil (λ (symbol : ℕ × List ℕ). IsName symbol.1)
named from (v ∷ vs) names =
    All-cons (λ (symbol : ℕ × List ℕ). IsName symbol.1) (from, decimal v) (number_names (from + 1) vs)
    (names v (0, omega arith, refl))
    (named (from + 1) vs (λ w inside. names w (suc inside.0, omega (arith, inside.1), inside.2)))

-- what is grounded is defined
meant : (net : Netlist) (n : ℕ) → IsGrounded net n → (n ≡ 0) ⊎ IsDefined net n
meant net n constant = inl refl
meant net n (input inside) = inr (inl inside)
meant net n (gate g inside on_left on_right) = inr (inr (contains_map variable_of_gate net.gates g inside))

module _ (f : Dqbf) (entries : List Entry) (e : CircuitPart) (prefix : HasLawfulPrefix f)
    (small : f.variables < 10 ^ 18) (lawful : AreLogged entries)
    (given : HasUniversalInputs f entries) (part : IsCircuitPart f entries e)
    (names : (n : ℕ) → n < 10 ^ 18 → IsName (decimal n))
    (few_variables : max_number f e ≤ 1000000000) (few_outputs : length f.existentials ≤ 1000000000) where
  abbrev net : Netlist
  net = exported_netlist f entries e

  declared_name : (v : ℕ) → Contains (declared f) v → IsName (decimal v)
  declared_name v inside = search (arith, All-contains)

  many_inputs : length net.inputs ≡ length f.universals
  many_inputs = length-range_with_len 1 (length f.universals)

  many_outputs : length net.outputs ≡ length f.existentials
  many_outputs = length-map f.existentials (λ y. leaf_code (circuit_renaming f entries e) (e.leaf y))

  pub spellable : (file : AagFile) → file.circuit ≡ net → file.symbols ≡ number_symbols f → IsSpellable file
  spellable file circuit symbols =
      let complete = exported_circuit_is_complete f entries e lawful given part in
      let many = length-map e.gates (λ v. gate_of (circuit_renaming f entries e) v (name_of entries v)) in
      let inputs = many_inputs in
      let outputs = many_outputs in
      let over : (net' : Netlist) → net' ≡ net → IsSpellable
      (record { circuit = net'; symbols = number_symbols f; comment = file.comment }) = λ net' is. subst
      (λ n. IsSpellable (record { circuit = n; symbols = number_symbols f; comment = file.comment })) (sym is) (record {
        enough = omega (arith, many, inputs);
        few_variables = few_variables;
        few_outputs = omega (arith, outputs, few_outputs);
        lawful = exported_circuit_is_netlist f entries e lawful given part (omega (arith, few_variables));
        outputs_mean = λ k d below. meant net (literal_variable (get_or net.outputs k d)) (complete.outputs k d below);
        gates_mean = λ k d below.
            let both = sides_grounded f entries e lawful given part (get_or net.gates k d)
            (Contains-get_or net.gates k d below) in
            (meant net _ both.0, meant net _ both.1);
        acyclic = complete.gates;
        input_names = are_names (length net.inputs) f.universals inputs;
        output_names = are_names (length net.outputs) (existential_variables f)
            (outputs ∙ sym (length-map f.existentials (λ y. y.variable)));
        inputs_named = named 0 f.universals (λ v inside. declared_name v
            (Contains-append_left f.universals (existential_variables f) v inside));
        outputs_named = named 0 (existential_variables f) (λ v inside. declared_name v
            (Contains-append_right f.universals (existential_variables f) v inside));
      }) in
      subst (λ s. IsSpellable (record { circuit = file.circuit; symbols = s; comment = file.comment })) (sym symbols)
      (over file.circuit circuit)
