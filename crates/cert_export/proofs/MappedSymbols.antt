-- Symbols that are the variables' numbers map the exported circuit.
use Rattle.std.proofs.Common.{◌≡◌, ℕ, ◌+◌, ◌<◌, ◌^◌, Bool, true, false, pos, List, length, slice_index, Ok, refl, sym, ◌∙◌, arith, length-append}
use Rattle.std.specs.Fmt.{decimal}
use Rattle.std.specs.List.{Contains}
use Rattle.std.proofs.lemmas.List.{length-map, get_or-append-add}
use Rattle.std.proofs.Math.ListN.{get_or-append}
use Rattle.std.proofs.lemmas.List.Elements.{All-contains, Contains-get_or, Contains-append_left, Contains-append_right}
use Rattle.std.proofs.lemmas.List.FromFn.{length-range_with_len}
use Rattle.dq_lits.specs.Formula.{Dqbf, declared, HasLawfulPrefix}
use Rattle.dq_formula.specs.Prefix.{existential_variables}
use Rattle.dq_text.specs.Number.{number_of}
use Rattle.dq_text.specs.declared.numbers.Number.TheVariants.{Int}
use Rattle.hint_log.specs.Entries.{Entry}
use Rattle.aiger_text.specs.Symbol.{SymbolTable}
use Rattle.circuit_plain.specs.Netlist.{Netlist}
use Rattle.skolem_checker.specs.Checks.{Candidate, candidate_of}
use Rattle.skolem_checker.specs.Mapping.{Mapping, mapping_of}
use Rattle.skolem_checker.specs.Naming.{has_symbols, IsToldBySymbols, IsToldMapping}
use Rattle.cert_export.specs.CircuitPart.{CircuitPart, leaf_code, circuit_renaming, exported_netlist, exported_mapping}
use Rattle.cert_export.specs.ExportedCircuit.{AreNumberSymbols}

module _ (f : Dqbf) (lawful : HasLawfulPrefix f) (symbols : SymbolTable) (numbers : AreNumberSymbols f symbols)
    (read : (n : ℕ) → n < 10 ^ 18 → number_of (decimal n) ≡ Int (pos n)) (small : f.variables < 10 ^ 18) where
  abbrev us : List ℕ
  us = f.universals

  abbrev es : List ℕ
  es = existential_variables f

  number_read : (v : ℕ) → Contains (declared f) v → number_of (decimal v) ≡ Int (pos v)
  number_read v inside = search (arith, All-contains)

  told_by : (b : Bool) → IsToldBySymbols b f symbols (exported_mapping f)
  told_by true = (
    record {
      named = λ p below.
          let inside = Contains-get_or us p 0 below in
          record {
            name = decimal (slice_index us p);
            symbol = numbers.inputs p below;
            number =
                number_read (slice_index us p) (Contains-append_left us es (slice_index us p) inside);
            declared =
                inside;
          };
      distinct = λ i j d less below same.
          lawful.declared_once i j d less (omega (arith, below, length-append us es))
          (get_or-append us es d i (omega (arith, less, below)) ∙ same ∙ sym (get_or-append us es d j below));
    },
    record {
      named = λ p below.
          let inside = Contains-get_or es p 0 below in
          record {
            name = decimal (slice_index es p);
            symbol = numbers.outputs p below;
            number =
                number_read (slice_index es p) (Contains-append_right us es (slice_index es p) inside);
            declared =
                inside;
          };
      distinct = λ i j d less below same.
          lawful.declared_once (length us + i) (length us + j) d (omega (arith, less))
          (omega (arith, below, length-append us es))
          (get_or-append-add us es i d ∙ same ∙ sym (get_or-append-add us es j d));
    },
  )
  told_by false = refl

  pub told : (entries : List Entry) (e : CircuitPart) → IsToldMapping f (exported_netlist f entries e) symbols
      (exported_mapping f)
  told entries e = record {
    counts = record {
      inputs = length-range_with_len 1 (length us);
      outputs =
          length-map f.existentials (λ y. leaf_code (circuit_renaming f entries e) (e.leaf y));
    };
    inputs_length = refl;
    outputs_length = length-map f.existentials (λ y. y.variable);
    told = told_by (has_symbols (exported_netlist f entries e) symbols);
  }

-- a mapping that is told is the one that was read
pub same_candidate : (f : Dqbf) (net : Netlist) (symbols : SymbolTable) (mapping : Mapping) (c : Candidate) →
    mapping_of f net symbols ≡ Ok mapping → candidate_of f net symbols ≡ Ok c →
    c ≡ record { formula = f; circuit = record { netlist = net; mapping = mapping } }
same_candidate f net symbols mapping c maps is = search arith
