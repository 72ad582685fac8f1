-- The gates of an exported circuit are numbered in the file's order, behind the inputs.
use Rattle.std.proofs.Common.{◌≡◌, ◌≢◌, ℕ, ◌+◌, ◌<◌, ◌==◌, List, map, length, get_or, Option, sym, ◌∙◌, ap, subst, arith}
use Rattle.std.specs.List.{All, AllPairs, range_with_len, position_or_len}
use Rattle.std.specs.Option.{option_map}
use Rattle.std.proofs.lemmas.Bool.{cases_order}
use Rattle.std.proofs.lemmas.List.{ext_get_or, get_or-map, length-map}
use Rattle.std.proofs.lemmas.List.Elements.{Contains-get_or}
use Rattle.std.proofs.lemmas.List.FromFn.{get_or-range_with_len, length-range_with_len}
use Rattle.list_laws.proofs.Members.{tested_inside}
use Rattle.dq_lits.specs.Formula.{Dqbf}
use Rattle.hint_log.specs.Entries.{Entry, name_of}
use Rattle.hint_log.specs.declared.names.Name.{Name}
use Rattle.aiger_text.specs.declared.files.AagFile.{AagFile}
use Rattle.cert_text.specs.declared.circuit_proofs.Dqp.{Dqp}
use Rattle.circuit_plain.specs.Netlist.{Netlist, gate_variables, variable_of_gate}
use Rattle.circuit_plain.specs.declared.circuits.Gate.{Gate}
use Rattle.cert_export.specs.CircuitPart.{CircuitPart, IsCircuitPart, circuit_number, circuit_renaming, exported_netlist, gate_of, or_zero}
use Rattle.cert_export.specs.ExportedCircuit.{HasSmallerSides, IsNumberedFile}
use Rattle.cert_export.specs.Parts.{IsExportedCircuit}
use Rattle.cert_export.proofs.CircuitNumbers.{place_there, position_is}
use Rattle.cert_export.proofs.SmallerSides.{smaller_sides}

-- of numbers that differ, each stands first at its own place
own_place : (xs : List ℕ) (i : ℕ) → AllPairs (λ v w. v ≢ w) xs → i < length xs →
    position_or_len (λ x. x == get_or xs i 0) xs ≡ i
own_place xs i distinct below =
    search (
      arith,
      (position_is xs (get_or xs i 0) (tested_inside xs (get_or xs i 0) (Contains-get_or xs i 0 below))),
      (tested_inside xs (get_or xs i 0) (Contains-get_or xs i 0 below)),
      (Contains-get_or xs i 0 below),
      cases_order,
    )

abbrev gate_at : Dqbf → List Entry → CircuitPart → ℕ → Gate
gate_at f entries e v = gate_of (circuit_renaming f entries e) v (name_of entries v)

module _ (f : Dqbf) (entries : List Entry) (e : CircuitPart) (part : IsCircuitPart f entries e) where
  variable_at : (i : ℕ) → i < length e.gates →
      variable_of_gate (gate_of (circuit_renaming f entries e) (get_or e.gates i 0)
      (name_of entries (get_or e.gates i 0))) ≡ length f.universals + 1 + i
  variable_at i below =
      let v = get_or e.gates i 0 in
      let named = part.named v (Contains-get_or e.gates i 0 below) in
      let is_and = named.2 in
      let I = length f.universals in
      let place = own_place e.gates i part.distinct below in
      let number : I + (i + 1) ≡ I + 1 + i = omega arith in
      ap (λ (o : Option Name). variable_of_gate (gate_of (circuit_renaming f entries e) v o)) is_and
      ∙ ap (λ (o : Option Name). or_zero (circuit_number f e v o)) is_and
      ∙ ap (λ o. or_zero (option_map (λ p. I + p) o)) (place_there e.gates v (Contains-get_or e.gates i 0 below))
      ∙ ap (λ p. I + (p + 1)) place
      ∙ number

  same_place : (i : ℕ) → i < length e.gates →
      get_or (map variable_of_gate (map (gate_at f entries e) e.gates)) i 0 ≡ get_or
      (range_with_len (length f.universals + 1) (length e.gates)) i 0
  same_place i below =
      let inside : i < length (map (gate_at f entries e) e.gates) =
      rw (length-map e.gates (gate_at f entries e)) below in
      get_or-map variable_of_gate (map (gate_at f entries e) e.gates) i (gate_at f entries e 0) 0 inside
      ∙ ap variable_of_gate (get_or-map (gate_at f entries e) e.gates i 0 (gate_at f entries e 0) below)
      ∙ variable_at i below
      ∙ sym (get_or-range_with_len (length f.universals + 1) (length e.gates) i 0 below)

  pub exported_variables : gate_variables (exported_netlist f entries e) ≡ range_with_len (length f.universals + 1)
      (length e.gates)
  exported_variables =
      let long : length (map variable_of_gate (map (gate_at f entries e) e.gates)) ≡ length e.gates =
      length-map (map (gate_at f entries e) e.gates) variable_of_gate ∙ length-map e.gates (gate_at f entries e) in
      ext_get_or 0 (map variable_of_gate (map (gate_at f entries e) e.gates))
      (range_with_len (length f.universals + 1) (length e.gates))
      (long ∙ sym (length-range_with_len (length f.universals + 1) (length e.gates)))
      (λ i below. same_place i (omega (arith, long, below)))

pub is_numbered : (f : Dqbf) (entries : List Entry) (id : ℕ) (ids : List ℕ) (file : AagFile) (proof : Dqp) →
    IsExportedCircuit f entries id ids file proof → IsNumberedFile f file
is_numbered f entries id ids file proof x =
    let gates : length file.circuit.gates ≡ length x.part.gates =
    ap (λ (net : Netlist). length net.gates) x.written.circuit ∙ length-map x.part.gates
    (gate_at f entries x.part) in
    record {
      inputs = ap (λ (net : Netlist). net.inputs) x.written.circuit;
      gates = ap gate_variables x.written.circuit ∙ exported_variables f entries x.part x.from.part.part ∙ ap
          (range_with_len (length f.universals + 1)) (sym gates);
      max_var = ap (λ (net : Netlist). net.max_var) x.written.circuit ∙ ap (λ n. length f.universals + n) (sym gates);
      sides = subst (All HasSmallerSides) (sym (ap (λ (net : Netlist). net.gates) x.written.circuit))
          (smaller_sides f entries x.part x.from.decided.logged x.from.decided.inputs x.from.part.part x.order);
      symbols = x.written.symbols;
    }
