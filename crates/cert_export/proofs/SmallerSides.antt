-- The gates of an exported circuit read what has a smaller number.
use Rattle.std.proofs.Common.{◌≡◌, ℕ, ◌+◌, ◌*◌, ◌<◌, ◌==◌, Bool, true, false, List, length, get_or, Some, sym, ◌∙◌, ap, subst, arith}
use Rattle.std.specs.List.{All, Contains, position_or_len}
use Rattle.std.specs.Option.{option_map}
use Rattle.std.proofs.lemmas.List.Elements.{All-map, Contains-get_or}
use Rattle.list_laws.proofs.Members.{tested_inside}
use Rattle.dq_lits.specs.Formula.{Dqbf}
use Rattle.dq_lits.specs.Literal.{Literal, variable_of}
use Rattle.hint_log.specs.Conditions.{AreLogged, is_circuit_name}
use Rattle.hint_log.specs.Entries.{Entry, name_of}
use Rattle.log_laws.proofs.Solved.{sides}
use Rattle.cert_export.specs.CircuitPart.{CircuitPart, IsCircuitPart, IsInFile, IsSideBefore, AreGatesInOrder, aiger_literal, circuit_number, circuit_renaming, exported_netlist, gate_of, literal_code, or_zero}
use Rattle.cert_export.specs.ExportedCircuit.{HasSmallerSides}
use Rattle.cert_export.specs.Given.{HasUniversalInputs}
use Rattle.cert_export.proofs.CircuitNumbers.{place_there, position_below}

by_sign : (b : Bool) (n m : ℕ) → n < m → aiger_literal b n < 2 * m
by_sign true n m low = omega (arith, low)
by_sign false n m low = omega (arith, low)

module _ (f : Dqbf) (entries : List Entry) (e : CircuitPart) (logged : AreLogged entries)
    (given : HasUniversalInputs f entries) (part : IsCircuitPart f entries e)
    (order : AreGatesInOrder entries e.gates) where
  abbrev number : ℕ → ℕ
  number v = length f.universals + (position_or_len (λ x. x == v) e.gates + 1)

  code_below : (l : Literal) (n m : ℕ) → circuit_renaming f entries e (variable_of l) ≡ Some n → n < m →
      literal_code (circuit_renaming f entries e) l < 2 * m
  code_below l n m is low = search (arith, by_sign)

  side_below : (v : ℕ) (l : Literal) → is_circuit_name (name_of entries (variable_of l)) ≡ true →
      IsInFile entries e.gates l → IsSideBefore entries e.gates v l →
      literal_code (circuit_renaming f entries e) l < 2 * number v
  side_below v l circuit in_file before = search (arith, code_below, place_there, position_below, tested_inside)

  sides_below : (v : ℕ) → Contains e.gates v →
      HasSmallerSides (gate_of (circuit_renaming f entries e) v (name_of entries v))
  sides_below v inside =
      let n = part.named v inside in
      let both = sides entries v n.0 n.1 logged n.2 in
      let files = part.sides v n.0 n.1 inside n.2 in
      let low = order v n.0 n.1 inside n.2 in
      let own : or_zero (circuit_renaming f entries e v) ≡ number v =
      ap (λ o. or_zero (circuit_number f e v o)) n.2
      ∙ ap (λ o. or_zero (option_map (λ p. length f.universals + p) o)) (place_there e.gates v inside) in
      subst (λ o. HasSmallerSides (gate_of (circuit_renaming f entries e) v o)) (sym n.2)
      (record {
        left = omega (arith, side_below v n.0 both.0 files.0 low.0, own);
        right =
            omega (arith, side_below v n.1 both.1 files.1 low.1, own);
      })

  pub smaller_sides : All HasSmallerSides (exported_netlist f entries e).gates
  smaller_sides = All-map HasSmallerSides (λ v. gate_of (circuit_renaming f entries e) v (name_of entries v)) e.gates
      (λ k d below. sides_below (get_or e.gates k d) (Contains-get_or e.gates k d below))
