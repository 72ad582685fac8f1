-- A text can hold an exported block, and its output reads what the leaf reads in the log.
use Rattle.std.proofs.Common.{◌≡◌, nat_le, nat_lt, ℕ, zero, suc, ◌+◌, ◌≤◌, ◌<◌, ◌==◌, inl, inr, Bool, true, false, List, [], ◌∷◌, map, length, get_or, Some, refl, sym, ◌∙◌, ap, subst, arith}
use Rattle.std.specs.List.{Contains, position_or_len}
use Rattle.std.proofs.lemmas.Bool.{and_from, le-leb, lt-ltb, eq-eqb, ne_eqb}
use Rattle.std.proofs.lemmas.List.{length-map, get_or_default}
use Rattle.std.proofs.lemmas.List.Sums.{position_or_len_is}
use Rattle.list_laws.proofs.Members.{tested_inside}
use Rattle.dq_lits.specs.Derivation.{ProofStep}
use Rattle.dq_lits.specs.Formula.{Dqbf}
use Rattle.dq_lits.specs.Literal.{Literal, variable_of}
use Rattle.dq_formula.specs.Prefix.{is_declared}
use Rattle.hint_log.specs.Conditions.{is_term_name}
use Rattle.hint_log.specs.Entries.{Entry, name_of}
use Rattle.hint_log.specs.declared.names.Name.TheVariants.{Copy as CopyOf, Term}
use Rattle.hint_log.specs.declared.origins.Leaf.{Leaf}
use Rattle.hint_log.specs.declared.origins.Leaf.TheVariants.{Constant, Literal as LeafLiteral}
use Rattle.circuit_plain.specs.Netlist.{Netlist, left_variable, right_variable, literal_variable}
use Rattle.circuit_plain.specs.Reach.{Reaches, itself, left, right}
use Rattle.circuit_plain.specs.declared.circuits.Gate.{Gate}
use Rattle.cert_text.specs.AllowedDefinitions.{IsGateAt, AreGatesFrom, IsDefinitionOf, is_readable, is_output, first_definition_id}
use Rattle.cert_text.specs.Grammar.{AreSteps}
use Rattle.cert_text.specs.Header.{max_count}
use Rattle.cert_text.specs.Variables.{is_up_to}
use Rattle.defined_checker.specs.DefinitionReads.{definition_netlist, IsRead}
use Rattle.definition_proofs.specs.Shown.{ReadsCopy, itself as reads_itself, left as reads_left, right as reads_right, TermLeafReads, IsDeclaredCopy, IsLeafDeclared}
use Rattle.cert_export.specs.CircuitPart.{aiger_literal, leaf_code, literal_code, or_zero}
use Rattle.cert_export.specs.Renaming.{Renaming}
use Rattle.cert_export.proofs.CircuitNumbers.{position_below}
use Rattle.definition_export.specs.ExportedDefinition.{definition_renaming, exported_definition, exported_gates, term_gate}
use Rattle.definition_export.specs.Exporting.{IsLeafListed, IsTermBefore}
use Rattle.definition_export.specs.Parts.{AreDefinitionIds}
use Rattle.definition_export.proofs.BlockLines.{inside_before, term_in_log}
use Rattle.definition_export.proofs.OrderedTerms.{term_sides}
use Rattle.definition_export.proofs.NumberedVariables.{IsNumbered, number_cases, injective, gate_numbered, term_numbered, in_range}
use Rattle.cert_text.proofs.CircuitLiterals.{half_even, half_odd}

-- a code stands on its number
code_variable : (negated : Bool) (n : ℕ) → literal_variable (aiger_literal negated n) ≡ n
code_variable true n = half_odd n
code_variable false n = half_even n

gates_from : (f : Dqbf) (variable : ℕ) (gs : List Gate) →
    ((i : ℕ) (d : Gate) → i < length gs → IsGateAt f (variable + i) (get_or gs i d)) → AreGatesFrom f variable gs
gates_from f variable [] h = tt
gates_from f variable (g ∷ gs) h =
    let e : variable + 0 ≡ variable = omega arith in (
      subst (λ n. IsGateAt f n g) e (h 0 g (omega arith)),
      gates_from f (variable + 1) gs (λ i d below. let s : variable + suc i ≡ variable + 1 + i = omega arith in
          subst (λ n. IsGateAt f n (get_or gs i d)) s (h (suc i) d (omega (arith, below)))),
    )

mapped : {X : Type 0} (g : ℕ → X) (xs : List ℕ) (i : ℕ) (d : X) → i < length xs →
    get_or (map g xs) i d ≡ g (get_or xs i 0)
mapped g [] i d h = absurd (omega (arith, h))
mapped g (x ∷ xs) zero d h = refl
mapped g (x ∷ xs) (suc i) d h = mapped g xs i d (omega (arith, h))

readable_declared : (f : Dqbf) (code n : ℕ) → literal_variable code ≡ n → is_declared f n ≡ true →
    is_readable f code ≡ true
readable_declared f code n is h = search (arith, nat_lt)

readable_gate : (f : Dqbf) (code n : ℕ) → literal_variable code ≡ n → f.variables < n → is_readable f code ≡ true
readable_gate f code n is h = search (arith, lt-ltb, nat_lt)

module _ (f : Dqbf) (entries : List Entry) (id : ℕ) (ids : List ℕ) (y : ℕ) (leaf : Leaf) (gates : List ℕ)
    (d : AreDefinitionIds f entries id ids y leaf gates) where
  abbrev r : Renaming
  r = definition_renaming f entries gates

  abbrev place : ℕ → ℕ
  place v = position_or_len (λ x. x == v) gates

  -- a literal over first copies: on a declared variable, or on a gate of the block
  data IsSide (l : Literal) (n : ℕ) : Type 0 where
    copy : name_of entries (variable_of l) ≡ Some (CopyOf 1 n) → is_declared f n ≡ true → IsSide l n
    gate : (a b : Literal) → name_of entries (variable_of l) ≡ Some (Term a b) →
        n ≡ f.variables + (place (variable_of l) + 1) → Contains gates (variable_of l) → IsSide l n

  side_of : (l : Literal) → is_term_name (name_of entries (variable_of l)) ≡ true → IsDeclaredCopy f entries l →
      ((a b : Literal) → name_of entries (variable_of l) ≡ Some (Term a b) → Contains gates (variable_of l)) →
      (n : ℕ) × (r (variable_of l) ≡ Some n) × IsSide l n
  side_of l term declared_copy inside =
      let h = term_numbered f gates entries d.well_formed l term declared_copy inside in
      (h.number, h.is, by_case (number_cases f gates (variable_of l) (name_of entries (variable_of l)) h.number h.is))
    where
      by_case : {n : ℕ} → IsNumbered f gates (variable_of l) (name_of entries (variable_of l)) n → IsSide l n
      by_case (inl c) = copy c.0 c.1
      by_case (inr g) =
          let number = g.1.number in
          let first = g.1.first in
          let is = g.2 in
          gate g.3 g.4 g.5 (omega (arith, number, first, is)) (inside g.3 g.4 g.5)

  side_code : (l : Literal) (n : ℕ) → r (variable_of l) ≡ Some n → literal_variable (literal_code r l) ≡ n
  side_code l n is = search (arith, code_variable)

  side_readable : (l : Literal) (n : ℕ) → r (variable_of l) ≡ Some n → IsSide l n →
      is_readable f (literal_code r l) ≡ true
  side_readable l n is (copy named declared_is) = search (arith, readable_declared, side_code)
  side_readable l n is (gate a b named number inside) = search (arith, readable_gate, side_code)

  side_small : (l : Literal) (n : ℕ) → IsSide l n → n ≤ f.variables + length gates
  side_small l n (copy named declared_is) = let b = in_range f n d.well_formed declared_is in let c = b.1 in
      omega (arith, c)
  side_small l n (gate a b named number inside) = search (arith, position_below, tested_inside)

  side_before : (l : Literal) (n v : ℕ) → IsTermBefore entries gates v l → IsSide l n →
      n < f.variables + 1 + place v
  side_before l n v before (copy named declared_is) =
      let b = in_range f n d.well_formed declared_is in let c = b.1 in omega (arith, c)
  side_before l n v before (gate a b named number inside) = let low = before a b named in omega (arith, number, low)

  -- the gate of a variable
  module _ (v : ℕ) (inside : Contains gates v) where
    abbrev left_side : Literal
    left_side = (d.block.named v inside).0

    abbrev right_side : Literal
    right_side = (d.block.named v inside).1

    abbrev named : name_of entries v ≡ Some (Term left_side right_side)
    named = (d.block.named v inside).2

    both : (is_term_name (name_of entries (variable_of left_side)) ≡ true)
        × (is_term_name (name_of entries (variable_of right_side)) ≡ true)
    both = term_sides entries v left_side right_side d.logged named

    declared_sides : IsDeclaredCopy f entries left_side × IsDeclaredCopy f entries right_side
    declared_sides = d.can.sides v left_side right_side named

    order : IsTermBefore entries gates v left_side × IsTermBefore entries gates v right_side
    order = d.block.order v left_side right_side inside named

    left_is : (n : ℕ) × (r (variable_of left_side) ≡ Some n) × IsSide left_side n
    left_is = side_of left_side both.0 declared_sides.0
        (inside_before f entries id ids y leaf gates d v left_side inside order.0)

    right_is : (n : ℕ) × (r (variable_of right_side) ≡ Some n) × IsSide right_side n
    right_is = side_of right_side both.1 declared_sides.1
        (inside_before f entries id ids y leaf gates d v right_side inside order.1)

    abbrev here : Gate
    here = term_gate r v (name_of entries v)

    here_is : here ≡ term_gate r v (Some (Term left_side right_side))
    here_is = ap (term_gate r v) named

    number_is : r v ≡ Some (f.variables + (place v + 1))
    number_is = gate_numbered f gates entries v left_side right_side named inside

    pub gate_number : here.variable ≡ f.variables + (place v + 1)
    gate_number = ap (λ (g : Gate). g.variable) here_is ∙ ap or_zero number_is

    left_variable_is : left_variable here ≡ left_is.0
    left_variable_is = ap left_variable here_is ∙ side_code left_side left_is.0 left_is.1

    right_variable_is : right_variable here ≡ right_is.0
    right_variable_is = ap right_variable here_is ∙ side_code right_side right_is.0 right_is.1

    pub gate_at : IsGateAt f (f.variables + 1 + place v) here
    gate_at = record {
      numbered = let n = gate_number in omega (arith, n);
      left_before = let n = left_variable_is in let b = side_before left_side left_is.0 v order.0 left_is.2 in
          omega (arith, n, b);
      right_before = let n = right_variable_is in let b = side_before right_side right_is.0 v order.1 right_is.2 in
          omega (arith, n, b);
      left_readable = ap (λ (g : Gate). is_readable f g.left) here_is
          ∙ side_readable left_side left_is.0 left_is.1 left_is.2;
      right_readable = ap (λ (g : Gate). is_readable f g.right) here_is
          ∙ side_readable right_side right_is.0 right_is.1 right_is.2;
    }

  -- each gate stands at its place
  gate_place : (i : ℕ) → i < length gates → place (get_or gates i 0) ≡ i
  gate_place i below = position_or_len_is (λ x. x == get_or gates i 0) gates i 0 (omega (arith, below))
      (λ k low. ne_eqb (get_or gates k 0) (get_or gates i 0) (d.block.distinct k i 0 low below))
      (λ low. eq-eqb (get_or gates i 0) (get_or gates i 0) refl)

  gates_allowed : AreGatesFrom f (f.variables + 1) (exported_gates f entries gates)
  gates_allowed = gates_from f (f.variables + 1) (exported_gates f entries gates) (λ i e below.
      let long = length-map gates (λ v. term_gate r v (name_of entries v)) in
      let b : i < length gates = omega (arith, below, long) in
      let v = get_or gates i 0 in
      let inside : Contains gates v = (i, b, get_or_default gates i v 0 b) in
      let at = subst (λ n. IsGateAt f (f.variables + 1 + n) (term_gate r v (name_of entries v))) (gate_place i b)
      (gate_at v inside) in
      subst (IsGateAt f (f.variables + 1 + i)) (sym (mapped (λ v. term_gate r v (name_of entries v)) gates i e b)) at)

  -- the output
  leaf_side : (l : Literal) → leaf ≡ LeafLiteral l → (n : ℕ) × (r (variable_of l) ≡ Some n) × IsSide l n
  leaf_side l is = side_of l (term_in_log f entries id ids y leaf gates d l is)
      (subst (IsLeafDeclared f entries) is d.can.leaf_declared)
      (subst (IsLeafListed entries gates) is d.block.leaf_listed)

  constant_allowed : (code : ℕ) → literal_variable code ≡ 0 → is_output f (length gates) code ≡ true
  constant_allowed code is = search (arith, and_from, nat_le, nat_lt, eq-eqb, le-leb)

  output_allowed : (out : Leaf) → leaf ≡ out → is_output f (length gates) (leaf_code r out) ≡ true
  output_allowed (Constant true) is = constant_allowed 1 (half_odd 0)
  output_allowed (Constant false) is = constant_allowed 0 (half_even 0)
  output_allowed (LeafLiteral l) is =
      let side = leaf_side l is in
      let n = side_code l side.0 side.1 in
      let small = side_small l side.0 side.2 in
      and_from (is_readable f (literal_code r l)) (nat_le (literal_variable (literal_code r l))
      (f.variables + length gates)) (side_readable l side.0 side.1 side.2)
      (le-leb (literal_variable (literal_code r l)) (f.variables + length gates) (omega (arith, n, small)))

  pub allowed : (steps : List ProofStep) →
      AreSteps (is_up_to (f.variables + length gates)) (first_definition_id f (length gates)) steps →
      length gates ≤ max_count → IsDefinitionOf f (exported_definition f entries y leaf gates steps)
  allowed steps are few =
      let long = length-map gates (λ v. term_gate r v (name_of entries v)) in
      record {
        few = omega (arith, few, long);
        gates = gates_allowed;
        output = subst (λ n. is_output f n (leaf_code r leaf) ≡ true) (sym long) (output_allowed leaf refl);
        steps = subst (λ n. AreSteps (is_up_to (f.variables + n)) (first_definition_id f n) steps) (sym long) are;
      }

  -- what is reached is read in the log
  module _ (steps : List ProofStep) where
    abbrev net : Netlist
    net = definition_netlist f (exported_definition f entries y leaf gates steps)

    gate_of_net : (g : Gate) → Contains net.gates g → (v : ℕ) × Contains gates v
        × (g ≡ term_gate r v (name_of entries v))
    gate_of_net g inside =
        let long = length-map gates (λ v. term_gate r v (name_of entries v)) in
        let low = inside.1 in
        let b : inside.0 < length gates = omega (arith, low, long) in
        let v = get_or gates inside.0 0 in (
          v,
          (inside.0, b, get_or_default gates inside.0 v 0 b),
          sym inside.2
              ∙ mapped (λ v. term_gate r v (name_of entries v)) gates inside.0 g b,
        )

    -- a literal of the log that has the number of a gate stands on it
    same_variable : (l : Literal) (v n : ℕ) → Contains gates v → r (variable_of l) ≡ Some n →
        n ≡ f.variables + (place v + 1) → variable_of l ≡ v
    same_variable l v n inside is number = injective f gates entries d.logged d.well_formed (variable_of l) v n is
        (number_is v inside ∙ ap Some (sym number))

    walk : (u x : ℕ) → Reaches net u x → x ≤ f.variables → (l : Literal) → r (variable_of l) ≡ Some u →
        IsSide l u → ReadsCopy entries l x
    walk u _ itself small l is (copy named declared_is) = reads_itself l u named
    walk u _ itself small l is (gate a b named number inside) = absurd (omega (arith, small, number))
    walk _ x (left g inside reach) small l is side =
        let at = gate_of_net g inside in
        let v = at.0 in
        let number : g.variable ≡ f.variables + (place v + 1) = ap (λ (h : Gate). h.variable) at.2
        ∙ gate_number v at.1 in
        let same = same_variable l v g.variable at.1 is number in
        let named' : name_of entries (variable_of l) ≡ Some (Term (left_side v at.1) (right_side v at.1)) =
        ap (name_of entries) same ∙ named v at.1 in
        let below : left_variable g ≡ (left_is v at.1).0 = ap left_variable at.2 ∙ left_variable_is v at.1 in
        reads_left l (left_side v at.1) (right_side v at.1) x named'
        (walk (left_variable g) x reach small (left_side v at.1) ((left_is v at.1).1 ∙ ap Some (sym below))
        (subst (IsSide (left_side v at.1)) (sym below) (left_is v at.1).2))
    walk _ x (right g inside reach) small l is side =
        let at = gate_of_net g inside in
        let v = at.0 in
        let number : g.variable ≡ f.variables + (place v + 1) = ap (λ (h : Gate). h.variable) at.2
        ∙ gate_number v at.1 in
        let same = same_variable l v g.variable at.1 is number in
        let named' : name_of entries (variable_of l) ≡ Some (Term (left_side v at.1) (right_side v at.1)) =
        ap (name_of entries) same ∙ named v at.1 in
        let below : right_variable g ≡ (right_is v at.1).0 = ap right_variable at.2 ∙ right_variable_is v at.1 in
        reads_right l (left_side v at.1) (right_side v at.1) x named'
        (walk (right_variable g) x reach small (right_side v at.1) ((right_is v at.1).1 ∙ ap Some (sym below))
        (subst (IsSide (right_side v at.1)) (sym below) (right_is v at.1).2))

    -- a constant reaches no variable
    none_from_zero : (u x : ℕ) → Reaches net u x → u ≡ 0 → 1 ≤ x → ⊥
    none_from_zero u _ itself zero_is one = omega (arith, zero_is, one)
    none_from_zero _ x (left g inside reach) zero_is one =
        let at = gate_of_net g inside in
        let number : g.variable ≡ f.variables + (place at.0 + 1) = ap (λ (h : Gate). h.variable) at.2
        ∙ gate_number at.0 at.1 in omega (arith, number, zero_is)
    none_from_zero _ x (right g inside reach) zero_is one =
        let at = gate_of_net g inside in
        let number : g.variable ≡ f.variables + (place at.0 + 1) = ap (λ (h : Gate). h.variable) at.2
        ∙ gate_number at.0 at.1 in omega (arith, number, zero_is)

    pub reads : (x : ℕ) → IsRead f (exported_definition f entries y leaf gates steps) x → TermLeafReads entries leaf x
    reads x h = by_leaf leaf refl h.reached where
      by_leaf : (out : Leaf) → leaf ≡ out → Reaches net (literal_variable (leaf_code r leaf)) x →
          TermLeafReads entries out x
      by_leaf (Constant b) is reach = search (arith, none_from_zero, half_odd, half_even)
      by_leaf (LeafLiteral l) is reach =
          let side = leaf_side l is in
          let n : literal_variable (leaf_code r leaf) ≡ side.0 = ap (λ o. literal_variable (leaf_code r o)) is
          ∙ side_code l side.0 side.1 in
          walk (literal_variable (leaf_code r leaf)) x reach h.of_formula l (side.1 ∙ ap Some (sym n))
          (subst (IsSide l) (sym n) side.2)
