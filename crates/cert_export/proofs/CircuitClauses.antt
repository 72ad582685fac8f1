-- The given clauses that an answer rests on, renamed, are those of the exported circuit's negated
-- matrix, under its ids.
use Rattle.std.proofs.Common.{◌≡◌, ℕ, zero, suc, ◌+◌, ◌-◌, ◌*◌, ◌≤◌, ◌<◌, ◌==◌, true, false, not, inl, inr, List, [], ◌∷◌, ◌++◌, map, take, length, get_or, slice_get, slice_index, Option, None, Some, refl, sym, ◌∙◌, ap, subst, arith, append_assoc}
use Rattle.std.specs.List.{All, sum_by, Contains, list_any, find, flat_map, cons_option, range_with_len, position_or_len}
use Rattle.std.specs.Option.{option_map, option_and_then}
use Rattle.std.proofs.lemmas.Bool.{cases_Bool, true≢false, eq-eqb, cond-true, cond-false}
use Rattle.std.proofs.lemmas.List.{length-map}
use Rattle.std.proofs.lemmas.List.FromFn.{get_or-range_with_len}
use Rattle.std.proofs.lemmas.List.Elements.{All-contains, Contains-append_cases}
use Rattle.list_laws.proofs.Elements.{kept_there, place_within, mapped_at, get-append_right}
use Rattle.list_laws.proofs.Members.{tested_inside}
use Rattle.list_laws.proofs.Sequences.{sum-none, sum-taken, before_below}
use Rattle.dq_lits.specs.Literal.{Literal, positive, negative, variable_of, is_negative, opposite, on_variable}
use Rattle.dq_lits.specs.Formula.{Dqbf, Existential, declared, is_universal, existential_of, IsWellFormed}
use Rattle.dq_lits.specs.Derivation.{LiveClauses}
use Rattle.dq_lits.proofs.SignedLiterals.{opposite-opposite}
use Rattle.dq_lits.proofs.FormulaVariables.{find_sound}
use Rattle.hint_log.specs.Conditions.{is_circuit_name, MayFollow}
use Rattle.hint_log.specs.Entries.{name_of, Entry, Given}
use Rattle.hint_log.specs.declared.names.Name.{Name}
use Rattle.hint_log.specs.declared.names.Name.TheVariants.{Selector, Input, And, Bad}
use Rattle.hint_log.specs.declared.origins.Leaf.{Leaf}
use Rattle.hint_log.specs.declared.origins.Leaf.TheVariants.{Constant, Literal as LeafLiteral}
use Rattle.hint_log.specs.declared.origins.Origin.{Origin}
use Rattle.hint_log.specs.declared.origins.Origin.TheVariants.{Gate as GateOf, Fault}
use Rattle.circuit_plain.specs.Netlist.{Netlist}
use Rattle.circuit_plain.specs.declared.circuits.Gate.{Gate}
use Rattle.cert_text.specs.NegatedMatrix.{opposite_of, gate_clauses, literal_under, falsity_clauses, all_falsity_clauses, some_clause_false, without_constants}
use Rattle.cert_text.proofs.NegatedClauses.{falsity_counted, gates_counted}
use Rattle.proof_checker.specs.CircuitProof.{circuit_literal, negated_candidate}
use Rattle.proof_checker.proofs.ShortenedClauses.{range_clause}
use Rattle.skolem_checker.specs.SkolemCircuit.{MappedCircuit}
use Rattle.hint_log.specs.Growth.{Each}
use Rattle.hint_log.specs.Naming.{numbered_from_one, named_literal, name_literal}
use Rattle.hint_log.specs.Origins.{leaf_with_sign, leaf_clause, matrix_literal, gate_rest, IsGateRest, IsLeafOf, IsFaultRest, IsSomeFaultRest, IsOriginsClause}
use Rattle.cert_export.specs.Given.{HasUniversalInputs}
use Rattle.cert_export.specs.Renaming.{Renaming, renamed_clause}
use Rattle.cert_export.specs.CircuitPart.{CircuitPart, max_number, circuit_number, circuit_renaming, or_zero, literal_code, leaf_code, gate_of, exported_netlist, exported_mapping, exported_candidate, last_base_id, circuit_id, IsOwnLeaf, IsCircuitClause, IsLeafInFile, IsCircuitPart}
use Rattle.cert_export.specs.ExportedCircuit.{CircuitClausesAreNegatedMatrix}
use Rattle.cert_export.proofs.Codes.{no_constants, false_behind}
use Rattle.cert_export.proofs.CircuitNumbers.{IsPlace, position_is, HasNumber, circuit_numbered, as_code, code_big, opposite_code, opposite_number, renamed_is, clause_codes}
use Rattle.log_laws.proofs.ReachedClauses.{name_stays}
use Rattle.log_laws.proofs.Found.{named_variable, find_there, numbered_among, split_at, variable}
use Rattle.log_laws.proofs.Solved.{split_literal, sides}
use Rattle.cert_export.proofs.PairNames.{from_one}
use Rattle.cert_export.proofs.Instances.{same_on}
use Rattle.cert_text.proofs.CircuitLiterals.{opposite_even, as_odd}

pub behind : {X : Type 0} (xs ys : List X) (n k : ℕ) → n ≡ length xs → slice_get (xs ++ ys) (n + k) ≡ slice_get ys k
behind xs ys n k h = ap (λ m. slice_get (xs ++ ys) (m + k)) h ∙ get-append_right xs ys k

pub gate_at : (g : ℕ → Gate) (vs : List ℕ) (rest : List (List ℕ)) (p k : ℕ) (c : List ℕ) → p < length vs →
    slice_get (gate_clauses (g (get_or vs p 0))) k ≡ Some c →
    slice_get (flat_map gate_clauses (map g vs) ++ rest) (3 * p + k) ≡ Some c
gate_at g [] rest p k c below h = absurd (omega arith)
gate_at g (v ∷ vs) rest zero k c below h =
    let e : 3 * zero + k ≡ k = omega arith in
    ap (slice_get (flat_map gate_clauses (map g (v ∷ vs)) ++ rest)) e
    ∙ kept_there (gate_clauses (g v) ++ flat_map gate_clauses (map g vs)) rest k c
    (kept_there (gate_clauses (g v)) (flat_map gate_clauses (map g vs)) k c h)
gate_at g (v ∷ vs) rest (suc p) k c below h =
    let e : 3 * suc p + k ≡ suc (suc (suc (3 * p + k))) = omega arith in
    ap (slice_get (flat_map gate_clauses (map g (v ∷ vs)) ++ rest)) e ∙ gate_at g vs rest p k c (omega arith) h

abbrev falsity : (ℕ → ℕ) → ℕ → Literal → List ℕ
falsity cl bad l = opposite_of (2 * bad) ∷ opposite_of (literal_under cl l) ∷ []

falsity_at : (cl : ℕ → ℕ) (bad : ℕ) (matrix : List (List Literal)) (rest : List (List ℕ)) (j i : ℕ)
    (clause : List Literal) (l : Literal) → slice_get matrix j ≡ Some clause → slice_get clause i ≡ Some l →
    slice_get (all_falsity_clauses cl bad matrix ++ rest) (sum_by length (take j matrix) + i) ≡ Some
    (falsity cl (bad + j) l)
falsity_at cl bad [] rest j i clause l h k = cc
falsity_at cl bad (c ∷ cs) rest zero i clause l h k =
    let same : c ≡ clause = cc in
    let e : sum_by length (take 0 (c ∷ cs)) + i ≡ i = omega (arith, sum-none (c ∷ cs)) in
    let b : bad ≡ bad + 0 = omega arith in
    let there = mapped_at (falsity cl bad) c i l (ap (λ x. slice_get x i) same ∙ k) in
    ap (slice_get (all_falsity_clauses cl bad (c ∷ cs) ++ rest)) e
    ∙ kept_there (falsity_clauses cl bad c ++ all_falsity_clauses cl (bad + 1) cs) rest i (falsity cl bad l)
    (kept_there (falsity_clauses cl bad c) (all_falsity_clauses cl (bad + 1) cs) i (falsity cl bad l) there)
    ∙ ap (λ n. Some (falsity cl n l)) b
falsity_at cl bad (c ∷ cs) rest (suc j) i clause l h k =
    let e : sum_by length (take (suc j) (c ∷ cs)) + i ≡ length c + (sum_by length (take j cs) + i) =
    omega (arith, sum-taken c cs j) in
    let long : length c ≡ length (falsity_clauses cl bad c) = sym (length-map c (falsity cl bad)) in
    let b : bad + 1 + j ≡ bad + suc j = omega arith in
    ap (slice_get (all_falsity_clauses cl bad (c ∷ cs) ++ rest)) e
    ∙ ap (λ xs. slice_get xs (length c + (sum_by length (take j cs) + i)))
    (append_assoc (falsity_clauses cl bad c) (all_falsity_clauses cl (bad + 1) cs) rest)
    ∙ behind (falsity_clauses cl bad c) (all_falsity_clauses cl (bad + 1) cs ++ rest) (length c)
    (sum_by length (take j cs) + i) long
    ∙ falsity_at cl (bad + 1) cs rest j i clause l h k
    ∙ ap (λ n. Some (falsity cl n l)) b

-- the literals of outputs
output_at : (g : Existential → ℕ) (ys : List Existential) (v : ℕ) (y : Existential) →
    find (λ z. z.variable == v) ys ≡ Some y →
    slice_index (map g ys) (position_or_len (λ x. x == v) (map variable ys)) ≡ g y
output_at g [] v y h = cc
output_at g (z ∷ zs) v y h = search (arith, (output_at g zs v y))

module _ (r : Renaming) where
  abbrev IsNumberedLeaf : Leaf → Type 0
  IsNumberedLeaf (Constant b) = Unit {0}
  IsNumberedLeaf (LeafLiteral l) = HasNumber r l

  literal_behind : (bad : ℕ) (k : Literal) → 1 ≤ bad → HasNumber r k →
      without_constants (opposite_of (2 * bad) ∷ literal_code r k ∷ []) ≡ Some
      (negative bad ∷ renamed_clause r (k ∷ []))
  literal_behind bad k one h = search (arith, opposite_even, no_constants, code_big, as_odd, as_code, renamed_is)

  nothing_behind : (bad code : ℕ) → 1 ≤ bad → code ≡ 0 → without_constants (opposite_of (2 * bad) ∷ code ∷ []) ≡ Some
      (negative bad ∷ [])
  nothing_behind bad code one none = search (arith, opposite_even, false_behind, as_odd)

  -- a fault's clause, with constants put in
  fault_codes : (cl : ℕ → ℕ) (bad : ℕ) (l : Literal) (out : Leaf) (tail : List Literal) → 1 ≤ bad →
      cl (variable_of l) ≡ leaf_code r out → IsNumberedLeaf out →
      leaf_clause (leaf_with_sign (not (is_negative l)) out) ≡ Some tail →
      without_constants (falsity cl bad l) ≡ Some (negative bad ∷ renamed_clause r tail)
  fault_codes cl bad (positive v) (Constant true) tail one code h t = search (arith, nothing_behind)
  fault_codes cl bad (positive v) (Constant false) tail one code h t = cc
  fault_codes cl bad (negative v) (Constant true) tail one code h t = cc
  fault_codes cl bad (negative v) (Constant false) tail one code h t = search (arith, nothing_behind)
  fault_codes cl bad (positive v) (LeafLiteral k) tail one code h t =
      search (arith, opposite_code, literal_behind, opposite_number)
  fault_codes cl bad (negative v) (LeafLiteral k) tail one code h t =
      search (arith, opposite_code, opposite-opposite, literal_behind)

  -- a gate's clauses
  pub gate_codes : (v i k : ℕ) (a b : Literal) (rest : List Literal) → i ≡ suc k → HasNumber r (positive v) →
      HasNumber r a → HasNumber r b → gate_rest v a b i ≡ Some rest →
      (codes : List ℕ) × (slice_get (gate_clauses (gate_of r v (Some (And a b)))) k ≡ Some codes) ×
      (without_constants codes ≡ Some (renamed_clause r rest))
  gate_codes v zero k a b rest e hv ha hb h = cc
  gate_codes v (suc zero) k a b rest e hv ha hb h =
      let is : negative v ∷ a ∷ [] ≡ rest = cc in
      let n : k ≡ 0 = omega (arith, e) in (
        literal_code r (negative v) ∷ literal_code r a ∷ [],
        ap (slice_get (gate_clauses (gate_of r v (Some (And a b))))) n ∙ ap (λ q. Some (q ∷ literal_code r a ∷ []))
            (opposite_code r (positive v)),
        clause_codes r (negative v ∷ a ∷ []) (opposite_number r (positive v) hv, (ha, tt)) ∙ ap
            (λ qs. Some (renamed_clause r qs)) is,
      )
  gate_codes v (suc (suc zero)) k a b rest e hv ha hb h =
      let is : negative v ∷ b ∷ [] ≡ rest = cc in
      let n : k ≡ 1 = omega (arith, e) in (
        literal_code r (negative v) ∷ literal_code r b ∷ [],
        ap (slice_get (gate_clauses (gate_of r v (Some (And a b))))) n ∙ ap (λ q. Some (q ∷ literal_code r b ∷ []))
            (opposite_code r (positive v)),
        clause_codes r (negative v ∷ b ∷ []) (opposite_number r (positive v) hv, (hb, tt)) ∙ ap
            (λ qs. Some (renamed_clause r qs)) is,
      )
  gate_codes v (suc (suc (suc zero))) k a b rest e hv ha hb h =
      let is : positive v ∷ opposite a ∷ opposite b ∷ [] ≡ rest = cc in
      let n : k ≡ 2 = omega (arith, e) in (
        literal_code r (positive v) ∷ literal_code r (opposite a) ∷ literal_code r (opposite b) ∷ [],
        ap (slice_get (gate_clauses (gate_of r v (Some (And a b))))) n
            ∙ ap (λ q. Some (literal_code r (positive v) ∷ q ∷ opposite_of (literal_code r b) ∷ [])) (opposite_code r a)
            ∙ ap (λ q. Some (literal_code r (positive v) ∷ literal_code r (opposite a) ∷ q ∷ [])) (opposite_code r b),
        clause_codes r (positive v ∷ opposite a ∷ opposite b ∷ [])
            (hv, (opposite_number r a ha, (opposite_number r b hb, tt))) ∙ ap (λ qs. Some (renamed_clause r qs)) is,
      )
  gate_codes v (suc (suc (suc (suc i)))) k a b rest e hv ha hb h = cc

pub there_is : {X : Type 0} (xs : List X) (j : ℕ) → 1 ≤ j → j ≤ length xs → (x : X) × (numbered_from_one xs j ≡ Some x)
there_is xs zero h k = absurd (omega arith)
there_is [] (suc j) h k = absurd (omega arith)
there_is (y ∷ ys) (suc zero) h k = (y, refl)
there_is (y ∷ ys) (suc (suc j)) h k = there_is ys (suc j) (omega arith) (omega arith)

module _ (f : Dqbf) (all : List Entry) (e : CircuitPart) (well : IsWellFormed f) (lawful : Each MayFollow all)
    (given : HasUniversalInputs f all) (part : IsCircuitPart f all e) where
  abbrev r : Renaming
  r = circuit_renaming f all e

  abbrev net : Netlist
  net = exported_netlist f all e

  abbrev mapped : MappedCircuit
  mapped = record { netlist = net; mapping = exported_mapping f }

  abbrev cl : ℕ → ℕ
  cl v = circuit_literal mapped v

  abbrev live : LiveClauses
  live = negated_candidate (exported_candidate f all e)

  abbrev gate_count : ℕ
  gate_count = length e.gates

  gates_are : length (flat_map gate_clauses net.gates) ≡ 3 * gate_count
  gates_are = gates_counted net.gates ∙ ap (λ n. 3 * n) (length-map e.gates (λ v. gate_of r v (name_of all v)))

  -- a selector has no number
  dropped : (g : ℕ) (rest : List Literal) → name_of all g ≡ Some (Selector g) →
      renamed_clause r (negative g ∷ rest) ≡ renamed_clause r rest
  dropped g rest named = ap (λ o. cons_option (option_map (λ w. on_variable w (negative g)) (circuit_number f e g o))
      (renamed_clause r rest)) named

  -- a clause is, renamed, that of the negated matrix under its origin's id
  abbrev IsRight : Origin → List Literal → Type 0
  IsRight origin c = (live (circuit_id f e origin) ≡ Some (renamed_clause r c)) ×
      (circuit_id f e origin ≤ last_base_id f e)

  module _ (es more : List Entry) (is : all ≡ more ++ es) where
    stays : (v : ℕ) (n : Name) → name_of es v ≡ Some n → name_of all v ≡ Some n
    stays v n h = ap (λ xs. name_of xs v) is ∙ name_stays more es v n (subst (Each MayFollow) is lawful) h

    gate_right : (v i : ℕ) (rest : List Literal) → Contains e.gates v → IsGateRest es v i rest →
        IsRight (GateOf v i) rest
    gate_right v i rest inside g = by_number i refl where
      named : name_of all v ≡ Some (And g.left g.right)
      named = stays v (And g.left g.right) g.named

      place : IsPlace e.gates v (position_or_len (λ x. x == v) e.gates + 1)
      place = position_is e.gates v (tested_inside e.gates v inside)

      own : HasNumber r (positive v)
      own = circuit_numbered f all e given (positive v) (ap is_circuit_name named) (λ a b h. inside)

      left : HasNumber r g.left
      left = circuit_numbered f all e given g.left (sides all v g.left g.right lawful named).0
          (part.sides v g.left g.right inside named).0

      right : HasNumber r g.right
      right = circuit_numbered f all e given g.right (sides all v g.left g.right lawful named).1
          (part.sides v g.left g.right inside named).1

      by_number : (n : ℕ) → i ≡ n → IsRight (GateOf v i) rest
      by_number zero q = let none : gate_rest v g.left g.right i ≡ None = ap (gate_rest v g.left g.right) q in
          let some = g.rest_is in cc
      by_number (suc (suc (suc (suc k)))) q = let none : gate_rest v g.left g.right i ≡ None =
          ap (gate_rest v g.left g.right) q in let some = g.rest_is in cc
      by_number (suc k) q =
          let codes = gate_codes r v i k g.left g.right rest q own left right g.rest_is in
          let p = place.place in
          let below = place.below in
          let id : circuit_id f e (GateOf v i) ≡ suc (3 * p + k) = omega (arith, q, place.first) in
          let here : slice_get (gate_clauses (gate_of r (get_or e.gates p 0) (name_of all (get_or e.gates p 0)))) k
          ≡ Some codes.0 =
          ap (λ w. slice_get (gate_clauses (gate_of r w (name_of all w))) k) place.there ∙ ap
          (λ o. slice_get (gate_clauses (gate_of r v o)) k) named ∙ codes.1 in
          let small : k < 3 = place_within (gate_clauses (gate_of r v (Some (And g.left g.right)))) k codes.0 codes.1 in
          let at = gate_at (λ w. gate_of r w (name_of all w)) e.gates
          (all_falsity_clauses cl (net.max_var + 1) f.matrix ++ some_clause_false net f.matrix ∷ []) p k codes.0
          below here in
          (ap live id ∙ ap (option_and_then without_constants) at ∙ codes.2, omega (arith, id, small, below))

    -- a leaf's code is that of the circuit
    leaf_right : (l : Literal) (out : Leaf) → Contains (declared f) (variable_of l) →
        IsLeafOf f es (variable_of l) out →
        ((y : Existential) → existential_of f (variable_of l) ≡ Some y → out ≡ e.leaf y) →
        (cl (variable_of l) ≡ leaf_code r out) × IsNumberedLeaf r out
    leaf_right l out bound is_leaf own = elim (cases_Bool (is_universal f (variable_of l))) [
      | inl universal ↦ by_input universal out is_leaf
      | inr other ↦ by_option other (existential_of f (variable_of l)) refl
    ] where
      by_input : is_universal f (variable_of l) ≡ true → (o : Leaf) → IsLeafOf f es (variable_of l) o →
          (cl (variable_of l) ≡ leaf_code r o) × IsNumberedLeaf r o
      by_input universal (Constant b) h = absurd (true≢false (sym universal ∙ h))
      by_input universal (LeafLiteral k) h =
          let input = h.0 universal in
          let named = stays (variable_of k) (Input (variable_of l)) input.1 in
          let place = position_is f.universals (variable_of l) universal in
          let p = position_or_len (λ x. x == variable_of l) f.universals in
          let below : p < length f.universals = omega (arith, place.first, place.below) in
          let number : r (variable_of k) ≡ Some (p + 1) = ap (circuit_number f e (variable_of k)) named ∙ cond-true
          (list_any (λ x. x == variable_of l) f.universals) (Some (p + 1)) None universal in
          let one : 1 + p ≡ p + 1 = omega arith in
          let code : literal_code r k ≡ 2 * (p + 1) = ap (literal_code r) input.0 ∙ ap (λ o. 2 * or_zero o) number in (
            cond-true (is_universal f (variable_of l)) (2 * slice_index net.inputs p)
                (slice_index net.outputs (position_or_len (λ y. y == variable_of l) (map variable f.existentials)))
                universal
                ∙ ap (λ n. 2 * n) (get_or-range_with_len 1 (length f.universals) p 0 below ∙ one) ∙ sym code,
            record { number = p + 1; is = number; from_one = omega arith },
          )

      by_option : is_universal f (variable_of l) ≡ false → (o : Option Existential) →
          existential_of f (variable_of l) ≡ o → (cl (variable_of l) ≡ leaf_code r out) × IsNumberedLeaf r out
      by_option other None none = absurd (elim (Contains-append_cases f.universals (map variable f.existentials)
          (variable_of l) bound) [
            | inl universal ↦ true≢false (sym (tested_inside f.universals (variable_of l) universal) ∙ other)
            | inr existential ↦ find_there f.existentials (variable_of l) existential none
          ])
      by_option other (Some y) found =
          let same = own y found in
          let inside = (find_sound (variable_of l) f.existentials y found).0 in
          let in_file = All-contains (λ z. IsLeafInFile all e.gates (e.leaf z)) f.existentials y part.leaves inside in (
            cond-false (is_universal f (variable_of l)) (2 * slice_index net.inputs
                (position_or_len (λ x. x == variable_of l) f.universals))
                (slice_index net.outputs (position_or_len (λ y. y == variable_of l)
                (map variable f.existentials))) other
                ∙ output_at (λ z. leaf_code r (e.leaf z)) f.existentials (variable_of l) y found ∙ ap (leaf_code r)
                (sym same),
            numbered_leaf out is_leaf (subst (IsLeafInFile all e.gates) (sym same) in_file),
          ) where
            numbered_leaf : (o : Leaf) → IsLeafOf f es (variable_of l) o → IsLeafInFile all e.gates o →
                IsNumberedLeaf r o
            numbered_leaf (Constant b) h k = tt
            numbered_leaf (LeafLiteral q) h k = circuit_numbered f all e given q k.0 k.1

    bad_number : (v j : ℕ) (clause : List Literal) → name_of es v ≡ Some (Bad e.group j) →
        numbered_from_one f.matrix j ≡ Some clause → r v ≡ Some (max_number f e + j)
    bad_number v j clause named there =
        ap (circuit_number f e v) (stays v (Bad e.group j) named)
        ∙ cond-true (e.group == e.group) (option_map (λ c. max_number f e + j) (numbered_from_one f.matrix j))
        None (eq-eqb e.group e.group refl)
        ∙ ap (option_map (λ c. max_number f e + j)) there

    fault_right : (j i : ℕ) (out : Leaf) (rest : List Literal) → IsOwnLeaf f e (suc j) i out →
        IsFaultRest f es e.group (suc j) i out rest →
        IsRight (Fault (suc j) i out) rest
    fault_right j i out rest own fault =
        let l = fault.literal in
        let parts = split_literal (numbered_from_one f.matrix (suc j)) i l fault.literal_is in
        let clause = parts.0 in
        let bound = All-contains (λ k. Contains (declared f) (variable_of k)) clause l
        (All-contains (All (λ k. Contains (declared f) (variable_of k))) f.matrix clause well.bound
        (numbered_among f.matrix (suc j) clause parts.1)) (numbered_among clause i l parts.2) in
        let leaf = leaf_right l out bound fault.leaf_is (λ y found.
        let s = find_sound (variable_of l) f.existentials y found in
        All-contains (λ z. option_map variable_of (matrix_literal f (suc j) i) ≡ Some z.variable → out ≡ e.leaf z)
        f.existentials y own s.0 (ap (option_map variable_of) fault.literal_is ∙ ap Some (sym s.1))) in
        let bad = max_number f e + 1 + j in
        let bad_is : max_number f e + suc j ≡ bad = omega arith in
        let codes = fault_codes r cl bad l out fault.tail (omega arith) leaf.0 leaf.1 fault.tail_is in
        let literal_at = from_one clause i l parts.2 in
        let clause_at = from_one f.matrix (suc j) clause parts.1 in
        let j0 : suc j - 1 ≡ j = omega arith in
        let clause_there : slice_get f.matrix j ≡ Some clause = ap (slice_get f.matrix) (sym j0) ∙ clause_at.1 in
        let last = some_clause_false net f.matrix ∷ [] in
        let at = falsity_at cl (net.max_var + 1) f.matrix last j (i - 1) clause l clause_there literal_at.1 in
        let id : circuit_id f e (Fault (suc j) i out) ≡ suc (3 * gate_count +
        (sum_by length (take j f.matrix) + (i - 1))) = omega (arith, literal_at.0) in
        let place = behind (flat_map gate_clauses net.gates) (all_falsity_clauses cl (net.max_var + 1) f.matrix ++ last)
        (3 * gate_count) (sum_by length (take j f.matrix) + (i - 1)) (sym gates_are) in
        let number : r fault.bad ≡ Some bad =
        bad_number fault.bad (suc j) clause fault.bad_is parts.1 ∙ ap Some bad_is in
        let renamed : renamed_clause r rest ≡ negative bad ∷ renamed_clause r fault.tail =
        ap (renamed_clause r) fault.rest_is ∙ ap (λ o. cons_option
        (option_map (λ w. on_variable w (negative fault.bad)) o) (renamed_clause r fault.tail)) number in (
          ap live id ∙ ap (option_and_then without_constants) (place ∙ at) ∙ codes ∙ ap Some (sym renamed),
          omega (
            arith,
            id,
            before_below f.matrix j (i - 1) clause clause_there (place_within clause (i - 1) l literal_at.1),
          ),
        )

    bads_renamed : (rest : List Literal) (from count : ℕ) → 1 ≤ from → from + count ≤ length f.matrix + 1 →
        map (name_literal es) rest ≡ map Some (map (λ j. named_literal (Bad e.group j) false)
        (range_with_len from count)) →
        renamed_clause r rest ≡ map positive (range_with_len (max_number f e + from) count)
    bads_renamed [] from zero one most h = refl
    bads_renamed (q ∷ rest) from zero one most h = cc
    bads_renamed [] from (suc count) one most h = cc
    bads_renamed (q ∷ rest) from (suc count) one most h =
        let here : name_literal es q ≡ Some (named_literal (Bad e.group from) false) = cc in
        let later : map (name_literal es) rest ≡ map Some (map (λ j. named_literal (Bad e.group j) false)
        (range_with_len (from + 1) count)) = cc in
        let named = named_variable es q (Bad e.group from) false (name_of es (variable_of q)) refl here in
        let clause = there_is f.matrix from one (omega arith) in
        let number = bad_number (variable_of q) from clause.0 named.0 clause.1 in
        let next : max_number f e + (from + 1) ≡ max_number f e + from + 1 = omega arith in
        ap (λ o. cons_option (option_map (λ w. on_variable w q) o) (renamed_clause r rest)) number
        ∙ ap (λ x. x ∷ renamed_clause r rest) (same_on (max_number f e + from) q (positive 0) named.1)
        ∙ ap (λ xs. positive (max_number f e + from) ∷ xs) (bads_renamed rest (from + 1) count (omega arith)
        (omega arith) later ∙ ap (λ n. map positive (range_with_len n count)) next)

    some_right : (i : ℕ) (out : Leaf) (rest : List Literal) → IsSomeFaultRest f es e.group out rest →
        IsRight (Fault zero i out) rest
    some_right i out rest some =
        let C = length f.matrix in
        let M = max_number f e in
        let total = sum_by length f.matrix in
        let id : last_base_id f e ≡ suc (3 * gate_count + (total + 0)) = omega arith in
        let last = some_clause_false net f.matrix ∷ [] in
        let place = behind (flat_map gate_clauses net.gates) (all_falsity_clauses cl (net.max_var + 1) f.matrix ++ last)
        (3 * gate_count) (total + 0) (sym gates_are) in
        let at = behind (all_falsity_clauses cl (net.max_var + 1) f.matrix) last total 0
        (sym (falsity_counted cl (net.max_var + 1) f.matrix)) in
        let codes = sym (range_clause (M + 1) C (omega arith)) in
        let renamed = bads_renamed rest 1 C (omega arith) (omega arith) some.1 in
        (ap live id ∙ ap (option_and_then without_constants) (place ∙ at) ∙ codes ∙ ap Some (sym renamed), omega arith)

    with_group : (origin : Origin) (c rest : List Literal) (group : ℕ) → c ≡ negative group ∷ rest →
        name_of es group ≡ Some (Selector group) → IsRight origin rest → IsRight origin c
    with_group origin c rest group is named right =
        let same : renamed_clause r c ≡ renamed_clause r rest =
        ap (renamed_clause r) is ∙ dropped group rest (stays group (Selector group) named) in
        (right.0 ∙ ap Some (sym same), right.1)

    clause_right : (origin : Origin) (c : List Literal) → IsOriginsClause f es origin c → IsCircuitClause f e origin c →
        IsRight origin c
    clause_right (GateOf v i) c o mine =
        with_group (GateOf v i) c o.rest o.group o.clause_is o.is_group (gate_right v i o.rest mine o.rest_is)
    clause_right (Fault zero zero out) c o mine =
        let group : negative e.group ∷ mine.0.0 ≡ negative o.group ∷ o.rest = sym mine.0.1 ∙ o.clause_is in
        let one : o.group ≡ e.group = cc in
        with_group (Fault zero zero out) c o.rest o.group o.clause_is o.is_group
        (some_right zero out o.rest (subst (λ n. IsSomeFaultRest f es n out o.rest) one o.rest_is))
    clause_right (Fault zero (suc i) out) c o mine = absurd o.rest_is
    clause_right (Fault (suc j) i out) c o mine =
        let group : negative e.group ∷ mine.0.0 ≡ negative o.group ∷ o.rest = sym mine.0.1 ∙ o.clause_is in
        let one : o.group ≡ e.group = cc in
        with_group (Fault (suc j) i out) c o.rest o.group o.clause_is o.is_group
        (fault_right j i out o.rest mine.1 (subst (λ n. IsFaultRest f es n (suc j) i out o.rest) one o.rest_is))
    clause_right _ c o mine = absurd mine

pub circuit_clauses_are_negated_matrix : CircuitClausesAreNegatedMatrix
circuit_clauses_are_negated_matrix f entries e well lawful given part id origin c at usable =
    let place = split_at entries id (Given origin c) at in
    let is : entries ≡ (place.0 ++ Given origin c ∷ []) ++ place.1 =
    place.2 ∙ sym (append_assoc place.0 (Given origin c ∷ []) place.1) in
    clause_right f entries e well lawful given part place.1 (place.0 ++ Given origin c ∷ []) is origin c
    (usable.1 place.0 place.1 place.2) usable.0
