-- The given clauses that an answer rests on, renamed, are those of the block's base, under its ids.
use Rattle.std.proofs.Common.{◌≡◌, nat_lt, ℕ, zero, suc, ◌+◌, ◌*◌, ◌≤◌, ◌<◌, ◌==◌, ◌⊎◌, true, false, inl, inr, List, [], ◌∷◌, ◌++◌, map, length, get_or, slice_get, Option, None, Some, refl, sym, ◌∙◌, ap, subst, arith}
use Rattle.std.specs.List.{Contains, flat_map, cons_option, position_or_len}
use Rattle.std.specs.Option.{option_map, option_and_then}
use Rattle.std.proofs.lemmas.Bool.{cond-true, cond-false, lt-ltb, le-ltb}
use Rattle.std.proofs.lemmas.List.{length-map}
use Rattle.std.proofs.lemmas.List.Elements.{All-contains}
use Rattle.list_laws.proofs.Members.{tested_inside}
use Rattle.list_laws.proofs.Elements.{place_within}
use Rattle.dq_lits.specs.Literal.{Literal, positive, negative, variable_of, is_negative, opposite, on_variable}
use Rattle.dq_lits.specs.Derivation.{ProofStep, LiveClauses}
use Rattle.dq_lits.specs.Formula.{Dqbf, declared, IsWellFormed}
use Rattle.dq_formula.specs.Prefix.{is_declared}
use Rattle.hint_log.specs.Conditions.{is_term_name, MayFollow}
use Rattle.hint_log.specs.Entries.{Entry, name_of}
use Rattle.hint_log.specs.Growth.{Each}
use Rattle.hint_log.specs.Naming.{numbered_from_one, named_literal, name_literal, AreNamedAs}
use Rattle.hint_log.specs.Origins.{leaf_with_sign, leaf_clause, with_sign, gate_rest, is_second, IsCopyRest, IsTermRest, IsTermLeaf, IsDifferRest}
use Rattle.hint_log.specs.declared.names.Name.{Name}
use Rattle.hint_log.specs.declared.names.Name.TheVariants.{Selector, Copy as CopyOf, Term}
use Rattle.hint_log.specs.declared.origins.Leaf.{Leaf}
use Rattle.hint_log.specs.declared.origins.Leaf.TheVariants.{Constant, Literal as LeafLiteral}
use Rattle.hint_log.specs.declared.origins.Origin.TheVariants.{TermGate, Differ}
use Rattle.cert_text.specs.DefinitionBlocks.{Definition}
use Rattle.cert_text.specs.NegatedMatrix.{opposite_of, gate_clauses, without_constants}
use Rattle.cert_text.proofs.NegatedClauses.{gates_counted}
use Rattle.defined_checker.specs.DefinitionBase.{definition_base, definition_clauses}
use Rattle.log_laws.proofs.Found.{named_variable, numbered_among}
use Rattle.log_laws.proofs.ReachedClauses.{name_stays}
use Rattle.cert_export.specs.CircuitPart.{leaf_code, literal_code}
use Rattle.cert_export.specs.Renaming.{Renaming, renamed_clause}
use Rattle.cert_export.proofs.CircuitClauses.{behind, gate_at, gate_codes}
use Rattle.cert_export.proofs.CircuitNumbers.{IsPlace, position_is, HasNumber, code_at, clause_codes, opposite_code, opposite_number}
use Rattle.cert_export.proofs.Codes.{false_behind}
use Rattle.cert_export.proofs.Instances.{same_on}
use Rattle.definition_export.specs.ExportedDefinition.{definition_number, definition_renaming, definition_id, last_definition_id, exported_definition, term_gate}
use Rattle.definition_proofs.specs.Shown.{ReadDeclaredCopies, IsLeafDeclared}
use Rattle.definition_export.specs.Exporting.{IsLeafListed, IsTermBefore}
use Rattle.definition_export.proofs.OrderedTerms.{term_sides}
use Rattle.definition_export.proofs.NumberedVariables.{copy_numbered, gate_numbered, term_numbered, in_range}
use Rattle.cert_text.proofs.CircuitLiterals.{opposite_even, opposite_odd, as_even, as_odd}

-- a literal on its own variable
own_literal : (l : Literal) → on_variable (variable_of l) l ≡ l
own_literal (positive v) = refl
own_literal (negative v) = refl

-- what the block's base holds
module _ (f : Dqbf) (d : Definition) where
  pub matrix_there : (j : ℕ) (clause : List Literal) → numbered_from_one f.matrix j ≡ Some clause →
      (definition_base f d j ≡ Some clause) × (j ≤ length f.matrix)
  matrix_there zero clause h = cc
  matrix_there (suc i) clause h = search (arith, place_within, cond-true, nat_lt, lt-ltb)

  pub behind_matrix : (k : ℕ) → definition_base f d (length f.matrix + suc k) ≡
      option_and_then without_constants (slice_get (definition_clauses d) k)
  behind_matrix k = search (arith, nat_lt, le-ltb, cond-false)

module _ (f : Dqbf) (all : List Entry) (y : ℕ) (leaf : Leaf) (gates : List ℕ) (steps : List ProofStep)
    (well : IsWellFormed f) (lawful : Each MayFollow all) (sides : ReadDeclaredCopies f all)
    (leaf_declared : IsLeafDeclared f all leaf)
    (order : (v : ℕ) (a b : Literal) → Contains gates v → name_of all v ≡ Some (Term a b) →
    IsTermBefore all gates v a × IsTermBefore all gates v b)
    (inside_before : (v : ℕ) (l : Literal) → Contains gates v → IsTermBefore all gates v l → (a b : Literal) →
    name_of all (variable_of l) ≡ Some (Term a b) → Contains gates (variable_of l))
    (leaf_listed : IsLeafListed all gates leaf) (own : is_declared f y ≡ true) where
  abbrev r : Renaming
  r = definition_renaming f all gates

  abbrev block : Definition
  block = exported_definition f all y leaf gates steps

  abbrev live : LiveClauses
  live = definition_base f block

  abbrev C : ℕ
  C = length f.matrix

  pub dropped : (g : ℕ) (rest : List Literal) → name_of all g ≡ Some (Selector g) →
      renamed_clause r (negative g ∷ rest) ≡ renamed_clause r rest
  dropped g rest named =
      ap (λ o. cons_option (option_map (λ w. on_variable w (negative g)) (definition_number f gates g o))
      (renamed_clause r rest)) named

  gate_count : length block.gates ≡ length gates
  gate_count = length-map gates (λ v. term_gate r v (name_of all v))

  abbrev last : List (List ℕ)
  last = (2 * y ∷ leaf_code r leaf ∷ []) ∷ (opposite_of (2 * y) ∷ opposite_of (leaf_code r leaf) ∷ []) ∷ []

  module _ (es more : List Entry) (is : all ≡ more ++ es) where
    stays : (v : ℕ) (n : Name) → name_of es v ≡ Some n → name_of all v ≡ Some n
    stays v n h = ap (λ xs. name_of xs v) is ∙ name_stays more es v n (subst (Each MayFollow) is lawful) h

    term_stays : (v : ℕ) → is_term_name (name_of es v) ≡ true → is_term_name (name_of all v) ≡ true
    term_stays v h = by_option (name_of es v) refl h where
      by_option : (o : Option Name) → name_of es v ≡ o → is_term_name o ≡ true → is_term_name (name_of all v) ≡ true
      by_option None e k = cc
      by_option (Some n) e k = ap is_term_name (stays v n e) ∙ k

    -- a copied clause is the clause
    copied : (rest clause : List Literal) → AreNamedAs es rest
        (map (λ l. named_literal (CopyOf 1 (variable_of l)) (is_negative l)) clause) →
        ((l : Literal) → Contains clause l → is_declared f (variable_of l) ≡ true) → renamed_clause r rest ≡ clause
    copied [] [] h bound = refl
    copied [] (l ∷ ls) h bound = cc
    copied (q ∷ qs) [] h bound = cc
    copied (q ∷ qs) (l ∷ ls) h bound =
        let here : name_literal es q ≡ Some (named_literal (CopyOf 1 (variable_of l)) (is_negative l)) = cc in
        let later : map (name_literal es) qs ≡ map Some
        (map (λ k. named_literal (CopyOf 1 (variable_of k)) (is_negative k)) ls) = cc in
        let named = named_variable es q (CopyOf 1 (variable_of l)) (is_negative l) (name_of es (variable_of q)) refl
        here in
        let number = copy_numbered f gates all q (variable_of l)
        (stays (variable_of q) (CopyOf 1 (variable_of l)) named.0) (bound l (0, omega arith, refl)) in
        ap (λ o. cons_option (option_map (λ w. on_variable w q) o) (renamed_clause r qs)) number
        ∙ ap (λ k. k ∷ renamed_clause r qs) (same_on (variable_of l) q l named.1 ∙ own_literal l)
        ∙ ap (λ ks. l ∷ ks) (copied qs ls later (λ k inside. bound k
        (suc inside.0, (let b = inside.1 in omega (arith, b)), inside.2)))

    pub copy_right : (j : ℕ) (rest : List Literal) → IsCopyRest f es 1 j rest →
        (live j ≡ Some (renamed_clause r rest)) × (j ≤ last_definition_id f gates)
    copy_right j rest h =
        let at = matrix_there f block j h.clause h.clause_is in
        let among_matrix = numbered_among f.matrix j h.clause h.clause_is in
        let bound = All-contains (λ c. (k : ℕ) (d : Literal) → k < length c → Contains (declared f) (variable_of
        (get_or c k d))) f.matrix h.clause well.bound among_matrix in
        let same = copied rest h.clause h.named (λ l inside.
        tested_inside (declared f) (variable_of l) (subst (λ q. Contains (declared f) (variable_of q)) inside.2
        (bound inside.0 l inside.1))) in
        let low = at.1 in
        (at.0 ∙ ap Some (sym same), omega (arith, low))

    pub gate_right : (v i : ℕ) (rest : List Literal) → Contains gates v → IsTermRest es v i rest →
        (live (definition_id f gates (TermGate v i)) ≡ Some (renamed_clause r rest)) ×
        (definition_id f gates (TermGate v i) ≤ last_definition_id f gates)
    gate_right v i rest inside g = by_number i refl where
      named : name_of all v ≡ Some (Term g.left g.right)
      named = stays v (Term g.left g.right) g.named

      place : IsPlace gates v (position_or_len (λ x. x == v) gates + 1)
      place = position_is gates v (tested_inside gates v inside)

      own_number : HasNumber r (positive v)
      own_number = record {
        number = f.variables + (position_or_len (λ z. z == v) gates + 1);
        is = gate_numbered f gates all v g.left g.right named inside;
        from_one = omega arith;
      }

      left : HasNumber r g.left
      left = term_numbered f gates all well g.left (term_sides all v g.left g.right lawful named).0
          (sides v g.left g.right named).0
          (inside_before v g.left inside (order v g.left g.right inside named).0)

      right : HasNumber r g.right
      right = term_numbered f gates all well g.right (term_sides all v g.left g.right lawful named).1
          (sides v g.left g.right named).1
          (inside_before v g.right inside (order v g.left g.right inside named).1)

      by_number : (n : ℕ) → i ≡ n → (live (definition_id f gates (TermGate v i)) ≡ Some (renamed_clause r rest)) ×
          (definition_id f gates (TermGate v i) ≤ last_definition_id f gates)
      by_number zero q = let none : gate_rest v g.left g.right i ≡ None = ap (gate_rest v g.left g.right) q in
          let some = g.rest_is in cc
      by_number (suc (suc (suc (suc k)))) q = let none : gate_rest v g.left g.right i ≡ None =
          ap (gate_rest v g.left g.right) q in let some = g.rest_is in cc
      by_number (suc k) q =
          let codes = gate_codes r v i k g.left g.right rest q own_number left right g.rest_is in
          let p = place.place in
          let first = place.first in
          let below = place.below in
          let id : definition_id f gates (TermGate v i) ≡ C + suc (3 * p + k) = omega (arith, q, first) in
          let here : slice_get (gate_clauses (term_gate r (get_or gates p 0) (name_of all (get_or gates p 0)))) k
          ≡ Some codes.0 =
          ap (λ w. slice_get (gate_clauses (term_gate r w (name_of all w))) k) place.there ∙ ap
          (λ o. slice_get (gate_clauses (term_gate r v o)) k) named ∙ codes.1 in
          let small : k < 3 = place_within (gate_clauses (term_gate r v (Some (Term g.left g.right)))) k codes.0
          codes.1 in
          let at = gate_at (λ w. term_gate r w (name_of all w)) gates last p k codes.0 below here in (
            ap live id ∙ behind_matrix f block (3 * p + k) ∙ ap (option_and_then without_constants) at ∙ codes.2,
            omega (arith, id, small, below),
          )

    leaf_number : (l : Literal) → leaf ≡ LeafLiteral l → IsTermLeaf es (LeafLiteral l) → HasNumber r l
    leaf_number l is_leaf term = search (arith, term_numbered, term_stays)

    -- the clauses by which the existential and the output differ
    module _ (copy : ℕ) (copy_is : name_of es copy ≡ Some (CopyOf 1 y)) where
      abbrev copy_number : HasNumber r (positive copy)
      copy_number = record {
        number = y;
        is = copy_numbered f gates all (positive copy) y (stays copy (CopyOf 1 y) copy_is) own;
        from_one = (in_range f y well own).0;
      }

      copy_code : literal_code r (positive copy) ≡ 2 * y
      copy_code = code_at r (positive copy) copy_number

      alone : (l : Literal) → HasNumber r l → (k : Literal) → on_variable y l ≡ k → r (variable_of l) ≡ Some y →
          renamed_clause r (l ∷ []) ≡ k ∷ []
      alone l h k same number =
          ap (λ o. cons_option (option_map (λ w. on_variable w l) o) []) number ∙ ap (λ q. q ∷ []) same

      first_codes : (out : Leaf) (tail : List Literal) → ((l : Literal) → out ≡ LeafLiteral l → HasNumber r l) →
          leaf_clause out ≡ Some tail →
          without_constants (2 * y ∷ leaf_code r out ∷ []) ≡ Some (renamed_clause r (positive copy ∷ tail))
      first_codes (Constant true) tail numbered t = cc
      first_codes (Constant false) tail numbered t =
          let is : [] ≡ tail = cc in
          false_behind (2 * y) (let one = copy_number.from_one in omega (arith, one))
          ∙ ap (λ q. Some (q ∷ [])) (as_even y)
          ∙ ap Some (sym (alone (positive copy) copy_number (positive y) refl copy_number.is))
          ∙ ap (λ qs. Some (renamed_clause r (positive copy ∷ qs))) is
      first_codes (LeafLiteral l) tail numbered t =
          let is : l ∷ [] ≡ tail = cc in
          ap (λ n. without_constants (n ∷ literal_code r l ∷ [])) (sym copy_code)
          ∙ clause_codes r (positive copy ∷ l ∷ []) (copy_number, (numbered l refl, tt))
          ∙ ap (λ qs. Some (renamed_clause r (positive copy ∷ qs))) is

      second_codes : (out : Leaf) (tail : List Literal) → ((l : Literal) → out ≡ LeafLiteral l → HasNumber r l) →
          leaf_clause (leaf_with_sign true out) ≡ Some tail →
          without_constants (opposite_of (2 * y) ∷ opposite_of (leaf_code r out) ∷ [])
          ≡ Some (renamed_clause r (negative copy ∷ tail))
      second_codes (Constant false) tail numbered t = cc
      second_codes (Constant true) tail numbered t =
          let is : [] ≡ tail = cc in
          let none : opposite_of 1 ≡ 0 = opposite_odd 0 in
          ap (λ n. without_constants (n ∷ opposite_of 1 ∷ [])) (opposite_even y)
          ∙ ap (λ n. without_constants ((2 * y + 1) ∷ n ∷ [])) none
          ∙ false_behind (2 * y + 1) (let one = copy_number.from_one in omega (arith, one))
          ∙ ap (λ q. Some (q ∷ [])) (as_odd y)
          ∙ ap Some (sym (alone (negative copy) (opposite_number r (positive copy) copy_number) (negative y) refl
          copy_number.is))
          ∙ ap (λ qs. Some (renamed_clause r (negative copy ∷ qs))) is
      second_codes (LeafLiteral l) tail numbered t =
          let is : opposite l ∷ [] ≡ tail = cc in
          ap (λ n. without_constants (n ∷ opposite_of (literal_code r l) ∷ []))
          (ap opposite_of (sym copy_code) ∙ opposite_code r (positive copy))
          ∙ ap (λ n. without_constants (literal_code r (negative copy) ∷ n ∷ [])) (opposite_code r l)
          ∙ clause_codes r (negative copy ∷ opposite l ∷ [])
          (opposite_number r (positive copy) copy_number, (opposite_number r l (numbered l refl), tt))
          ∙ ap (λ qs. Some (renamed_clause r (negative copy ∷ qs))) is

    differ_at : (k : ℕ) → k < 2 → (c : List ℕ) → slice_get last k ≡ Some c →
        slice_get (definition_clauses block) (3 * length gates + k) ≡ Some c
    differ_at k small c at =
        let count = gate_count in
        let long = gates_counted block.gates in
        behind (flat_map gate_clauses block.gates) last (3 * length gates) k (omega (arith, long, count)) ∙ at

    pub differ_right : (part : ℕ) (rest : List Literal) → (part ≡ 1) ⊎ (part ≡ 2) → IsDifferRest f es y part leaf rest →
        (live (definition_id f gates (Differ y leaf part)) ≡ Some (renamed_clause r rest)) ×
        (definition_id f gates (Differ y leaf part) ≤ last_definition_id f gates)
    differ_right part rest either h = elim either [
      | inl one ↦ (
          let id : definition_id f gates (Differ y leaf part) ≡ C + suc (3 * length gates + 0) = omega (arith, one) in
          let tail : leaf_clause leaf ≡ Some h.tail = sym (ap leaf_clause (plain leaf))
          ∙ ap (λ n. leaf_clause (leaf_with_sign (is_second n) leaf)) (sym one) ∙ h.tail_is in
          let codes = first_codes h.copy h.copy_is leaf h.tail numbered tail in
          let is : rest ≡ positive h.copy ∷ h.tail = h.rest_is ∙ ap (λ n. with_sign (is_second n) h.copy ∷ h.tail)
          one in (
            ap live id ∙ behind_matrix f block (3 * length gates + 0)
                ∙ ap (option_and_then without_constants) (differ_at 0 (omega arith) (2 * y ∷ leaf_code r leaf ∷ []) refl)
                ∙ codes ∙ ap (λ qs. Some (renamed_clause r qs)) (sym is),
            omega (arith, id),
          ))
      | inr two ↦ (
          let id : definition_id f gates (Differ y leaf part) ≡ C + suc (3 * length gates + 1) = omega (arith, two) in
          let tail : leaf_clause (leaf_with_sign true leaf) ≡ Some h.tail =
          ap (λ n. leaf_clause (leaf_with_sign (is_second n) leaf)) (sym two) ∙ h.tail_is in
          let codes = second_codes h.copy h.copy_is leaf h.tail numbered tail in
          let is : rest ≡ negative h.copy ∷ h.tail = h.rest_is ∙ ap (λ n. with_sign (is_second n) h.copy ∷ h.tail)
          two in (
            ap live id ∙ behind_matrix f block (3 * length gates + 1)
                ∙ ap (option_and_then without_constants) (differ_at 1 (omega arith)
                (opposite_of (2 * y) ∷ opposite_of (leaf_code r leaf) ∷ []) refl)
                ∙ codes ∙ ap (λ qs. Some (renamed_clause r qs)) (sym is),
            omega (arith, id),
          ))
    ] where
      numbered : (l : Literal) → leaf ≡ LeafLiteral l → HasNumber r l
      numbered l is_leaf = leaf_number l is_leaf (subst (IsTermLeaf es) is_leaf h.leaf_is)

      plain : (out : Leaf) → leaf_with_sign false out ≡ out
      plain (Constant b) = refl
      plain (LeafLiteral l) = refl
