-- Numbers of the exported circuit's variables, and the codes of its literals.
use Rattle.std.proofs.Common.{◌≡◌, ℕ, ◌+◌, ◌*◌, ◌≤◌, ◌<◌, ◌==◌, Bool, true, false, cond, ◌⊎◌, inl, inr, List, [], ◌∷◌, map, length, get_or, Option, None, Some, refl, sym, ◌∙◌, ap, arith}
use Rattle.std.specs.List.{Contains, list_any, cons_option, position_or_len}
use Rattle.std.specs.Option.{option_map}
use Rattle.std.proofs.lemmas.Bool.{false≢true, eqb-true, cond-true}
use Rattle.std.proofs.lemmas.List.Sums.{passes_at_first}
use Rattle.list_laws.proofs.Members.{tested_inside}
use Rattle.dq_lits.specs.Literal.{Literal, positive, negative, variable_of, is_negative, opposite, on_variable}
use Rattle.dq_lits.specs.Formula.{Dqbf}
use Rattle.hint_log.specs.Conditions.{is_circuit_name, MayFollow}
use Rattle.hint_log.specs.Entries.{name_of, Entry, Named}
use Rattle.hint_log.specs.declared.names.Name.{Name}
use Rattle.hint_log.specs.declared.names.Name.TheVariants.{Input, And, Bad}
use Rattle.cert_text.specs.NegatedMatrix.{opposite_of, as_literal, without_constants}
use Rattle.hint_log.specs.Growth.{Each}
use Rattle.hint_log.specs.Naming.{numbered_from_one}
use Rattle.cert_export.specs.Given.{HasUniversalInputs}
use Rattle.cert_export.specs.Renaming.{Renaming, renamed_clause}
use Rattle.cert_export.specs.CircuitPart.{CircuitPart, place_from_one, max_number, circuit_number, circuit_renaming, or_zero, aiger_literal, literal_code, IsInFile}
use Rattle.cert_export.specs.ExportedCircuit.{CircuitNumbersAreInjective}
use Rattle.hint_log.specs.ProductiveLog.{IsRightlyNamed}
use Rattle.hint_log.proofs.Lawful.{names_are_unique_lem}
use Rattle.hint_log.proofs.NamedEntries.{number_below}
use Rattle.cert_export.proofs.Codes.{AreVariables, no_constants}
use Rattle.cert_text.proofs.CircuitLiterals.{opposite_even, opposite_odd, as_even, as_odd}

pub position_below : (v : ℕ) (xs : List ℕ) → list_any (λ x. x == v) xs ≡ true →
    position_or_len (λ x. x == v) xs < length xs
position_below v [] h = absurd (false≢true h)
position_below v (x ∷ xs) h = search (arith, (position_below v xs))

-- a place in a list
pub record IsPlace (xs : List ℕ) (v n : ℕ) : Type 0 where
  pub place : ℕ
  pub below : place < length xs
  pub there : get_or xs place 0 ≡ v
  pub number : n ≡ place + 1
  pub first : position_or_len (λ x. x == v) xs ≡ place

pub position_is : (xs : List ℕ) (v : ℕ) → list_any (λ x. x == v) xs ≡ true →
    IsPlace xs v (position_or_len (λ x. x == v) xs + 1)
position_is xs v h = search (arith, position_below, eqb-true, passes_at_first)

pub place_parts : (xs : List ℕ) (v n : ℕ) → place_from_one xs v ≡ Some n → IsPlace xs v n
place_parts xs v n h = search (arith, (position_is xs v))

pub place_there : (xs : List ℕ) (v : ℕ) → Contains xs v → place_from_one xs v ≡ Some
    (position_or_len (λ x. x == v) xs + 1)
place_there xs v inside = search (arith, cond-true, tested_inside)

module _ (f : Dqbf) (e : CircuitPart) where
  abbrev pub IsInputNumber : Option Name → ℕ → Type 0
  IsInputNumber o x = (u : ℕ) × (o ≡ Some (Input u)) × IsPlace f.universals u x

  abbrev pub IsGateNumber : ℕ → ℕ → Type 0
  IsGateNumber v x = (n : ℕ) × IsPlace e.gates v n × (x ≡ length f.universals + n)

  abbrev pub IsBadNumber : Option Name → ℕ → Type 0
  IsBadNumber o x = (j : ℕ) × (o ≡ Some (Bad e.group j)) × (1 ≤ j) × (x ≡ max_number f e + j) × (j ≤ length f.matrix)

  abbrev pub IsNumbered : ℕ → Option Name → ℕ → Type 0
  IsNumbered v o x = IsInputNumber o x ⊎ (IsGateNumber v x ⊎ IsBadNumber o x)

  pub number_cases : (v : ℕ) (o : Option Name) (x : ℕ) → circuit_number f e v o ≡ Some x → IsNumbered v o x
  number_cases v None x h = cc
  number_cases v (Some (Input u)) x h = inl (u, refl, place_parts f.universals u x h)
  number_cases v (Some (And a b)) x h = by_option (place_from_one e.gates v) refl h where
    by_option : (o : Option ℕ) → place_from_one e.gates v ≡ o → option_map (λ p. length f.universals + p) o ≡ Some x →
        IsNumbered v (Some (And a b)) x
    by_option None is h = cc
    by_option (Some n) is h = let same : length f.universals + n ≡ x = cc in
        inr (inl (n, place_parts e.gates v n is, sym same))
  number_cases v (Some (Bad g j)) x h = by_bit (g == e.group) refl h where
    by_option : g ≡ e.group → (o : Option (List Literal)) → numbered_from_one f.matrix j ≡ o →
        option_map (λ clause. max_number f e + j) o ≡ Some x → IsNumbered v (Some (Bad g j)) x
    by_option same None is h = cc
    by_option same (Some clause) is h =
        let number : max_number f e + j ≡ x = cc in
        inr (inr (
          j,
          ap (λ k. Some (Bad k j)) same,
          (number_below f.matrix j clause is).0,
          sym number,
          (number_below f.matrix j clause is).1,
        ))

    by_bit : (b : Bool) → (g == e.group) ≡ b → cond b (option_map (λ clause. max_number f e + j)
        (numbered_from_one f.matrix j)) None ≡ Some x → IsNumbered v (Some (Bad g j)) x
    by_bit true is h = by_option (eqb-true g e.group is) (numbered_from_one f.matrix j) refl h
    by_bit false is h = cc
  number_cases v (Some _) x h = cc

  pub number_from_one : (v : ℕ) (o : Option Name) (x : ℕ) → circuit_number f e v o ≡ Some x → 1 ≤ x
  number_from_one v o x h = search (arith, number_cases)

  pub same_place : (xs : List ℕ) (u w n : ℕ) → IsPlace xs u n → IsPlace xs w n → u ≡ w
  same_place xs u w n p q = search arith

  module _ (entries : List Entry) (lawful : Each MayFollow entries) (v w x : ℕ) where
    one_name : (n m : Name) → n ≡ m → name_of entries v ≡ Some n → name_of entries w ≡ Some m → v ≡ w
    one_name n m same h k = names_are_unique_lem entries v w n lawful h (k ∙ ap Some (sym same))

    by_cases : IsNumbered v (name_of entries v) x → IsNumbered w (name_of entries w) x → v ≡ w
    by_cases (inl i) (inl k) = search (arith, one_name, same_place)
    by_cases (inl i) (inr (inl g)) = absurd (omega (arith, i.2.number, i.2.below, g.1.number, g.2))
    by_cases (inl i) (inr (inr j)) = absurd (omega (arith, i.2.number, i.2.below, j.2, j.3))
    by_cases (inr (inl g)) (inl i) = absurd (omega (arith, i.2.number, i.2.below, g.1.number, g.2))
    by_cases (inr (inl g)) (inr (inl h)) = search (arith, same_place)
    by_cases (inr (inl g)) (inr (inr j)) = absurd (omega (arith, g.1.number, g.1.below, g.2, j.2, j.3))
    by_cases (inr (inr j)) (inl i) = absurd (omega (arith, i.2.number, i.2.below, j.2, j.3))
    by_cases (inr (inr j)) (inr (inl g)) = absurd (omega (arith, g.1.number, g.1.below, g.2, j.2, j.3))
    by_cases (inr (inr j)) (inr (inr k)) =
        let same : j.0 ≡ k.0 = omega (arith, j.3, k.3) in
        one_name (Bad e.group j.0) (Bad e.group k.0) (ap (Bad e.group) same) j.1 k.1

pub circuit_numbers_are_injective : CircuitNumbersAreInjective
circuit_numbers_are_injective f entries e lawful v w x h k = search (arith, by_cases, number_cases)

-- inputs are the formula's
pub inputs_by : (f : Dqbf) (P : List Entry → Entry → Type 0) → ((es : List Entry) (v : ℕ) (n : Name) →
    P es (Named v n) → IsRightlyNamed f n) → (es : List Entry) (v x : ℕ) → Each P es → name_of es v ≡ Some (Input x) →
    Contains f.universals x
inputs_by f P right [] v x given h = cc
inputs_by f P right (Named w n ∷ es) v x given h = search (arith, (inputs_by f P right es v x given.1))
inputs_by f P right (_ ∷ es) v x given h = inputs_by f P right es v x given.1 h

-- a literal whose variable has a number
pub record HasNumber (r : Renaming) (l : Literal) : Type 0 where
  pub number : ℕ
  pub is : r (variable_of l) ≡ Some number
  pub from_one : 1 ≤ number

pub circuit_numbered : (f : Dqbf) (entries : List Entry) (e : CircuitPart) → HasUniversalInputs f entries →
    (l : Literal) → is_circuit_name (name_of entries (variable_of l)) ≡ true →
    IsInFile entries e.gates l → HasNumber (circuit_renaming f entries e) l
circuit_numbered f entries e given l circuit in_file = by_option (name_of entries (variable_of l)) refl circuit where
  numbered : (n : ℕ) → circuit_renaming f entries e (variable_of l) ≡ Some n →
      HasNumber (circuit_renaming f entries e) l
  numbered n is = record {
    number = n;
    is = is;
    from_one = number_from_one f e (variable_of l)
        (name_of entries (variable_of l)) n is;
  }

  by_option : (o : Option Name) → name_of entries (variable_of l) ≡ o → is_circuit_name o ≡ true →
      HasNumber (circuit_renaming f entries e) l
  by_option None is h = cc
  by_option (Some (Input x)) is h = numbered (position_or_len (λ z. z == x) f.universals + 1)
      (ap (circuit_number f e (variable_of l)) is ∙ place_there f.universals x (given (variable_of l) x is))
  by_option (Some (And a b)) is h = numbered (length f.universals +
      (position_or_len (λ z. z == variable_of l) e.gates + 1))
      (ap (circuit_number f e (variable_of l)) is ∙ ap (option_map (λ p. length f.universals + p))
      (place_there e.gates (variable_of l) (in_file a b is)))
  by_option (Some _) is h = cc

module _ (r : Renaming) where
  pub code_at : (l : Literal) (h : HasNumber r l) → literal_code r l ≡ aiger_literal (is_negative l) h.number
  code_at l h = ap (λ o. aiger_literal (is_negative l) (or_zero o)) h.is

  pub as_code : (l : Literal) (h : HasNumber r l) → as_literal (literal_code r l) ≡ on_variable h.number l
  as_code (positive v) h = ap (λ o. as_literal (2 * or_zero o)) h.is ∙ as_even h.number
  as_code (negative v) h = ap (λ o. as_literal (2 * or_zero o + 1)) h.is ∙ as_odd h.number

  pub code_big : (l : Literal) → HasNumber r l → 2 ≤ literal_code r l
  code_big l h = search (arith, code_at)

  pub opposite_code : (l : Literal) → opposite_of (literal_code r l) ≡ literal_code r (opposite l)
  opposite_code (positive v) = opposite_even (or_zero (r v))
  opposite_code (negative v) = opposite_odd (or_zero (r v))

  pub opposite_number : (l : Literal) → HasNumber r l → HasNumber r (opposite l)
  opposite_number (positive v) h = record { number = h.number; is = h.is; from_one = h.from_one }
  opposite_number (negative v) h = record { number = h.number; is = h.is; from_one = h.from_one }

  pub renamed_is : (l : Literal) (h : HasNumber r l) (ls : List Literal) →
      renamed_clause r (l ∷ ls) ≡ on_variable h.number l ∷ renamed_clause r ls
  renamed_is l h ls = ap (λ o. cons_option (option_map (λ w. on_variable w l) o) (renamed_clause r ls)) h.is

  abbrev pub AllNumbered : List Literal → Type 0
  AllNumbered [] = Unit {0}
  AllNumbered (l ∷ ls) = HasNumber r l × AllNumbered ls

  codes_big : (ls : List Literal) → AllNumbered ls → AreVariables (map (literal_code r) ls)
  codes_big [] h = tt
  codes_big (l ∷ ls) h = (code_big l h.0, codes_big ls h.1)

  codes_are : (ls : List Literal) → AllNumbered ls → map as_literal (map (literal_code r) ls) ≡ renamed_clause r ls
  codes_are [] h = refl
  codes_are (l ∷ ls) h = search (arith, as_code, (codes_are ls h.1), renamed_is)

  -- a clause of codes is the renamed clause
  pub clause_codes : (ls : List Literal) → AllNumbered ls → without_constants (map (literal_code r) ls) ≡ Some
      (renamed_clause r ls)
  clause_codes ls h = no_constants (map (literal_code r) ls) (codes_big ls h) ∙ ap Some (codes_are ls h)
