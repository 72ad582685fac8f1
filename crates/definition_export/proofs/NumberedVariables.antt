-- Numbers of a block's variables: those of the formula are their own, and gates come behind.
use Rattle.std.proofs.Common.{◌≡◌, ℕ, ◌+◌, ◌^◌, ◌≤◌, ◌<◌, ◌==◌, ◌⊎◌, inl, inr, Bool, true, false, List, length, Option, None, Some, refl, sym, ◌∙◌, ap, arith}
use Rattle.std.specs.List.{Contains, position_or_len}
use Rattle.std.specs.Option.{option_map}
use Rattle.std.proofs.lemmas.Bool.{eqb-true, and_parts, cond-true}
use Rattle.std.proofs.lemmas.List.Elements.{All-contains}
use Rattle.list_laws.proofs.Members.{contains_tested}
use Rattle.dq_lits.specs.Literal.{Literal, variable_of}
use Rattle.dq_lits.specs.Formula.{Dqbf, declared, IsWellFormed}
use Rattle.dq_formula.specs.Prefix.{is_declared, IsLawful}
use Rattle.hint_log.specs.Conditions.{is_term_name, MayFollow}
use Rattle.hint_log.specs.Entries.{Entry, name_of}
use Rattle.hint_log.specs.Growth.{Each}
use Rattle.hint_log.specs.declared.names.Name.{Name}
use Rattle.hint_log.specs.declared.names.Name.TheVariants.{Copy as CopyOf, Term}
use Rattle.hint_log.proofs.Lawful.{names_are_unique_lem}
use Rattle.cert_export.specs.CircuitPart.{place_from_one}
use Rattle.cert_export.specs.Renaming.{IsInjective}
use Rattle.cert_export.proofs.CircuitNumbers.{IsPlace, place_parts, place_there, HasNumber}
use Rattle.definition_export.specs.ExportedDefinition.{definition_number, definition_renaming}
use Rattle.definition_proofs.specs.Shown.{IsDeclaredCopy}

-- a declared variable's number is in range
pub in_range : (f : Dqbf) (x : ℕ) → IsWellFormed f → is_declared f x ≡ true → (1 ≤ x) × (x ≤ f.variables)
in_range f x well declared_is = All-contains (λ v. (1 ≤ v) × (v ≤ f.variables)) (declared f) x well.prefix.in_range
    (contains_tested (declared f) x declared_is)

-- and small
pub lawful_range : (f : Dqbf) (x : ℕ) → IsLawful f → is_declared f x ≡ true → (1 ≤ x) × (x < 2 ^ 62)
lawful_range f x lawful declared_is = search (arith, All-contains, contains_tested)

module _ (f : Dqbf) (gates : List ℕ) where
  abbrev pub IsCopyNumber : Option Name → ℕ → Type 0
  IsCopyNumber o x = (o ≡ Some (CopyOf 1 x)) × (is_declared f x ≡ true)

  abbrev pub IsGateNumber : ℕ → Option Name → ℕ → Type 0
  IsGateNumber v o x = (n : ℕ) × IsPlace gates v n × (x ≡ f.variables + n) ×
      (a : Literal) × (b : Literal) × (o ≡ Some (Term a b))

  abbrev pub IsNumbered : ℕ → Option Name → ℕ → Type 0
  IsNumbered v o x = IsCopyNumber o x ⊎ IsGateNumber v o x

  pub number_cases : (v : ℕ) (o : Option Name) (x : ℕ) → definition_number f gates v o ≡ Some x → IsNumbered v o x
  number_cases v None x h = cc
  number_cases v (Some (CopyOf side u)) x h = search (arith, and_parts, eqb-true)
  number_cases v (Some (Term a b)) x h = by_option (place_from_one gates v) refl h where
    by_option : (o : Option ℕ) → place_from_one gates v ≡ o → option_map (λ p. f.variables + p) o ≡ Some x →
        IsNumbered v (Some (Term a b)) x
    by_option None is h = cc
    by_option (Some n) is h = let same : f.variables + n ≡ x = cc in
        inr (n, place_parts gates v n is, sym same, a, b, refl)
  number_cases v (Some _) x h = cc

  pub number_bounds : IsWellFormed f → (v : ℕ) (o : Option Name) (x : ℕ) → definition_number f gates v o ≡ Some x →
      (1 ≤ x) × (x ≤ f.variables + length gates)
  number_bounds well v o x h = by_case (number_cases v o x h) where
    by_case : IsNumbered v o x → (1 ≤ x) × (x ≤ f.variables + length gates)
    by_case (inl c) = let r = in_range f x well c.1 in let a = r.0 in let b = r.1 in (a, omega (arith, b))
    by_case (inr g) = let n = g.1.number in let is = g.2 in let b = g.1.below in
        (omega (arith, n, is), omega (arith, n, is, b))

  module _ (entries : List Entry) (lawful : Each MayFollow entries) (well : IsWellFormed f) where
    same_gate : (v w n : ℕ) → IsPlace gates v n → IsPlace gates w n → v ≡ w
    same_gate v w n p q = search arith

    by_cases : (v w x : ℕ) → IsNumbered v (name_of entries v) x → IsNumbered w (name_of entries w) x → v ≡ w
    by_cases v w x (inl c) (inl d) = names_are_unique_lem entries v w (CopyOf 1 x) lawful c.0 d.0
    by_cases v w x (inl c) (inr g) =
        let r = in_range f x well c.1 in let low = r.1 in let n = g.1.number in let is = g.2 in
        absurd (omega (arith, low, n, is))
    by_cases v w x (inr g) (inl c) =
        let r = in_range f x well c.1 in let low = r.1 in let n = g.1.number in let is = g.2 in
        absurd (omega (arith, low, n, is))
    by_cases v w x (inr g) (inr h) = search (arith, same_gate)

    pub injective : IsInjective (definition_renaming f entries gates)
    injective v w x h k = search (arith, by_cases, number_cases)

  -- literals that have numbers
  pub copy_numbered : (entries : List Entry) (l : Literal) (x : ℕ) →
      name_of entries (variable_of l) ≡ Some (CopyOf 1 x) → is_declared f x ≡ true →
      definition_renaming f entries gates (variable_of l) ≡ Some x
  copy_numbered entries l x named declared_is = search (arith, cond-true)

  pub gate_numbered : (entries : List Entry) (v : ℕ) (a b : Literal) → name_of entries v ≡ Some (Term a b) →
      Contains gates v →
      definition_renaming f entries gates v ≡ Some (f.variables + (position_or_len (λ z. z == v) gates + 1))
  gate_numbered entries v a b named inside = search (arith, place_there)

  pub term_numbered : (entries : List Entry) → IsWellFormed f → (l : Literal) →
      is_term_name (name_of entries (variable_of l)) ≡ true → IsDeclaredCopy f entries l →
      ((a b : Literal) → name_of entries (variable_of l) ≡ Some (Term a b) → Contains gates (variable_of l)) →
      HasNumber (definition_renaming f entries gates) l
  term_numbered entries well l term copy gate = by_option (name_of entries (variable_of l)) refl term where
    by_side : (side x : ℕ) → name_of entries (variable_of l) ≡ Some (CopyOf side x) → (b : Bool) → (side == 1) ≡ b →
        b ≡ true → HasNumber (definition_renaming f entries gates) l
    by_side side x is true e h =
        let named : name_of entries (variable_of l) ≡ Some (CopyOf 1 x) =
        is ∙ ap (λ s. Some (CopyOf s x)) (eqb-true side 1 e) in
        let there = copy x named in
        record { number = x; is = copy_numbered entries l x named there; from_one = (in_range f x well there).0 }
    by_side side x is false e h = cc

    by_option : (o : Option Name) → name_of entries (variable_of l) ≡ o → is_term_name o ≡ true →
        HasNumber (definition_renaming f entries gates) l
    by_option None is h = cc
    by_option (Some (CopyOf side x)) is h = by_side side x is (side == 1) refl h
    by_option (Some (Term a b)) is h = record {
      number = f.variables + (position_or_len (λ z. z == variable_of l) gates + 1);
      is = gate_numbered entries (variable_of l) a b is (gate a b is);
      from_one = omega arith;
    }
    by_option (Some _) is h = cc
